pub mod Rows
pub mod Positions
pub mod Named
pub mod Once
pub mod Examples
