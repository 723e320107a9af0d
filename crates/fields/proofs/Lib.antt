pub mod Table
pub mod Layouts
pub mod Splices
pub mod Bytes
pub mod Outcomes
pub mod Once
