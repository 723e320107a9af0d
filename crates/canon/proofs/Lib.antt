pub mod Pieces
pub mod Order
pub mod Filing
pub mod Others
pub mod Named
pub mod Forms
pub mod Once
