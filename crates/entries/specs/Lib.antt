pub mod States
pub mod Kinds
pub mod Code
