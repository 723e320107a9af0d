pub mod Sheet
pub mod Members
pub mod Calls
