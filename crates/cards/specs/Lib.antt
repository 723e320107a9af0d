pub mod Cards
pub mod Whole
pub mod Shifts
pub mod Calls
