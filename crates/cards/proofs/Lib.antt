pub mod Moves
pub mod Carded
pub mod Walked
pub mod Whole
pub mod Shifts
pub mod Examples
pub mod Answers
pub mod Once
