pub mod Deep
pub mod Rows
pub mod Back
pub mod Ties
pub mod Answers
pub mod Once
