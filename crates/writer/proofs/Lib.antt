pub mod Fits
pub mod Runs
pub mod Straight
pub mod Around
pub mod Whole
pub mod Once
pub mod Examples
