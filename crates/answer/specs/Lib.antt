pub mod Numbers
pub mod Outcome
pub mod Calls
pub mod Refusals
