pub mod Edits
pub mod Steps
pub mod Cuts
pub mod Plans
pub mod Rows
