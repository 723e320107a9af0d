pub mod Keyed
pub mod Entries
pub mod Adding
