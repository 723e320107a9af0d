pub mod Wrapper
pub mod Steps
