pub mod Lists
pub mod Promises
pub mod Steps
