pub mod Accepted
pub mod Exits
pub mod Walks
pub mod Present
pub mod Contents
pub mod Once
pub mod Examples
