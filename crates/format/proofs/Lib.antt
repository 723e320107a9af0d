pub mod Meaning
pub mod Spans
pub mod Placed
pub mod Exits
pub mod Listed
pub mod Within
pub mod Once
pub mod Examples
