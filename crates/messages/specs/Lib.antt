-- Fields: bytes and values of a field, and what bytes say. Reading, Writing: the two calls.
pub mod Fields
pub mod Reading
pub mod Writing
pub mod Steps
