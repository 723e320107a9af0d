pub mod States
pub mod Heads
pub mod Keys
pub mod Lawful
pub mod Lengths
pub mod Once
pub mod Examples
