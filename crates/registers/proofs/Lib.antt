pub mod Arrays
pub mod Places
pub mod Mixed
pub mod Tied
pub mod Once
