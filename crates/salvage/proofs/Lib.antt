pub mod Rescuing
pub mod Once
