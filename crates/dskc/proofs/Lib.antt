pub mod Headers
pub mod Reading
pub mod Taken
pub mod Canon
pub mod Once
pub mod Examples
