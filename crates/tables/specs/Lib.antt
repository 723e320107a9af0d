pub mod Tables
pub mod Named
pub mod Steps
