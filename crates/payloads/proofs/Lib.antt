pub mod Bodies
pub mod Once
