pub mod Own
pub mod Laws
pub mod First
pub mod Loop
pub mod Once
