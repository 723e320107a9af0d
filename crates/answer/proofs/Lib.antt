pub mod Refusals
pub mod Checks
pub mod Outcomes
pub mod Within
pub mod Once
pub mod Table
pub mod Each
pub mod Firsts
