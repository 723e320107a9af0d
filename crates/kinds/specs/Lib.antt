-- Kinds: the table of kinds.
pub mod Kinds
