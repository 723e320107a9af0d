-- Table: what the table of first bytes gives. Whole, Broken: the scan finds what the grammar says. Reading: the same for the
-- answers of `text` and for the test. Once: the promise of `text` allows one answer. Examples: the scan at work.
-- Turns: the scan at a place, for the loops of the code. Assumes nothing.
pub mod Table
pub mod Whole
pub mod Broken
pub mod Reading
pub mod Once
pub mod Examples
pub mod Turns
pub mod Tops
