-- Tags: tags that the table has not. Cells: what is said of fields with their numbers. Table: the table of kinds in both directions. Lengths: of written messages.
-- Back: what was written is read back. Again: a reading written again gives the same bytes. Exactly: the main theorems.
-- Examples: P10 to P12 of document 01 and one writing.
pub mod Tags
pub mod Cells
pub mod Table
pub mod Lengths
pub mod Back
pub mod Again
pub mod Exactly
pub mod Examples
pub mod Once
