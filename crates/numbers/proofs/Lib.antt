-- Rows: what the row of a kind shows of numbers that were narrowed. Making: the answers of `message_of` and `write`.
-- Back: a message and its numbers say the same. Once: the promises fix their answers.
pub mod Rows
pub mod Making
pub mod Back
pub mod Once
