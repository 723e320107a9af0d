-- Going: what code learns from a piece or a test. Walks: the fields one after the other. Puts: parts put into the output.
-- Writes: the answers of `write`. Once: the promises fix their answers.
pub mod Going
pub mod Walks
pub mod Puts
pub mod Writes
pub mod Once
