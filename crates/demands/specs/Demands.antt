-- The three demands of document 01, each in a file of its own, and what they are stated with.
-- Assumes nothing.
pub use Rattle.demands.specs.Demand1.{Taken, InTable, Answers, Fills, ReadsMessage, TellsMessage, TellsMeta, FillsBeside, Opens, Demand1}
pub use Rattle.demands.specs.Demand2.{Writing, Canonical, Files, Tables, Keys, Addresses, Editing, Wrappers, Says, Messages, SectionFault, EntryFault, ListFault, Faults, Demand2}
pub use Rattle.demands.specs.Demand3.{Demand3}
