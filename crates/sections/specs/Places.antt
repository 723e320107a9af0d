-- How many places an index has, chosen by how many entries the sections of a file say that they have.
-- Assumes nothing.
use Rattle.std.specs.Prelude.{cond, ℕ, ◌+◌, leb}
use Rattle.sections.specs.declared.Places.{Places}
use Rattle.sections.specs.declared.Places.TheVariants.{Few, Some, All}
use Rattle.sections.specs.Directory.{directory_places}

-- the places for starts; no file that is taken has more than 4864 entries
abbrev pub start_places : Places → ℕ
start_places Few = 32
start_places Some = 256
start_places All = 4864

-- and for a directory before them
abbrev pub places_in : Places → ℕ
places_in p = directory_places + start_places p

-- the fewest that hold so many starts
abbrev pub places_for : ℕ → Places
places_for n = cond (leb n (start_places Few)) Few (cond (leb n (start_places Some)) Some All)
