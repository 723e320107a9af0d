-- What the parts of the code ask and give that write an edited file: no promise cites it.
-- Assumes nothing.
use Rattle.std.specs.Prelude.{not, ◌||◌, List, ◌∷◌, ◌++◌, ℕ, ◌≤◌, eqb, leb, length}
use Rattle.answer.specs.Numbers.{SIZE, MANY, LIMIT}
use Rattle.answer.specs.Outcome.{Checks, room}
use Rattle.wire.specs.Numbers.{bytes_of}
use Rattle.aerosnap.specs.Known.{DEVICES}
use Rattle.aerosnap.specs.File.{file_most, sections_most, devices_most}

-- the first 16 bytes of a section or of a device's entry: u32 id, u16 version, u16 flags, u64 length
abbrev pub frame : ℕ → ℕ → ℕ → ℕ → List ℕ
frame id v f n = bytes_of 4 id ++ (bytes_of 2 v ++ (bytes_of 2 f ++ bytes_of 8 n))

-- an output of so many bytes holds the file b
pub record Holds (have : ℕ) (b : List ℕ) : Type 0 where
  pub most : length b ≤ file_most
  pub room : length b ≤ have

-- what is asked of a result behind its key, and its room: the entries of its list, that list's bytes, its sections, its bytes
abbrev pub bound_checks : ℕ → ℕ → ℕ → ℕ → ℕ → ℕ → ℕ → Checks
bound_checks most id entries bytes sections size have =
    (leb entries most, LIMIT, 0)
    ∷ (not (eqb id DEVICES) || leb bytes devices_most, LIMIT, 0)
    ∷ (leb sections sections_most, MANY, 0)
    ∷ (leb size file_most, SIZE, 0)
    ∷ room have size
