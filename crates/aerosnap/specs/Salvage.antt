-- Salvage: what can be kept of a file whose sections are broken, and one record for each loss.
-- Assumes nothing.
use Rattle.std.specs.Prelude.{List, [], ◌∷◌, ◌++◌, cond, ℕ, zero, suc, ◌+◌, length, take, drop}
use Rattle.answer.specs.Numbers.{CUT}
use Rattle.answer.specs.Outcome.{Outcome, taken, refused, checked, after, fitting}
use Rattle.wire.specs.Numbers.{bytes_of}
use Rattle.order.specs.Keyed.{flat}
use Rattle.order.specs.Entries.{join}
use Rattle.aerosnap.specs.File.{header_checks, length_of, fits_in, section_of}
use Rattle.aerosnap.specs.Content.{content_of, render}

-- A part of the file: a section that is kept, or bytes that are lost, with the number of their refusal.
pub data Part : Type 0 where
  keeps : List ℕ → Part
  loses : ℕ → List ℕ → Part

abbrev pub bytes_in : Part → List ℕ
bytes_in (keeps e) = e
bytes_in (loses n e) = e

-- the section that it keeps
abbrev pub kept_by : Part → List (List ℕ)
kept_by (keeps e) = e ∷ []
kept_by (loses n e) = []

-- how long the part is that begins b: a section that fits in the file, or else all that is left
abbrev pub length_of_part : List ℕ → ℕ
length_of_part b = cond (fits_in b) (16 + length_of b) (length b)

-- what the reader says of it after the sections kept before; whether it fits is asked first
abbrev pub read_part : List (List ℕ) → ℕ → List ℕ → Outcome ℕ
read_part before at b = checked ((fits_in b, CUT, at) ∷ []) (section_of before at b)

abbrev pub part_by : Outcome ℕ → List ℕ → Part
part_by (taken w) e = keeps e
part_by (refused n p) e = loses n e

-- the part that begins b and starts at a place, after the sections kept before
unfoldable pub part_of : List (List ℕ) → ℕ → List ℕ → Part
part_of before at b = part_by (read_part before at b) (take (length_of_part b) b)

-- a part, and those that it leaves to be found
abbrev pub followed : (Part → List Part) → Part → List Part
followed next x = x ∷ next x

-- the parts of the bytes from a place on, at most n, after the sections kept before
unfoldable pub parts_from : ℕ → List (List ℕ) → ℕ → List ℕ → List Part
parts_from zero before at b = []
parts_from (suc n) before at [] = []
parts_from (suc n) before at (c ∷ b) =
    followed (λ x. parts_from n (before ++ kept_by x) (at + length (bytes_in x)) (drop (length (bytes_in x)) (c ∷ b))) (part_of before at (c ∷ b))

-- the parts of a file behind its header: no more than it has bytes, since none is empty
abbrev pub parts_of : List ℕ → List Part
parts_of s = parts_from (length s) [] 16 (drop 16 s)

-- the sections that are kept
abbrev pub all_kept : List Part → List (List ℕ)
all_kept l = flat kept_by l

-- the record of a loss: u64 start, u64 bytes lost, u32 refusal number, u32 0
abbrev pub loss_bytes : ℕ → ℕ → ℕ → List ℕ
loss_bytes at bytes number = bytes_of 8 at ++ (bytes_of 8 bytes ++ (bytes_of 4 number ++ bytes_of 4 0))

-- that of a part at a place, if it is lost
abbrev pub loss_row : ℕ → Part → List (List ℕ)
loss_row at (keeps e) = []
loss_row at (loses n e) = loss_bytes at (length e) n ∷ []

-- the records of parts, the first of which starts at a place
abbrev pub loss_rows : ℕ → List Part → List (List ℕ)
loss_rows at [] = []
loss_rows at (x ∷ l) = loss_row at x ++ loss_rows (at + length (bytes_in x)) l

-- What is written: the kept content in canonical form, and the records.
pub record Rescued : Type 0 where
  pub file : List ℕ
  pub losses : List (List ℕ)

abbrev pub rescued_of : List Part → Rescued
rescued_of l = record { file = render (content_of (all_kept l)); losses = loss_rows 16 l }

-- the same for outputs of so many bytes, first that of the file, then that of the records
abbrev pub fitting_both : ℕ → ℕ → Rescued → Outcome Rescued
fitting_both have room x = after (fitting have x.file) (λ _. after (fitting room (join x.losses)) (λ _. taken x))

-- what is salvaged of a file: the header's faults and SIZE are refused as by the reader
unfoldable pub salvage : ℕ → ℕ → List ℕ → Outcome Rescued
salvage have room s = checked (header_checks s) (fitting_both have room (rescued_of (parts_of s)))
