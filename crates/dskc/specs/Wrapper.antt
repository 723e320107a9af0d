-- The disk-controller wrapper: a header with fixed letters, and a list of controllers behind it.
-- Assumes nothing.
use Rattle.std.specs.Prelude.{List, [], ◌∷◌, ◌++◌, ◌&&◌, ℕ, ◌≤◌, length, take, drop, leb, eqb}
use Rattle.answer.specs.Numbers.{SHORT, MAGIC, VERSION, SIZE}
use Rattle.answer.specs.Outcome.{Outcome, Checks, checked, after, moved, fitting}
use Rattle.wire.specs.Numbers.{le_at}
use Rattle.wire.specs.Parts.{same}
use Rattle.format.specs.Format.{Is}
use Rattle.order.specs.Keyed.{Every, Apart, sort}
use Rattle.entries.specs.Kinds.{controllers}
use Rattle.lists.specs.Lists.{list_at, entries, list_bytes}
use Rattle.tables.specs.declared.Table.TheVariants.{Controllers}
use Rattle.tables.specs.Tables.{rows_at}

-- a wrapper has at most 64 MiB
abbrev pub wrapper_most : ℕ
wrapper_most = 67108864

-- `AERO`, `DSKC`
abbrev pub aero : List ℕ
aero = 0x41 ∷ 0x45 ∷ 0x52 ∷ 0x4F ∷ []

abbrev pub dskc : List ℕ
dskc = 0x44 ∷ 0x53 ∷ 0x4B ∷ 0x43 ∷ []

-- u16 1, u16 0
abbrev pub pair : List ℕ
pair = 1 ∷ 0 ∷ 0 ∷ 0 ∷ []

-- `AERO`, u16 1, u16 0, `DSKC`, u16 1, u16 0
abbrev pub wrapper_header : List ℕ
wrapper_header = aero ++ (pair ++ (dskc ++ pair))

-- what is asked of a wrapper before its list
abbrev pub wrapper_header_checks : List ℕ → Checks
wrapper_header_checks s =
    (leb (length s) wrapper_most, SIZE, 0)
    ∷ (leb 16 (length s), SHORT, 0)
    ∷ (same (take 4 s) aero, MAGIC, 0)
    ∷ (eqb (le_at 2 s 4) 1 && eqb (le_at 2 s 6) 0, VERSION, 4)
    ∷ (same (take 4 (drop 8 s)) dskc, MAGIC, 8)
    ∷ (eqb (le_at 2 s 12) 1 && eqb (le_at 2 s 14) 0, VERSION, 12)
    ∷ []

-- the wrapper that s is: where its controllers start behind the header, in address order, or its first fault
unfoldable pub wrapper_of : List ℕ → Outcome (List ℕ)
wrapper_of s = checked (wrapper_header_checks s) (moved 16 (list_at controllers (drop 16 s)))

-- controllers as a wrapper; a count of 0 is kept
abbrev pub wrapper_bytes : List (List ℕ) → List ℕ
wrapper_bytes l = wrapper_header ++ list_bytes l

-- what the controllers of a wrapper are, with no word of how they are read
pub record IsWrapper (l : List (List ℕ)) : Type 0 where
  pub few : length l ≤ controllers.most
  pub short : length (wrapper_bytes l) ≤ wrapper_most
  pub are : Every (Is controllers.form) l
  pub apart : Apart controllers.key l

-- the controllers of a wrapper, in the order in which they stand there
abbrev pub controllers_of : List ℕ → List (List ℕ)
controllers_of s = entries controllers (drop 16 s)

-- The calls, `have` being the length of the lent output.

-- the table of controllers in address order; offsets count from the start of the wrapper
abbrev pub controllers_call : ℕ → List ℕ → Outcome (List ℕ)
controllers_call have s = after (wrapper_of s) (λ l. fitting have (rows_at Controllers 16 (drop 16 s) l))

-- the canonical wrapper: in address order
abbrev pub wrapper_canonical_call : ℕ → List ℕ → Outcome (List ℕ)
wrapper_canonical_call have s = after (wrapper_of s) (λ _. fitting have (wrapper_bytes (sort controllers.key (controllers_of s))))
