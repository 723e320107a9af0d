-- What is said of a list of fields with their numbers.
-- Assumes nothing.
use mathlib.Core.Path.{◌≡◌}
use mathlib.Core.Bool.{Bool, true, false, cond}
use mathlib.Core.List.{List, [], ◌∷◌}
use Prim.Native.Nat.{ℕ, ◌^◌, ◌<◌}
use native.Mathlib.Omega.{arith}
use borrow.Author.Tests.{leb-true}
use lib.Dec.{leb, eqb}
use Rattle.kinds.specs.declared.Message.{Message}
use Rattle.kinds.specs.declared.Field.{Field}
use Rattle.kinds.specs.declared.Field.TheVariants.{Absent, U8, U16, U32, U64, Flag, Level, Error}
use Rattle.kinds.specs.declared.Cell.{Cell}
use Rattle.kinds.specs.Kinds.{paper, cells}
use Rattle.messages.specs.Fields.{field_width, allowed}

abbrev pub fields_in : List Cell → List Field
fields_in [] = []
fields_in (c ∷ cs) = c.0 ∷ fields_in cs

abbrev pub numbers_in : List Cell → List ℕ
numbers_in [] = []
numbers_in (c ∷ cs) = c.1 ∷ numbers_in cs

-- each number fits the bytes of its field
abbrev pub Fit : ℕ → List Cell → Type 0
Fit ok [] = Unit {0}
Fit ok (c ∷ cs) = (c.1 < 256 ^ field_width ok c.0) × Fit ok cs

-- each number is among the values of its field
abbrev pub Allowed : ℕ → List Cell → Type 0
Allowed ok [] = Unit {0}
Allowed ok (c ∷ cs) = (allowed ok c.0 c.1 ≡ true) × Allowed ok cs

-- each number of a message is within its type, an error code within a u32
abbrev pub Typed : Message → Type 0
Typed k = Fit 0 (cells (paper k))

-- ---- bytes and types

-- the bytes of a field are those of its type, but for an error code beside an `ok` other than 0: what fits them is within the type, and what is
-- within the type and among the values fits them
pub record Widths (ok : ℕ) (f : Field) (v : ℕ) : Type 0 where
  pub typed : v < 256 ^ field_width ok f → v < 256 ^ field_width 0 f
  pub fits : allowed ok f v ≡ true → v < 256 ^ field_width 0 f → v < 256 ^ field_width ok f

pub widths : (ok : ℕ) (f : Field) (v : ℕ) → Widths ok f v
widths ok Absent v = record { typed = λ h. h; fits = λ a h. h }
widths ok U8 v = record { typed = λ h. h; fits = λ a h. h }
widths ok U16 v = record { typed = λ h. h; fits = λ a h. h }
widths ok U32 v = record { typed = λ h. h; fits = λ a h. h }
widths ok U64 v = record { typed = λ h. h; fits = λ a h. h }
widths ok Flag v = record { typed = λ h. h; fits = λ a h. h }
widths ok Level v = record { typed = λ h. h; fits = λ a h. h }
widths ok Error v = record { typed = typed (eqb ok 0); fits = fits (eqb ok 0) }
  where
    typed : (b : Bool) → v < 256 ^ cond b 4 0 → v < 256 ^ 4
    typed true h = h
    typed false h = omega arith

    fits : (b : Bool) → cond b true (leb v 0) ≡ true → v < 256 ^ 4 → v < 256 ^ cond b 4 0
    fits true a h = h
    fits false a h = omega (arith, leb-true v 0 a)
