-- Bytes written into lent memory.
-- Assumes nothing.
use Rattle.std.specs.Prelude.{◌≡◌, Bool, true, false, ◌&&◌, cond, List, [], ◌∷◌, ◌++◌, ℕ, ◌+◌, leb, eqb, length, take, drop}
use Rattle.answer.specs.Numbers.{SHAPE}
use Rattle.answer.specs.Outcome.{Checks}
use Rattle.wire.specs.Numbers.{bytes_of}

-- old with bs written over it from a place on
unfoldable pub splice : ℕ → List ℕ → List ℕ → List ℕ
splice at bs old = take at old ++ bs ++ drop (at + length bs) old

-- the same where bs fit there; else old, and nothing is written
unfoldable pub put : ℕ → List ℕ → List ℕ → List ℕ
put at bs old = cond (leb (at + length bs) (length old)) (splice at bs old) old

-- n bytes, bs, were written over the start of old, and new came of it
pub record Wrote (bs old new : List ℕ) (n : ℕ) : Type 0 where
  pub count : n ≡ length bs
  pub bytes : new ≡ bs ++ drop (length bs) old

-- bytes behind their u32 length
abbrev pub with_length : List ℕ → List ℕ
with_length d = bytes_of 4 (length d) ++ d

-- bytes left over after the last field, from a place on: SHAPE at the first
abbrev pub left_over_checks : List ℕ → ℕ → Checks
left_over_checks s at = (leb (length s) at, SHAPE, at) ∷ []

-- the same bytes
abbrev pub same : List ℕ → List ℕ → Bool
same [] [] = true
same [] (y ∷ m) = false
same (x ∷ l) [] = false
same (x ∷ l) (y ∷ m) = eqb x y && same l m
