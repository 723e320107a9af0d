-- The grammar as a scan that can be run: after each byte, the ranges of those that are to come of its character. Assumes nothing.
use Rattle.std.specs.Prelude.{Result, Ok, Err, ℕ, suc, List, [], ◌∷◌, Bool, true, false, cond, ◌&&◌, leb}
use Rattle.utf8.specs.Grammar.{Range, Alternative, UTF8-char}

-- After a byte: the ranges of those that are to come of its character; or no text goes on so.
pub data ToCome : Type 0 where
  Next : List Range → ToCome
  Stop : ToCome

-- b lies between lo and hi.
abbrev pub among : ℕ → ℕ → ℕ → Bool
among lo hi b = leb lo b && leb b hi

-- What the first alternative that begins with b lets follow.
abbrev pub lookup : List Alternative → ℕ → ToCome
lookup [] b = Stop
lookup (a ∷ l) b = cond (among a.first.from a.first.to b) (Next a.rest) (lookup l b)

-- What b lets follow as the first byte of a character.
unfoldable pub lead_of : ℕ → ToCome
lead_of b = lookup UTF8-char b

-- What b lets follow where bytes of these ranges are to come.
unfoldable pub after_of : List Range → ℕ → ToCome
after_of [] b = lead_of b
after_of (r ∷ rs) b = cond (among r.from r.to b) (Next rs) Stop

-- The bytes end at place i: within a character they break there.
abbrev pub ended_at : List Range → ℕ → Result (Unit {0}) ℕ
ended_at [] i = Ok tt
ended_at (r ∷ rs) i = Err i

-- The byte at place i lets something follow, and the scan goes on with that; or the bytes break there.
abbrev pub onward : ToCome → ℕ → (List Range → Result (Unit {0}) ℕ) → Result (Unit {0}) ℕ
onward (Next rs) i go = go rs
onward Stop i go = Err i

-- The bytes from place i on, where bytes of these ranges are to come.
unfoldable pub scan_from : List Range → ℕ → List ℕ → Result (Unit {0}) ℕ
scan_from rs i [] = ended_at rs i
scan_from rs i (b ∷ s) = onward (after_of rs b) i (λ l. scan_from l (suc i) s)

-- Whole, or broken at the first place at which no text continues.
unfoldable pub scan : List ℕ → Result (Unit {0}) ℕ
scan s = scan_from [] 0 s

-- The answer is that the bytes are a text.
abbrev pub is_whole : Result (Unit {0}) ℕ → Bool
is_whole (Ok _) = true
is_whole (Err k) = false

-- The test that s is a text.
unfoldable pub is_text : List ℕ → Bool
is_text s = is_whole (scan s)

-- The place of an answer.
abbrev pub break_of : Result (Unit {0}) ℕ → ℕ
break_of (Ok _) = 0
break_of (Err k) = k

-- The place of the first byte of s at which no text continues; the length, if s ends early.
unfoldable pub break_at : List ℕ → ℕ
break_at s = break_of (scan s)
