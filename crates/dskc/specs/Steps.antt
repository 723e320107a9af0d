-- For contracts of private functions: half of a header.
-- Assumes nothing.
use Rattle.std.specs.Prelude.{List, [], ◌∷◌, ◌&&◌, ℕ, ◌+◌, eqb}
use Rattle.answer.specs.Numbers.{MAGIC, VERSION}
use Rattle.answer.specs.Outcome.{Checks}
use Rattle.wire.specs.Numbers.{le_at}

-- four letters at a place, by the number that they say, and the pair u16 1, u16 0 behind them
abbrev pub tag_checks : ℕ → ℕ → List ℕ → Checks
tag_checks letters at s = (eqb (le_at 4 s at) letters, MAGIC, at) ∷ (eqb (le_at 2 s (at + 4)) 1 && eqb (le_at 2 s (at + 6)) 0, VERSION, at + 4) ∷ []
