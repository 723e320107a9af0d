-- Pieces at a place of longer bytes: what the code that reads them promises. Places count from the start of those bytes.
-- Assumes nothing.
use Rattle.std.specs.Prelude.{List, Bool, not, ℕ, drop, eqb}
use Rattle.answer.specs.Outcome.{Outcome, taken, checked, moved, shift}
use Rattle.wire.specs.Numbers.{le_at}
use Rattle.format.specs.Format.{Format, read, option_checks}

-- the piece at a place
abbrev pub read_at : Format → List ℕ → ℕ → Outcome ℕ
read_at f s at = shift at (read f (drop at s))

-- the presence byte at a place: whether something follows it
abbrev pub present_at : List ℕ → ℕ → Outcome Bool
present_at s at = moved at (checked (option_checks (drop at s)) (taken (not (eqb (le_at 1 (drop at s) 0) 0))))
