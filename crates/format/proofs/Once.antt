-- Each promise fixes its answer: any two that it allows are equal.
-- Assumes nothing.
use mathlib.Core.Path.{◌≡◌}
use mathlib.Core.List.{List}
use mathlib.Core.Bool.{Bool}
use Prim.Native.Nat.{ℕ}
use Rattle.std.proofs.Common.{Result}
use Rattle.answer.specs.declared.Fault.{Fault}
use Rattle.answer.specs.Calls.{outcome_of}
use Rattle.answer.proofs.Once.{equal_once, outcome_once}
use Rattle.format.specs.Format.{Format}
use Rattle.format.specs.Places.{read_at, present_at}

-- `block_at`, `part_at`, `blob_at` and `text_at`
pub read_once : (f : Format) (s : List ℕ) (at : ℕ) (r p : Result ℕ Fault) → outcome_of r ≡ read_at f s at → outcome_of p ≡ read_at f s at → r ≡ p
read_once f s at r p e h = outcome_once r p (equal_once e h)

pub flag_once : (s : List ℕ) (at : ℕ) (r p : Result Bool Fault) → outcome_of r ≡ present_at s at → outcome_of p ≡ present_at s at → r ≡ p
flag_once s at r p e h = outcome_once r p (equal_once e h)
