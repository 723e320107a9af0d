-- What code learns from a part: its checks stop there, or all of them pass and it goes on.
-- Assumes nothing.
use mathlib.Core.Path.{◌≡◌, sym, ◌∙◌, ap}
use Rattle.std.proofs.Common.{Result, IsErrAnd}
use Rattle.answer.specs.declared.Fault.{Fault}
use Rattle.answer.specs.Outcome.{Outcome, taken, Checks, checked, Pass}
use Rattle.answer.specs.Calls.{fault_of, outcome_of}
use Rattle.answer.proofs.Checks.{pass-checked, checked-pass, stops}
use Rattle.answer.proofs.Outcomes.{taken_is, passes}

module _ {A : Type 0} (l : Checks) (a : A) where
  -- code that hands on the fault of a part with these checks has the fault of all that begins with them
  pub part_stops : (f : Fault) → fault_of f ≡ checked l (taken a) → {B : Type 0} (r : Result B Fault) (x : Outcome B) → IsErrAnd r (λ g. g ≡ f) → outcome_of r ≡ checked l x
  part_stops f h r x e = passes r f e (sym (stops l a x (sym h)))

  pub part_passes : {b : A} → taken b ≡ checked l (taken a) → Pass l × (a ≡ b)
  part_passes {b} h = let k = checked-pass l (taken a) b (sym h) in (k.0, taken_is k.1)

  -- what is done with what was found is what stands behind the checks
  pub part_goes : {B : Type 0} (g : A → Outcome B) {b : A} → taken b ≡ checked l (taken a) → g b ≡ checked l (g a)
  part_goes g h = let k = part_passes h in ap g (sym k.1) ∙ sym (pass-checked l (g a) k.0)
