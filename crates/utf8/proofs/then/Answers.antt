use native.Mathlib.Omega.{arith}
use Rattle.utf8.specs.Steps.{breaks}
use Rattle.utf8.proofs.Turns.{next_missing, next_out, next_in, reaches_on}
use Rattle.utf8.proofs.then.Goals as goal

pub returns-in-Some : goal.returns-in-Some
returns-in-Some c = let h = c.in-Some.ensures.lookup.3 in reaches_on (next_in _ _ _ _ h.0 (record { low = omega (arith, h.1 0); high = omega (arith, h.1 0) })) (omega arith) c.tails.ensures

pub returns-in_default : goal.returns-in_default
returns-in_default c = let h = c.in-Some.ensures.lookup.3 in breaks (next_out _ _ _ _ h.0 (omega (arith, h.1 0)))

pub returns-in_default-2 : goal.returns-in_default-2
returns-in_default-2 c = let h = c.in-Some.ensures.lookup.3 in breaks (next_out _ _ _ _ h.0 (omega (arith, h.1 0)))

pub returns-in_default-3 : goal.returns-in_default-3
returns-in_default-3 c = let h = rw c.in_default.is at c.get.ensures.lookup in breaks (next_missing _ _ _ _ h.3)
