use Rattle.answer.specs.Outcome.{each, Pass}
use Rattle.region.specs.Region.{ring_checks}
use Rattle.region.proofs.ring_headers.Given as goal

abbrev pub invariant-loop-i : goal.invariant-loop-i
invariant-loop-i l = Pass (each (ring_checks l.s) l.i)
