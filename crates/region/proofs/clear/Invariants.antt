use Rattle.answer.specs.Outcome.{each, Pass}
use Rattle.region.specs.Region.{apart_check}
use Rattle.region.proofs.clear.Given as goal

abbrev pub invariant-loop-j : goal.invariant-loop-j
invariant-loop-j l = Pass (each (apart_check l.s l.i) l.j)
