use Rattle.answer.specs.Outcome.{each, Pass}
use Rattle.region.specs.Region.{descriptor_checks}
use Rattle.region.specs.Steps.{Below}
use Rattle.region.proofs.descriptors.Given as goal

abbrev pub invariant-loop-i : goal.invariant-loop-i
invariant-loop-i l = Pass (each (descriptor_checks l.s) l.i) × Below l.s l.i l.top
