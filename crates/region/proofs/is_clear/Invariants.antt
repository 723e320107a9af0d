use Rattle.region.specs.Steps.{Clear}
use Rattle.region.proofs.is_clear.Given as goal

abbrev pub invariant-loop-j : goal.invariant-loop-j
invariant-loop-j l = Clear l.s l.j l.from l.end
