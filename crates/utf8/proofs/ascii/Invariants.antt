use mathlib.Core.List.{[]}
use Rattle.utf8.specs.Steps.{Passes}
use Rattle.utf8.proofs.ascii.Given as goal

abbrev pub invariant-loop-at : goal.invariant-loop-at
invariant-loop-at l = Passes l.s l.i [] l.at
