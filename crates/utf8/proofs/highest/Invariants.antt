use Rattle.utf8.proofs.Turns.{Topped}
use Rattle.utf8.proofs.highest.Given as goal

abbrev pub invariant-loop-b : goal.invariant-loop-b
invariant-loop-b l = Topped l.s l.b-index l.top
