use Rattle.ready.proofs.Walks.{Listing}
use Rattle.ready.proofs.put_missing.Given as goal

abbrev pub invariant-loop-i : goal.invariant-loop-i
invariant-loop-i l = Listing l.found l.initial.out l.out l.at l.i
