use Rattle.edits.proofs.Summing.{Summing}
use Rattle.edits.proofs.payload_sum.Given as goal

abbrev pub invariant-loop-start : goal.invariant-loop-start
invariant-loop-start l = Summing l.p l.starts l.start-index l.n
