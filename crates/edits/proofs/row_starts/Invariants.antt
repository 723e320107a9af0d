use Rattle.edits.proofs.Asking.{Laid}
use Rattle.edits.proofs.row_starts.Given as goal

abbrev pub invariant-loop-i : goal.invariant-loop-i
invariant-loop-i l = Laid l.initial.starts l.i l.starts
