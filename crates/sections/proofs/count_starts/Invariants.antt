use Rattle.sections.proofs.Counts.{Counting}
use Prim.Native.Nat.{◌-◌}
use Rattle.sections.proofs.count_starts.Given as goal

abbrev pub invariant-loop-i : goal.invariant-loop-i
invariant-loop-i l = Counting l.file l.most l.at l.i l.n

abbrev pub decreases-loop-i : goal.decreases-loop-i
decreases-loop-i l = l.most - l.i
