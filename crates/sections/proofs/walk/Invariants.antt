use Rattle.sections.proofs.Turns.{Walks}
use lib.ListN.{length}
use Prim.Native.Nat.{◌-◌}
use Rattle.sections.proofs.walk.Given as goal

abbrev pub invariant-loop-at : goal.invariant-loop-at
invariant-loop-at l = Walks l.s l.i l.at l.used l.seen l.initial.index l.index

abbrev pub decreases-loop-at : goal.decreases-loop-at
decreases-loop-at l = length l.s - l.at
