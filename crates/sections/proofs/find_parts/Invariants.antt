use Rattle.sections.proofs.Dividing.{Dividing}
use lib.ListN.{length}
use Prim.Native.Nat.{◌-◌}
use Rattle.sections.proofs.find_parts.Given as goal

abbrev pub invariant-loop-at : goal.invariant-loop-at
invariant-loop-at l = Dividing l.s l.at l.n l.used l.lost l.t l.first l.seen l.dir l.initial.starts l.starts l.initial.losses l.losses

abbrev pub decreases-loop-at : goal.decreases-loop-at
decreases-loop-at l = length l.s - l.at
