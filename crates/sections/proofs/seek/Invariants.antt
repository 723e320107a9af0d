use Rattle.sections.proofs.Found.{Seeking}
use Rattle.sections.specs.Walks.{sections_in}
use lib.ListN.{length}
use Prim.Native.Nat.{◌-◌}
use Rattle.sections.proofs.seek.Given as goal

abbrev pub invariant-loop-at : goal.invariant-loop-at
invariant-loop-at l = Seeking l.id l.file (sections_in l.file) l.at l.first

abbrev pub decreases-loop-at : goal.decreases-loop-at
decreases-loop-at l = length l.file - l.at
