use native.Mathlib.Omega.{arith}
use Rattle.utf8.proofs.Table.{hit}
use Rattle.utf8.proofs.Turns.{passes_here, passes_then, passes_first}
use Rattle.utf8.proofs.ascii.Goals as goal

pub loop-at-preserved : goal.loop-at-preserved
loop-at-preserved c = passes_then c.loop-at.invariant
    (passes_first (omega arith) (hit 0 _ (omega arith)) (passes_here _ (omega arith)))
