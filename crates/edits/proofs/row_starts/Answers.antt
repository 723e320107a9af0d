use native.Mathlib.Omega.{arith}
use Rattle.edits.proofs.Asking.{laid_start, laid_next, laid_done}
use Rattle.edits.proofs.row_starts.Goals as goal

pub loop-i-init : goal.loop-i-init
loop-i-init c = laid_start _

pub loop-i-preserved : goal.loop-i-preserved
loop-i-preserved c = laid_next c.loop-i.invariant (omega (arith, c.loop-i.invariant.long, c.loop-i-test.true))

pub shape_of-starts : goal.shape_of-starts
shape_of-starts c = c.loop-i.invariant.long

pub returns : goal.returns
returns c = laid_done c.loop-i.invariant (omega (arith, c.loop-i.invariant.long, c.loop-i-test.false))
