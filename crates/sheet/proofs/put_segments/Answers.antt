use Rattle.registers.proofs.Arrays.{turned_none, turned_next}
use Rattle.sheet.proofs.put_segments.Goals as goal

pub loop-i-init : goal.loop-i-init
loop-i-init c = turned_none _ c.args.s.now

pub loop-i-preserved : goal.loop-i-preserved
loop-i-preserved c = turned_next _ c.loop-i.i c.args.s.now c.loop-i.invariant c.put_segment.ensures
