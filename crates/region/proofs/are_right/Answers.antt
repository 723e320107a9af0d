use Rattle.region.proofs.Cases.{below_next}
use Rattle.region.proofs.Walk.{right_next}
use Rattle.std.proofs.Common.{arith}
use Rattle.region.proofs.are_right.Goals as goal

pub loop-i-preserved : goal.loop-i-preserved
loop-i-preserved c = let b = c.args.s.now in
    let s = c.in-Some.ensures in
    let low = s.covers.0 in
    let inv = c.loop-i.invariant in
    (omega arith, below_next b c.loop-i.i c.loop-i.top _ inv.1 s.covers, right_next b c.loop-i.i c.loop-i.top _ inv.2 s)
