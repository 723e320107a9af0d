use Rattle.registers.proofs.Arrays.{filled_none, filled_next}
use mathlib.Core.List.{[]}
use mathlib.Core.Path.{refl, ◌∙◌}
use lib.ListN.{length-set}
use native.Mathlib.Omega.{arith}
use Rattle.sheet.proofs.segments.Goals as goal

pub loop-i-init : goal.loop-i-init
loop-i-init c = (refl, filled_none _ [])

pub loop-i-preserved : goal.loop-i-preserved
loop-i-preserved c =
    let i = c.loop-i.i in
    let v = c.loop-i.invariant in
    (length-set c.loop-i.segment-items i c.segment_at.result ∙ v.0, filled_next _ i c.loop-i.segment-items c.segment_at.result v.1 (omega arith) c.segment_at.ensures)
