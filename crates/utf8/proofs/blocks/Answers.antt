use mathlib.Core.Path.{sym, ◌∙◌}
use native.Mathlib.Omega.{arith}
use Rattle.utf8.proofs.Turns.{block_passes, passes_then}
use Rattle.utf8.proofs.blocks.Goals as goal

pub loop-block-preserved : goal.loop-block-preserved
loop-block-preserved c =
    let v = c.loop-block.invariant in
    let h = c.in-Some.ensures.steps in
    let n = h.0 ∙ v.3 in
    let b = block_passes _ _ _ _ _ v.4.within (sym v.2 ∙ h.1.0) (h.1.1 ∙ v.3) c.if-highest-ge128.false c.highest.ensures in
    (omega (arith, n), tt, b.0, n, passes_then v.4 b.1)
