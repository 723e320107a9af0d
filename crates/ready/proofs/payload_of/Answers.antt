use Rattle.ready.proofs.Walks.{seeks_found, seeks_next, seeks_end}
use mathlib.Core.Path.{◌∙◌}
use native.Mathlib.Omega.{arith}
use Rattle.ready.proofs.payload_of.Goals as goal

pub returns-then-u32_at-id : goal.returns-then-u32_at-id
returns-then-u32_at-id c = λ l n. let v = c.loop-row.invariant in
    let h = c.in-Some.ensures.steps in
    seeks_found _ _ l _ _ (v.3 l n) h.1.0 (h.1.1 ∙ v.2) c.u32_at.ensures c.if-u32_at-id.true c.u64_at-at.ensures c.u64_at-len.ensures c.bytes_in.ensures

pub loop-row-preserved : goal.loop-row-preserved
loop-row-preserved c = let v = c.loop-row.invariant in
    let h = c.in-Some.ensures.steps in
    let n = h.0 ∙ v.2 in
    (omega (arith, n), tt, n, λ l m. seeks_next _ _ l _ _ (v.3 l m) h.1.0 (h.1.1 ∙ v.2) c.u32_at.ensures c.if-u32_at-id.false)

pub returns : goal.returns
returns c = λ l n. let v = c.loop-row.invariant in seeks_end _ _ l (v.3 l n) (omega (arith, v.2, c.in-None.ensures.steps.1.0))
