use Rattle.region.proofs.Walk.{further_of, fine}
use Rattle.std.proofs.Common.{sym, ◌∙◌, arith}
use Rattle.region.proofs.right_end.Goals as goal

pub returns : goal.returns
returns c = let a = c.args in
    further_of a.s.now a.i a.top _ c.whole_at-at.ensures c.whole_at-cap.ensures c.whole_ring.ensures
    (c.is_free.ensures (c.if-not-is_free.false)) (omega arith) (omega arith) (sym c.is_capacity.ensures ∙ c.if-not-is_capacity.false) (omega arith)
    (fine c.ring_fields.result (sym c.is_err.ensures.value ∙ c.if-is_err.false) ∙ c.ring_fields.ensures) (omega arith, omega arith)
