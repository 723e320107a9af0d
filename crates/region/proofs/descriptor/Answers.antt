use Rattle.answer.proofs.Outcomes.{passes}
use Rattle.region.proofs.Cases.{descriptor_odd, descriptor_low, descriptor_out, descriptor_meets, descriptor_capacity, descriptor_spare, descriptor_fine}
use Rattle.std.proofs.Common.{sym, ◌∙◌, arith}
use Rattle.region.proofs.descriptor.Goals as goal

pub returns-then-at-ne0 : goal.returns-then-at-ne0
returns-then-at-ne0 c = let a = c.args in descriptor_odd a.s.now a.i (λ z. c.if-at-ne0.true (omega arith))

pub returns-then-at-u32_at : goal.returns-then-at-u32_at
returns-then-at-u32_at c = let a = c.args in descriptor_low a.s.now a.i (omega arith) (omega arith)

pub returns-then-s-end_of : goal.returns-then-s-end_of
returns-then-s-end_of c = let a = c.args in descriptor_out a.s.now a.i (omega arith) (omega arith) (omega arith)

pub returns-in_err-meets_none : goal.returns-in_err-meets_none
returns-in_err-meets_none c = let a = c.args in
    passes _ c.in_err-meets_none.field-0.0 c.from_residual.ensures.1 (descriptor_meets a.s.now a.i (omega arith) (omega arith) (omega arith) c.in_err-meets_none.ensures)

pub returns-then-not-is_capacity : goal.returns-then-not-is_capacity
returns-then-not-is_capacity c = let a = c.args in
    descriptor_capacity a.s.now a.i (omega arith) (omega arith) (omega arith) c.in_ok-meets_none.ensures (rw c.capacity_of.ensures at (sym c.is_capacity.ensures ∙ c.if-not-is_capacity.true))

pub returns-then-u32_at-ne0 : goal.returns-then-u32_at-ne0
returns-then-u32_at-ne0 c = let a = c.args in
    descriptor_spare a.s.now a.i (omega arith) (omega arith) (omega arith) c.in_ok-meets_none.ensures (rw c.capacity_of.ensures at (sym c.is_capacity.ensures ∙ c.if-not-is_capacity.false)) (λ z. c.if-u32_at-ne0.true (c.u32_at-2.ensures ∙ z))

pub returns : goal.returns
returns c = let a = c.args in
    descriptor_fine a.s.now a.i (omega arith) (omega arith) (omega arith) c.in_ok-meets_none.ensures (rw c.capacity_of.ensures at (sym c.is_capacity.ensures ∙ c.if-not-is_capacity.false)) (omega arith)
