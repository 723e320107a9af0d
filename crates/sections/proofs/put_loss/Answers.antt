use Rattle.answer.specs.Refusals.{number_of}
use Rattle.sections.proofs.Dividing.{loss_none, loss_put}
use Rattle.wire.proofs.Records.{stored_record}
use mathlib.Core.List.{[], ◌∷◌}
use Rattle.sections.proofs.put_loss.Goals as goal

pub returns-then-out-lt24 : goal.returns-then-out-lt24
returns-then-out-lt24 c = let a = c.args in loss_none a.out.now a.at a.w (number_of a.refusal) c.if-out-lt24.true

pub returns : goal.returns
returns c = let a = c.args in
    loss_put a.out.now a.at a.w (number_of a.refusal) c.if-out-lt24.false
    (stored_record ((8, a.at) ∷ (8, a.w) ∷ (4, (number_of a.refusal)) ∷ (4, 0) ∷ []) a.out.now c.if-out-lt24.false _ c.put_u64.ensures _ c.put_u64-2.ensures _ (rw c.from.ensures at c.put_u32.ensures) _ c.put_u32-2.ensures)
