use Rattle.answer.proofs.Outcomes.{passes}
use Rattle.answer.specs.Outcome.{taken}
use Rattle.region.proofs.Cases.{on_stop, on-queue}
use Rattle.region.specs.Region.{ring_at, offset_of}
use Rattle.std.proofs.Common.{sym, ap, ◌∙◌}
use Rattle.region.proofs.queue_ring.Goals as goal

pub returns-in_err-check_queue : goal.returns-in_err-check_queue
returns-in_err-check_queue c = let a = c.args in
    passes _ c.in_err-check_queue.field-0.0 c.from_residual.ensures.1 (sym (on_stop a.s.now a.queue (taken (ring_at a.s.now (offset_of a.s.now a.queue))) c.in_err-check_queue.ensures))

pub returns : goal.returns
returns c = let a = c.args in
    ap taken (rw c.offset_of.ensures at c.ring_at.ensures) ∙ sym (on-queue a.s.now a.queue (taken (ring_at a.s.now (offset_of a.s.now a.queue))) c.in_ok-check_queue.ensures)
