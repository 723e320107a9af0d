use Rattle.answer.proofs.Outcomes.{passes}
use Rattle.answer.proofs.Checks.{asked-pass, pass-checked}
use Rattle.region.specs.Region.{queue_checks}
use Rattle.rings.proofs.Ends.{asked_sized, ring_refused}
use Rattle.std.proofs.Common.{sym, refl}
use Rattle.rings.proofs.sound_ring.Goals as goal

pub returns-in_err-check_queue : goal.returns-in_err-check_queue
returns-in_err-check_queue c = let a = c.args in
    ring_refused a.region.now a.queue _ _ (passes c.from_residual.result c.in_err-check_queue.field-0.0 c.from_residual.ensures.1 refl) c.in_err-check_queue.ensures

pub invariant_of-result : goal.invariant_of-result
invariant_of-result c = let a = c.args in
    record { sized = rw (c.ring_at-ring.ensures, c.offset_of-at.ensures) (asked_sized a.region.now a.queue c.in_ok-check_queue.ensures) }

pub returns : goal.returns
returns c = let a = c.args in
    rw (c.ring_at-ring.ensures, c.offset_of-at.ensures) (sym (pass-checked (queue_checks a.region.now a.queue) _ (asked-pass (queue_checks a.region.now a.queue) c.in_ok-check_queue.ensures)))
