use Rattle.rings.proofs.Ends.{found_stands, queue_refused, queue_taken}
use Rattle.rings.specs.Calls.{as_record, take_in, take_call}
use Rattle.std.proofs.lemmas.Result.{err_from_is_err_and}
use Rattle.rings.proofs.try_take.Goals as goal

pub returns-in_err-sound_ring : goal.returns-in_err-sound_ring
unfolding take_call
returns-in_err-sound_ring c = let a = c.args in
    let p = err_from_is_err_and c.from_residual.result c.from_residual.ensures.1 in
    queue_refused as_record a.region.now a.queue (λ o. take_in a.region.now o) c.in_err-sound_ring.ensures (rw (p.1, p.2))

pub take-requires : goal.take-requires
take-requires c = let a = c.args in found_stands a.region.now a.queue c.in_ok-sound_ring.ensures

pub returns : goal.returns
unfolding take_call
returns c = let a = c.args in
    queue_taken as_record a.region.now a.queue (λ o. take_in a.region.now o) c.in_ok-sound_ring.ensures c.take.ensures
