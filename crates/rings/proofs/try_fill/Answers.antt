use Rattle.rings.proofs.Ends.{found_stands, queue_refused, queue_taken}
use Rattle.rings.specs.Calls.{as_answer, fill_in, fill_call}
use Rattle.std.proofs.lemmas.Result.{err_from_is_err_and}
use Rattle.rings.proofs.try_fill.Goals as goal

pub returns-in_err-sound_ring : goal.returns-in_err-sound_ring
unfolding fill_call
returns-in_err-sound_ring c = let a = c.args in
    let p = err_from_is_err_and c.from_residual.result c.from_residual.ensures.1 in
    queue_refused as_answer a.region.now a.queue (λ o. fill_in a.region.now o a.start a.end a.payload.now) c.in_err-sound_ring.ensures (rw (p.1, p.2))

pub fill-requires : goal.fill-requires
fill-requires c = let a = c.args in found_stands a.region.now a.queue c.in_ok-sound_ring.ensures

pub returns : goal.returns
unfolding fill_call
returns c = let a = c.args in
    queue_taken as_answer a.region.now a.queue (λ o. fill_in a.region.now o a.start a.end a.payload.now) c.in_ok-sound_ring.ensures c.fill.ensures
