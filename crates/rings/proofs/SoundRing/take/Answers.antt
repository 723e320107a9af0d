use Rattle.rings.proofs.Ends.{take_stops, take_ends}
use Rattle.rings.proofs.Capacity.{sized_of}
use Rattle.std.proofs.lemmas.Result.{err_from_is_err_and}
use Rattle.rings.proofs.SoundRing.take.Goals as goal

pub returns-in_err-may_take : goal.returns-in_err-may_take
returns-in_err-may_take c = let a = c.args in
    let p = err_from_is_err_and c.from_residual.result c.from_residual.ensures.1 in
    take_stops c.requires (sized_of a.self.sized) c.skip_at-skip.ensures c.place_of-from.ensures c.u32_at-len.ensures c.in_err-may_take.ensures (rw (p.1, p.2))

pub returns : goal.returns
returns c = let a = c.args in
    take_ends c.requires (sized_of a.self.sized) c.skip_at-skip.ensures c.place_of-from.ensures c.u32_at-len.ensures c.in_ok-may_take.ensures (rw c.size_of.ensures) c.put_u32.ensures
