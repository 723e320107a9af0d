use Rattle.rings.proofs.Ends.{reserve_stops, reserve_ends}
use Rattle.rings.proofs.Capacity.{sized_of}
use Rattle.rings.proofs.Cases.{reserve_big}
use Rattle.std.proofs.Common.{refl, arith}
use Rattle.rings.proofs.SoundRing.reserve.Goals as goal

pub returns-then-length-gt65536 : goal.returns-then-length-gt65536
returns-then-length-gt65536 c = let a = c.args in
    let most = (sized_of a.self.sized).most in
    reserve_stops c.requires a.length (reserve_big a.self.ring a.length (omega arith)) refl

pub returns : goal.returns
returns c = let a = c.args in
    reserve_ends c.requires a.length c.in_ok-may_reserve.ensures refl (rw c.need_of-need.ensures) c.put_u32.ensures
