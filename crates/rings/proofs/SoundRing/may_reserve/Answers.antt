use Rattle.rings.proofs.Capacity.{sized_of}
use Rattle.rings.proofs.Cases.{skip_most}
use Rattle.std.proofs.Common.{arith}
use Rattle.rings.proofs.SoundRing.may_reserve.Goals as goal

pub overflow_add-used : goal.overflow_add-used
overflow_add-used c = let r = c.args.self.ring in
    let most = (sized_of c.args.self.sized).most in
    omega (arith, skip_most r.capacity r.reserve c.args.len)
