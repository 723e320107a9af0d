use Rattle.rings.proofs.Cases.{take-over, take_fine}
use Rattle.rings.proofs.Capacity.{sized_of, wraps}
use Rattle.std.proofs.Common.{◌+◌, arith}
use Rattle.rings.proofs.SoundRing.may_take.Goals as goal

pub returns-then-rest_of-size : goal.returns-then-rest_of-size
returns-then-rest_of-size c = let a = c.args in
    let r = a.self.ring in
    let e = wraps (sized_of a.self.sized) (r.head + a.skip) in
    take-over r a.skip a.len (omega (arith, c.if-used-eq0.false)) (omega arith) (omega arith) (omega arith)

pub returns : goal.returns
returns c = let a = c.args in
    let r = a.self.ring in
    let e = wraps (sized_of a.self.sized) (r.head + a.skip) in
    take_fine r a.skip a.len (omega (arith, c.if-used-eq0.false)) (omega arith) (omega arith) (omega arith)
