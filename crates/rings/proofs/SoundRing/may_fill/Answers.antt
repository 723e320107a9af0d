use Rattle.rings.proofs.Cases.{fill_other}
use Rattle.rings.proofs.Capacity.{sized_of}
use Rattle.std.proofs.Common.{arith}
use Rattle.rings.proofs.SoundRing.may_fill.Goals as goal

pub returns-then-len-gt65536 : goal.returns-then-len-gt65536
returns-then-len-gt65536 c = let a = c.args in
    let near = c.requires.near in
    let most = (sized_of a.self.sized).most in
    fill_other a.self.ring a.start a.end a.len (omega arith) (omega arith) (omega arith) (λ z. omega arith)
