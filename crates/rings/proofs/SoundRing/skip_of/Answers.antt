use Rattle.rings.proofs.Cases.{skip-none, skip-rest}
use Rattle.std.proofs.Common.{◌∙◌, arith}
use Rattle.rings.proofs.SoundRing.skip_of.Goals as goal

pub returns-then-size_of-left : goal.returns-then-size_of-left
returns-then-size_of-left c = let a = c.args in skip-none a.self.ring.capacity a.p a.n (omega arith)

pub returns : goal.returns
returns c = let a = c.args in c.rest_of-left.ensures ∙ skip-rest a.self.ring.capacity a.p a.n (omega arith)
