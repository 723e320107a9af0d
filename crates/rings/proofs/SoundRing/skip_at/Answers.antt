use Rattle.rings.proofs.Cases.{seen_marker, seen_none}
use Rattle.std.proofs.Common.{sym, ◌∙◌}
use Rattle.rings.proofs.SoundRing.skip_at.Goals as goal

pub returns-then-u32_at : goal.returns-then-u32_at
returns-then-u32_at c = let a = c.args in
    let e = rw c.place_of.ensures at c.u32_at.ensures in
    c.rest_of.ensures ∙ seen_marker a.region.now a.self.at a.self.ring.capacity a.p (sym e ∙ c.if-u32_at.true)

pub returns : goal.returns
returns c = let a = c.args in
    let e = rw c.place_of.ensures at c.u32_at.ensures in
    seen_none a.region.now a.self.at a.self.ring.capacity a.p (λ z. c.if-u32_at.false (e ∙ z))
