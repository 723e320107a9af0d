use Rattle.rings.proofs.Filled.{filled_stays, filled_jumps}
use Rattle.rings.proofs.Places.{record_stays}
use Rattle.rings.proofs.Capacity.{sized_of, inside, word}
use Rattle.std.proofs.Common.{length, sym, ◌∙◌, arith}
use Rattle.rings.proofs.SoundRing.put_filled.Goals as goal

pub put_record-requires : goal.put_record-requires
put_record-requires c = let k = sized_of c.args.self.sized in
    let most = k.most in
    let s = record_stays k c.args.start (length c.args.payload.now) (sym c.skip_of.ensures ∙ c.if-skip_of-eq0.true) in
    omega (arith, inside k c.args.start)

pub returns-then-skip_of-eq0 : goal.returns-then-skip_of-eq0
returns-then-skip_of-eq0 c = let a = c.args in
    let r = c.put_record.ensures in
    filled_stays a.self.at a.self.ring.capacity a.start a.payload.now a.region.now (sym c.skip_of.ensures ∙ c.if-skip_of-eq0.true) r.0 (rw c.place_of-i.ensures at r.1)

pub put_record-requires-2 : goal.put_record-requires-2
put_record-requires-2 c = let k = sized_of c.args.self.sized in
    let most = k.most in
    omega arith

pub returns : goal.returns
returns c = let a = c.args in
    let k = sized_of a.self.sized in
    let w = word k a.start c.requires.four in
    let r = c.put_record-2.ensures in
    let n = r.0 in
    filled_jumps a.self.at a.self.ring.capacity a.start a.payload.now a.region.now k (λ z. c.if-skip_of-eq0.false (c.skip_of.ensures ∙ z)) (omega arith) (omega arith) (rw c.place_of-i.ensures at c.put_u32.ensures) r.1
