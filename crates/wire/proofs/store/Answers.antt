use Rattle.std.proofs.Common.{◌+◌, ◌∙◌, sym, refl, add-one, arith, length, length-set, leb-true}
use lib.Seq.{paste-suc}
use Rattle.wire.proofs.Parts.{pasted, put_tested, put_refused}
use Rattle.wire.proofs.store.Goals as goal

pub loop-i-preserved : goal.loop-i-preserved
loop-i-preserved g c = let a = c.args in let room = leb-true (a.at + g.row.N) (length a.out.now) (sym c.fits.ensures ∙ c.if-fits.true) in
    (rw (c.loop-i.invariant.0, add-one c.loop-i.i) (paste-suc a.out.now a.at a.bytes c.loop-i.i 0 (omega arith) (omega arith)), simp length-set c.loop-i.invariant.1)

pub returns-after-loop-i : goal.returns-after-loop-i
returns-after-loop-i g c = let a = c.args in
    put_tested a.at a.bytes a.out.now (omega arith) (sym c.fits.ensures ∙ c.if-fits.true) (c.loop-i.invariant.0 ∙ pasted a.out.now a.at a.bytes c.loop-i.i (omega arith))

pub returns-else-fits : goal.returns-else-fits
returns-else-fits g c = let a = c.args in put_refused a.at a.bytes a.out.now (omega arith) (sym c.fits.ensures ∙ c.if-fits.false) refl
