use Rattle.std.proofs.Common.{◌∙◌, sym, refl}
use Rattle.wire.proofs.Parts.{put_tested, put_refused, splice_part}
use Rattle.wire.proofs.copy.Goals as goal

pub returns-then-fits : goal.returns-then-fits
returns-then-fits c = let a = c.args in
    put_tested a.at a.src.now a.out.now refl (sym c.fits.ensures ∙ c.if-fits.true) (rw c.copy_from_slice.ensures.after (splice_part a.at a.src.now a.out.now))

pub returns-else-fits : goal.returns-else-fits
returns-else-fits c = let a = c.args in put_refused a.at a.src.now a.out.now refl (sym c.fits.ensures ∙ c.if-fits.false) refl
