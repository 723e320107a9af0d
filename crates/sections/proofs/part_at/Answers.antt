use Rattle.sections.proofs.Dividing.{part_not, part_fits}
use mathlib.Core.Path.{refl}
use Rattle.sections.proofs.part_at.Goals as goal

pub returns-then-not-fits : goal.returns-then-not-fits
returns-then-not-fits c = let a = c.args in λ l k. part_not a.s.now a.at l c.fits.ensures (c.if-not-fits.true) refl

pub returns : goal.returns
returns c = let a = c.args in
    λ l k. part_fits a.s.now a.at l c.fits.ensures (c.if-not-fits.false) (c.section_at.ensures l k)
