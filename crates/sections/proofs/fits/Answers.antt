use Rattle.sections.proofs.Counts.{fits_not, fits_by}
use native.Mathlib.Omega.{arith}
use Rattle.sections.proofs.fits.Goals as goal

pub returns-then-s-at : goal.returns-then-s-at
returns-then-s-at c = let a = c.args in fits_not a.s.now a.at (omega (arith, c.if-s-at.true))

pub returns-then-s-at-lt16 : goal.returns-then-s-at-lt16
returns-then-s-at-lt16 c = let a = c.args in fits_not a.s.now a.at c.if-s-at-lt16.true

pub returns : goal.returns
returns c = let a = c.args in fits_by a.s.now a.at c.if-s-at-lt16.false c.u64_at.ensures
