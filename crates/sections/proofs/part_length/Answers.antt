use Rattle.sections.proofs.Dividing.{length-fits, length_small, length_not}
use native.Mathlib.Omega.{arith}
use Rattle.sections.proofs.part_length.Goals as goal

pub overflow_add-result : goal.overflow_add-result
overflow_add-result c = omega (arith, c.requires.1, length_small c.args.s.now c.args.at c.fits.ensures c.if-fits.true c.u64_at.ensures)

pub returns-then-fits : goal.returns-then-fits
returns-then-fits c = let a = c.args in length-fits a.s.now a.at c.fits.ensures c.if-fits.true c.u64_at.ensures

pub returns : goal.returns
returns c = let a = c.args in length_not a.s.now a.at c.fits.ensures c.if-fits.false
