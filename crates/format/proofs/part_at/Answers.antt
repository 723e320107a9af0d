use mathlib.Core.Path.{sym, ◌∙◌}
use Prim.Native.Nat.{◌+◌}
use native.Mathlib.Omega.{arith}
use lib.ListN.{length}
use borrow.Author.Tests.{leb-false}
use Rattle.format.specs.Format.{at_most, any}
use Rattle.format.proofs.Exits.{sized_short}
use Rattle.format.proofs.part_at.Goals as goal

pub returns : goal.returns
returns c = let a = c.args in sized_short a.s.now a.at 4 (at_most a.most) any (omega (arith, leb-false (a.at + 4) (length a.s.now) (sym c.fits.ensures ∙ c.if-fits.false)))
