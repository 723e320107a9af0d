use borrow.Author.Tests.{le-leb, lt-leb}
use mathlib.Core.Path.{refl}
use Rattle.edits.proofs.list_extent.Goals as goal

pub returns-then-n-le4 : goal.returns-then-n-le4
returns-then-n-le4 c = rw (le-leb c.args.n 4 c.if-n-le4.true) (refl, refl)

pub returns : goal.returns
returns c = rw (lt-leb c.args.n 4 c.if-n-le4.false) (refl, refl)
