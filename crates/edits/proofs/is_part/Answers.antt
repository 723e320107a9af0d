use borrow.Author.Tests.{le-leb, lt-leb}
use Rattle.edits.proofs.is_part.Goals as goal

pub returns-then-n-place : goal.returns-then-n-place
returns-then-n-place c = rw (lt-leb _ _ c.if-n-place.true)

pub returns : goal.returns
returns c = rw (le-leb _ _ c.if-n-place.false)
