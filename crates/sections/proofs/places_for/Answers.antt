use borrow.Author.Tests.{le-leb, lt-leb}
use Rattle.sections.proofs.places_for.Goals as goal

pub returns-then-n-le32 : goal.returns-then-n-le32
returns-then-n-le32 c = rw (le-leb c.count_starts-n.result 32 c.if-n-le32.true) at c.count_starts-n.ensures

pub returns-then-n-le256 : goal.returns-then-n-le256
returns-then-n-le256 c = rw (lt-leb c.count_starts-n.result 32 c.if-n-le32.false, le-leb c.count_starts-n.result 256 c.if-n-le256.true) at c.count_starts-n.ensures

pub returns : goal.returns
returns c = rw (lt-leb c.count_starts-n.result 32 c.if-n-le32.false, lt-leb c.count_starts-n.result 256 c.if-n-le256.false) at c.count_starts-n.ensures
