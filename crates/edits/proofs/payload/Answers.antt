use borrow.Author.Tests.{le-leb, lt-leb}
use Rattle.edits.proofs.payload.Goals as goal

pub returns-then-p-gt-PAYLOAD_MOST : goal.returns-then-p-gt-PAYLOAD_MOST
returns-then-p-gt-PAYLOAD_MOST c = rw (lt-leb _ _ c.if-p-gt-PAYLOAD_MOST.true)

pub returns : goal.returns
returns c = rw (le-leb _ _ c.if-p-gt-PAYLOAD_MOST.false)
