use borrow.Author.Tests.{le-leb, lt-leb}
use Rattle.edits.proofs.list_length.Goals as goal

pub returns-then-site : goal.returns-then-site
returns-then-site c = let w = c.args.site in rw (le-leb w.end w.begin c.if-site.true)

pub returns : goal.returns
returns c = let w = c.args.site in rw (lt-leb w.end w.begin c.if-site.false)
