use Rattle.access.proofs.Masks.{masked}
use borrow.Author.Rules.{rules}
use Rattle.access.proofs.parts.Goals as goal

pub returns : goal.returns
returns c = masked c.args.word (search rules)
