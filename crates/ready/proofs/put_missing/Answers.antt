use borrow.Author.Rules.{rules}
use Rattle.ready.proofs.Walks.{listing_next, listing_end}
use native.Mathlib.Omega.{arith}
use Rattle.ready.proofs.put_missing.Goals as goal

pub loop-i-preserved : goal.loop-i-preserved
loop-i-preserved c = listing_next c.loop-i.invariant c.requires (omega arith) (search rules) c.put_name-at.ensures

pub returns : goal.returns
returns c = listing_end c.loop-i.invariant c.requires (omega arith)
