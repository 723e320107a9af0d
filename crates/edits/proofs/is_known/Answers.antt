use borrow.Author.Tests.{eq-eqb}
use Rattle.edits.proofs.Asking.{known-none, known-there, known_free, old_asc}
use Rattle.lists.specs.Lists.{key_at}
use Rattle.entries.specs.Kinds.{devices}
use Prim.Native.Nat.{◌*◌}
use Rattle.edits.proofs.is_known.Goals as goal

pub returns-then-i-r : goal.returns-then-i-r
returns-then-i-r c = rw (eq-eqb _ _ c.if-i-r.true)

pub returns-then-site : goal.returns-then-site
returns-then-site c = known-none c.requires.1 c.if-i-r.false c.if-site.true (key_at devices c.args.table.now (24 * c.args.i))

pub returns-in-Ok : goal.returns-in-Ok
returns-in-Ok c = known-there c.requires.1 c.if-i-r.false c.key_at-k.ensures c.find_ordered.ensures c.in-Ok.is

pub returns-in-Err : goal.returns-in-Err
returns-in-Err c = known_free c.requires.1 c.if-i-r.false c.key_at-k.ensures (old_asc _ c.requires.0) c.find_ordered.ensures c.in-Err.is
