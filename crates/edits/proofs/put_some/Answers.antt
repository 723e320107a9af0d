use Rattle.edits.proofs.Writing.{span_none}
use Rattle.wire.proofs.Parts.{none}
use Rattle.edits.proofs.put_some.Goals as goal

pub returns-then-from-to : goal.returns-then-from-to
returns-then-from-to c = let a = c.args in rw (span_none a.side a.file.now a.site c.if-from-to.true) (none a.out.now)
