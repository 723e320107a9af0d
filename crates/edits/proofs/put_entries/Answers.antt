use Rattle.edits.proofs.Writing.{no_entries}
use Rattle.writer.specs.Runs.{entry_by}
use Rattle.entries.specs.Code.{describe}
use Rattle.edits.proofs.put_entries.Goals as goal

pub returns-then-starts-eq0 : goal.returns-then-starts-eq0
returns-then-starts-eq0 c = let a = c.args in no_entries (entry_by (describe a.kind) a.p.now) a.starts.now a.out.now c.if-starts-eq0.true
