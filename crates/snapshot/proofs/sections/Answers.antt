use Rattle.answer.proofs.Outcomes.{fills-writes}
use Rattle.aerosnap.specs.Calls.{sections_call}
use lib.ListN.{length}
use Rattle.snapshot.proofs.sections.Goals as goal

pub returns : goal.returns
returns c = rw c.from.ensures (fills-writes (sections_call (length c.args.table.now) c.args.file.now) c.section_table.result c.section_table.ensures)
