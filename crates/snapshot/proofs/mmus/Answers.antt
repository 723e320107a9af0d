use Rattle.answer.proofs.Outcomes.{fills-writes}
use Rattle.aerosnap.specs.Known.{MMUS}
use Rattle.aerosnap.specs.Tables.{list_table}
use lib.ListN.{length}
use Rattle.snapshot.proofs.mmus.Goals as goal

pub returns : goal.returns
returns c = rw c.from.ensures (fills-writes (list_table MMUS (length c.args.table.now) c.args.file.now) c.list_table.result c.list_table.ensures)
