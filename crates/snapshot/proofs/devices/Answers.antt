use Rattle.answer.proofs.Outcomes.{fills-writes}
use Rattle.aerosnap.specs.Known.{DEVICES}
use Rattle.aerosnap.specs.Tables.{list_table}
use lib.ListN.{length}
use Rattle.snapshot.proofs.devices.Goals as goal

pub returns : goal.returns
returns c = rw c.from.ensures (fills-writes (list_table DEVICES (length c.args.table.now) c.args.file.now) c.list_table.result c.list_table.ensures)
