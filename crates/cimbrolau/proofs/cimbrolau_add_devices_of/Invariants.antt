-- i of the n entries that are looked at are stored, and the array holds their records.
use Rattle.std.proofs.Common.{◌≡◌, length}
use Rattle.newcomers.specs.Records.{looked_at}
use Rattle.newcomers.proofs.Loop.{Part}
use Rattle.cimbrolau.proofs.cimbrolau_add_devices_of.Given as goal

abbrev pub invariant-loop-i : goal.invariant-loop-i
invariant-loop-i l = (l.n ≡ looked_at (length l.table)) × Part l.table l.i l.records
