use Rattle.edits.proofs.Asking.{Asking}
use Rattle.edits.specs.Cuts.{old_entries}
use Rattle.aerosnap.specs.declared.Side.TheVariants.{OfDevices}
use Rattle.edits.proofs.ask_rows.Given as goal

abbrev pub invariant-loop-i : goal.invariant-loop-i
invariant-loop-i l = Asking l.have l.table l.store (old_entries OfDevices l.file) l.r l.site l.old l.i l.grown
