use Rattle.writer.specs.Runs.{entry_by, fits}
use Rattle.writer.proofs.Fits.{Fitting}
use Rattle.order.specs.Entries.{join}
use Rattle.entries.specs.Code.{describe}
use mathlib.Core.List.{map}
use lib.ListN.{length, drop}
use Rattle.writer.proofs.put_run.Given as goal

abbrev pub invariant-loop-y : goal.invariant-loop-y
invariant-loop-y l = Fitting (join (fits (length l.initial.out) (map (entry_by (describe l.kind) l.s) l.starts))) l.initial.out (map (entry_by (describe l.kind) l.s) (drop l.y-index l.starts)) l.at l.out
