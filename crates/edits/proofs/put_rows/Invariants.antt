use Rattle.edits.proofs.Turning.{Turning}
use Rattle.edits.proofs.put_rows.Given as goal

abbrev pub invariant-loop-start : goal.invariant-loop-start
invariant-loop-start l = Turning l.table l.store l.starts l.file l.site l.initial.out l.start-index l.next l.bytes l.out
