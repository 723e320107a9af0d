use Rattle.answer.proofs.Outcomes.{handed_on}
use Rattle.snapshot.proofs.Reading.{bare-table, table_stop}
use Rattle.snapshot.proofs.list_table.Goals as goal

pub returns-in_err-faults : goal.returns-in_err-faults
returns-in_err-faults c = let a = c.args in rw (handed_on _ c.in_err-faults.field-0.0 c.from_residual.ensures.1) (table_stop a.file.now a.id a.table.now c.in_err-faults.ensures)

pub returns-then-file-le-HEADER : goal.returns-then-file-le-HEADER
returns-then-file-le-HEADER c = let a = c.args in bare-table a.file.now a.id a.table.now c.if-file-le-HEADER.true c.in_ok-faults.ensures
