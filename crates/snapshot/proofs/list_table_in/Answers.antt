use Rattle.answer.proofs.Outcomes.{handed_on}
use Rattle.snapshot.proofs.Reading.{list_none, list_stop}
use Rattle.sections.proofs.Reading.{spot_opened}
use Rattle.snapshot.proofs.list_table_in.Goals as goal

pub returns-in_err-at : goal.returns-in_err-at
returns-in_err-at c = let a = c.args in rw (handed_on _ c.in_err-at.field-0.0 c.from_residual.ensures.1) (list_stop a.file.now a.id a.table.now c.in_err-at.ensures.answers)

pub returns-then-file-at : goal.returns-then-file-at
returns-then-file-at c = let a = c.args in
    let y = spot_opened a.id a.file.now a.index.now c.requires.2 c.check_and_find.ensures c.in_ok-at.was in
    list_none a.id a.file.now y.site c.if-file-at.true a.table.now

pub put_table-requires : goal.put_table-requires
put_table-requires c = let a = c.args in
    let y = spot_opened a.id a.file.now a.index.now c.requires.2 c.check_and_find.ensures c.in_ok-at.was in
    record { read = y.site.read; is_known = c.requires.0; body = c.requires.1; place = y.site.place; there = c.if-file-at.false; starts = y.starts; front = y.site.first }
