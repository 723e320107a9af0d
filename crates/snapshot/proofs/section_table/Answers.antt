use Rattle.answer.proofs.Outcomes.{handed_on}
use Rattle.aerosnap.specs.Tables.{section_rows}
use Rattle.snapshot.proofs.Reading.{bare_stop, bare-sections, sections_stop, sections_few, sections_short, sections_ready, sections-done}
use native.Mathlib.Omega.{arith}
use Rattle.snapshot.proofs.section_table.Goals as goal

pub returns-in_err-faults : goal.returns-in_err-faults
returns-in_err-faults c = let a = c.args in rw (handed_on _ c.in_err-faults.field-0.0 c.from_residual.ensures.1) (bare_stop a.file.now (section_rows 16 0) a.table.now c.in_err-faults.ensures)

pub returns-then-file-le-HEADER : goal.returns-then-file-le-HEADER
returns-then-file-le-HEADER c = let a = c.args in bare-sections a.file.now a.table.now c.if-file-le-HEADER.true c.in_ok-faults.ensures

pub returns-in_err-n : goal.returns-in_err-n
returns-in_err-n c = let a = c.args in rw (handed_on _ c.in_err-n.field-0.0 c.from_residual-in_err-n.ensures.1) (sections_stop a.file.now a.table.now c.in_err-n.ensures.answers)

pub overflow_mul-size : goal.overflow_mul-size
overflow_mul-size c = let a = c.args in omega (arith, sections_few a.file.now a.table.now c.in_ok-n.ensures.answers)

pub returns-in_err-roomy : goal.returns-in_err-roomy
returns-in_err-roomy c = let a = c.args in rw (handed_on _ c.in_err-roomy.field-0.0 c.from_residual-in_err-roomy.ensures.1) (sections_short a.file.now a.table.now c.in_ok-n.ensures.answers c.in_err-roomy.ensures)

pub put_rows-requires : goal.put_rows-requires
put_rows-requires c = let a = c.args in sections_ready a.file.now a.table.now c.in_ok-n.ensures.answers c.in_ok-roomy.ensures

pub returns : goal.returns
returns c = let a = c.args in sections-done a.file.now a.table.now c.in_ok-n.ensures.answers c.in_ok-roomy.ensures c.put_rows.ensures
