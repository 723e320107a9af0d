use Rattle.answer.proofs.Outcomes.{handed_on}
use Rattle.edits.proofs.Tabled.{answer_refused, refused_table}
use lib.ListN.{length}
use Rattle.edits.proofs.add_rows.Goals as goal

pub returns-in_err-x : goal.returns-in_err-x
returns-in_err-x c = let a = c.args in
    rw (handed_on _ c.in_err-x.field-0.0 c.from_residual.ensures.1)
    (answer_refused c.in_err-x.field-0.0 (refused_table (length a.out.now) a.card a.file.now a.table.now a.store.now c.requires.0.read c.in_err-x.ensures.0))
