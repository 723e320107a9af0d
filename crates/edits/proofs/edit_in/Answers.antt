use Rattle.answer.proofs.Outcomes.{handed_on}
use Rattle.cards.proofs.Answers.{refused_beside, beside_refused}
use Rattle.edits.specs.Edits.{edit_of}
use lib.ListN.{length}
use Rattle.edits.proofs.edit_in.Goals as goal

pub returns-in_err-x : goal.returns-in_err-x
returns-in_err-x c = let a = c.args in
    rw (handed_on _ (record { index = 0; fault = c.in_err-x.field-0.0 }) c.from_residual.ensures.1)
    (beside_refused 0 (refused_beside (length a.out.now) a.card a.file.now (edit_of a.edit a.a.now a.b.now) c.in_err-x.ensures))
