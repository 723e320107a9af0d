use Rattle.answer.proofs.Outcomes.{handed_on}
use Rattle.fields.proofs.Outcomes.{changes_refused, changes_taken}
use Rattle.mmu_sheet.proofs.Answers.{over_fault, over_fine}
use Rattle.mmu_sheet.proofs.lay_over.Goals as goal

pub returns-in_err-judge : goal.returns-in_err-judge
returns-in_err-judge c =
    let a = c.args in
    rw (handed_on _ c.in_err-judge.field-0.0 c.from_residual.ensures.1) (changes_refused (over_fault a.state.now c.in_err-judge.ensures a.sheet))

pub returns : goal.returns
returns c = let a = c.args in changes_taken (over_fine a.state.now c.in_ok-judge.ensures a.sheet) c.write_mmu.ensures
