use Rattle.answer.proofs.Outcomes.{passes}
use Rattle.answer.specs.Outcome.{taken}
use Rattle.mmu_sheet.specs.declared.MmuSheet.{MmuSheet}
use mathlib.Core.Path.{sym, ap, ◌∙◌}
use Rattle.mmu_sheet.proofs.Answers.{mmu_fault, mmu_fine}
use Rattle.mmu_sheet.proofs.sheet_of.Goals as goal

pub returns-in_err-judge : goal.returns-in_err-judge
returns-in_err-judge c = passes _ c.in_err-judge.field-0.0 c.from_residual.ensures.1 (sym (mmu_fault c.args.state.now c.in_err-judge.ensures))

pub returns : goal.returns
returns c = ap (λ (m : MmuSheet). taken m) c.read_mmu.ensures ∙ sym (mmu_fine c.args.state.now c.in_ok-judge.ensures)
