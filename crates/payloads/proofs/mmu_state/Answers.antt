use Rattle.payloads.proofs.Bodies.{mmu_done, mmu_bad}
use mathlib.Core.Path.{sym, ◌∙◌}
use Rattle.payloads.proofs.mmu_state.Goals as goal

pub returns-then-p-mmu_length : goal.returns-then-p-mmu_length
returns-then-p-mmu_length c = let a = c.args in mmu_done a.version a.p.now (c.if-p-mmu_length.true ∙ c.mmu_length.ensures)

pub returns : goal.returns
returns c = let a = c.args in mmu_bad a.version a.p.now (λ e. c.if-p-mmu_length.false (e ∙ sym c.mmu_length.ensures))
