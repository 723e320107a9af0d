use mathlib.Core.Path.{sym, ◌∙◌}
use Rattle.fields.proofs.Outcomes.{judge_cpu, judge_mmu}
use Rattle.fields.proofs.judge.Goals as goal

pub returns-in-Cpu : goal.returns-in-Cpu
returns-in-Cpu c = rw c.in-Cpu.is (c.cpu_state.ensures ∙ judge_cpu c.args.state.now)

pub returns-then-right_length : goal.returns-then-right_length
returns-then-right_length c = rw c.in-Mmu.is (judge_mmu c.args.state.now (sym c.if-right_length.true ∙ rw c.in-Mmu.is at c.right_length.ensures))

pub returns-else-right_length : goal.returns-else-right_length
returns-else-right_length c = rw c.in-Mmu.is (judge_mmu c.args.state.now (sym c.if-right_length.false ∙ rw c.in-Mmu.is at c.right_length.ensures))
