use Rattle.answer.proofs.Outcomes.{passes}
use mathlib.Core.Path.{sym}
use Rattle.sheet.proofs.Answers.{cpu_long, cpu_fault, cpu_fine}
use Rattle.sheet.proofs.sheet_of.Goals as goal

pub returns-in_err-judge : goal.returns-in_err-judge
returns-in_err-judge c = passes _ c.in_err-judge.field-0.0 c.from_residual.ensures.1 (sym (cpu_fault c.args.state.now c.in_err-judge.ensures))

pub read_cpu-requires : goal.read_cpu-requires
read_cpu-requires c = cpu_long c.args.state.now c.in_ok-judge.ensures

pub returns : goal.returns
returns c = sym (cpu_fine c.args.state.now c.in_ok-judge.ensures c.read_cpu.ensures)
