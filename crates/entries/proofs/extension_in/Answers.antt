use Rattle.entries.proofs.States.{extension_longer, extension_word}
use Rattle.format.proofs.Listed.{row_out, row_in}
use native.Mathlib.Omega.{arith}
use mathlib.Core.Path.{◌∙◌}
use Rattle.entries.proofs.extension_in.Goals as goal
use Rattle.entries.proofs.extension_in.Goals.{else-state-eq1191-via-then-state-eq1191+else-u32_at-ne4, else-state-eq1191-via-else-state-eq1191}

pub returns-then-u32_at-ne4 : goal.returns-then-u32_at-ne4
returns-then-u32_at-ne4 c = row_out (extension_word c.args.state.now c.if-state-eq1191.true) c.u32_at.ensures (λ k. omega arith)

pub returns : goal.returns
returns c = elim c.else-state-eq1191.branch [
  | else-state-eq1191-via-then-state-eq1191+else-u32_at-ne4 w ↦ c.switches_in.ensures ∙ (row_in (extension_word c.args.state.now w.if-state-eq1191.true) w.u32_at.ensures (omega arith) (omega arith)).same
  | else-state-eq1191-via-else-state-eq1191 w ↦ extension_longer c.args.state.now w.if-state-eq1191.false c.switches_in.ensures
]
