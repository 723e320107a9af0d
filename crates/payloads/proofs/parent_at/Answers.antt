use Rattle.answer.proofs.Outcomes.{passes}
use Rattle.format.proofs.Exits.{flag_inside, option_bad, option_absent, option_present}
use mathlib.Core.Path.{◌∙◌}
use Rattle.format.specs.Format.{bytes}
use native.Mathlib.Omega.{arith}
use Rattle.payloads.proofs.parent_at.Goals as goal

pub overflow_add-result : goal.overflow_add-result
overflow_add-result c = omega (arith, flag_inside c.args.s.now c.args.at c.in_ok-given.ensures)

pub overflow_add-at : goal.overflow_add-at
overflow_add-at c = omega (arith, flag_inside c.args.s.now c.args.at c.in_ok-given.ensures)

pub returns-in_err-given : goal.returns-in_err-given
returns-in_err-given c = let a = c.args in passes _ c.in_err-given.field-0.0 c.from_residual.ensures.1 (option_bad a.s.now a.at (bytes 8) c.in_err-given.ensures)

pub returns-then-given : goal.returns-then-given
returns-then-given c = let a = c.args in c.block_at.ensures ∙ option_present a.s.now a.at (bytes 8) (rw c.if-given.true at c.in_ok-given.ensures)

pub returns : goal.returns
returns c = let a = c.args in option_absent a.s.now a.at (bytes 8) (rw c.if-given.false at c.in_ok-given.ensures)
