use Rattle.answer.proofs.Outcomes.{passes}
use Rattle.entries.specs.States.{switches}
use Rattle.format.proofs.Listed.{listed_all, row_stop, row_past}
use mathlib.Core.Path.{◌∙◌}
use Rattle.entries.proofs.switches_in.Goals as goal

pub returns-in_err-at_most : goal.returns-in_err-at_most
returns-in_err-at_most c = passes _ c.in_err-at_most.field-0.0 c.from_residual.ensures.1 (row_stop (listed_all switches c.args.state.now) c.in_err-at_most.ensures)

pub returns-in_err-at_most-2 : goal.returns-in_err-at_most-2
returns-in_err-at_most-2 c = passes _ c.in_err-at_most-2.field-0.0 c.from_residual-in_err-at_most-2.ensures.1 (row_stop (row_past (listed_all switches c.args.state.now) c.in_ok-at_most.ensures) c.in_err-at_most-2.ensures)

pub returns : goal.returns
returns c = c.at_most-3.ensures ∙ (row_past (row_past (listed_all switches c.args.state.now) c.in_ok-at_most.ensures) c.in_ok-at_most-2.ensures).same
