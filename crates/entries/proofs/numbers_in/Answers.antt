use Rattle.answer.proofs.Outcomes.{passes}
use Rattle.entries.proofs.States.{state_one, state_stop, state_long, state_short}
use Rattle.entries.proofs.numbers_in.Goals as goal

pub returns-then-version-eq1 : goal.returns-then-version-eq1
returns-then-version-eq1 c = let a = c.args in state_one a.version a.state.now c.if-version-eq1.true

pub returns-then-state-ge1191 : goal.returns-then-state-ge1191
returns-then-state-ge1191 c = let a = c.args in state_long a.version a.state.now c.if-version-eq1.false c.if-state-ge1191.true c.in_ok-registers_in.ensures c.extension_in.ensures

pub returns-in_err-registers_in : goal.returns-in_err-registers_in
returns-in_err-registers_in c = let a = c.args in passes _ c.in_err-registers_in.field-0.0 c.from_residual.ensures.1 (state_stop a.version a.state.now c.if-version-eq1.false c.in_err-registers_in.ensures)

pub returns : goal.returns
returns c = let a = c.args in state_short a.version a.state.now c.if-version-eq1.false c.if-state-ge1191.false c.in_ok-registers_in.ensures
