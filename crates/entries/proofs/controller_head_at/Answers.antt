use Rattle.answer.proofs.Outcomes.{passes}
use Rattle.entries.proofs.Lawful.{head_place}
use Rattle.entries.specs.Kinds.{controller_checks}
use Rattle.format.proofs.Exits.{block_inside, asked_stop, asked-done, asked_fault}
use Rattle.format.proofs.Placed.{block_at as block-law}
use Rattle.format.specs.Format.{Asks}
use Rattle.answer.specs.Calls.{asked}
use native.Mathlib.Omega.{arith}
use Rattle.entries.proofs.controller_head_at.Goals as goal

abbrev head_asks : Asks
head_asks e = asked (controller_checks e)

pub slice_bounds-controller_lead-end : goal.slice_bounds-controller_lead-end
slice_bounds-controller_lead-end c = omega (arith, block_inside c.args.s.now c.args.at 8 c.in_ok-e.ensures (omega arith))

pub overflow_add-result : goal.overflow_add-result
overflow_add-result c = omega (arith, head_place c.args.s.now c.args.at c.in_ok-e.ensures c.in-Err.ensures)

pub returns-in_err-e : goal.returns-in_err-e
returns-in_err-e c = let a = c.args in
    passes _ c.in_err-e.field-0.0 c.from_residual.ensures.1 (asked_stop head_asks a.s.now a.at (block-law 8 head_asks a.s.now a.at) c.in_err-e.ensures)

pub returns-in-Err : goal.returns-in-Err
returns-in-Err c = let a = c.args in
    asked_fault head_asks a.s.now a.at (block-law 8 head_asks a.s.now a.at) c.in_ok-e.ensures c.in-Err.ensures

pub returns-in-Ok : goal.returns-in-Ok
returns-in-Ok c = let a = c.args in
    asked-done head_asks a.s.now a.at (block-law 8 head_asks a.s.now a.at) c.in_ok-e.ensures c.in-Ok.ensures
