use Rattle.dskc.proofs.Reading.{header_stop, list_stop, list_done}
use Rattle.dskc.specs.Wrapper.{wrapper_header_checks}
use Rattle.answer.proofs.Checks.{asked-pass}
use Rattle.answer.proofs.Outcomes.{handed_on}
use native.Mathlib.Omega.{arith}
use Rattle.dskc.proofs.index.Goals as goal

pub returns-in_err-header : goal.returns-in_err-header
returns-in_err-header c = rw (handed_on _ c.in_err-header.field-0.0 c.from_residual.ensures.1) (header_stop c.args.s.now c.in_err-header.ensures)

pub overflow_add-result : goal.overflow_add-result
overflow_add-result c =
    let s = c.args.s.now in
    omega (arith, (list_stop s (asked-pass (wrapper_header_checks s) c.in_ok-header.ensures) c.tail.result.now c.args.places.now c.tail.ensures c.requires (rw c.in-Err.is at c.index.ensures)).1)

pub returns-in-Ok : goal.returns-in-Ok
returns-in-Ok c =
    let s = c.args.s.now in
    list_done s (asked-pass (wrapper_header_checks s) c.in_ok-header.ensures) c.tail.result.now c.args.places.now c.tail.ensures c.requires (rw c.in-Ok.is at c.index.ensures)

pub returns-in-Err : goal.returns-in-Err
returns-in-Err c =
    let s = c.args.s.now in
    (list_stop s (asked-pass (wrapper_header_checks s) c.in_ok-header.ensures) c.tail.result.now c.args.places.now c.tail.ensures c.requires (rw c.in-Err.is at c.index.ensures)).0
