use Rattle.dskc.proofs.Reading.{few, table_full, table_done}
use Rattle.answer.proofs.Outcomes.{handed_on, fills_stop}
use native.Mathlib.Omega.{arith}
use Rattle.dskc.proofs.put_table.Goals as goal

pub overflow_mul-need : goal.overflow_mul-need
overflow_mul-need c = omega (arith, few c.args.wrapper.now c.in_ok-starts.ensures)

pub returns-in_err-roomy : goal.returns-in_err-roomy
returns-in_err-roomy c =
    rw (handed_on _ c.in_err-roomy.field-0.0 c.from_residual-in_err-roomy.ensures.1) (fills_stop _ c.in_err-roomy.field-0.0 (table_full c.args.wrapper.now c.in_ok-starts.ensures _ c.in_err-roomy.ensures))

pub returns : goal.returns
returns c = table_done c.args.wrapper.now c.in_ok-starts.ensures _ c.in_ok-roomy.ensures c.tail.ensures c.put_rows.ensures
