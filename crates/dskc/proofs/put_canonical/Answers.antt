use Rattle.dskc.proofs.Reading.{listed_so}
use Rattle.dskc.proofs.Canon.{canon_long, canon_full, canon_done, canon_room, canon_written}
use Rattle.answer.proofs.Outcomes.{handed_on, fills_stop, fills_done}
use native.Mathlib.Omega.{arith}
use Rattle.dskc.proofs.put_canonical.Goals as goal

pub returns-in_err-roomy : goal.returns-in_err-roomy
returns-in_err-roomy c =
    rw (handed_on _ c.in_err-roomy.field-0.0 c.from_residual-in_err-roomy.ensures.1) (fills_stop _ c.in_err-roomy.field-0.0 (canon_full c.args.wrapper.now c.in_ok-starts.ensures _ c.in_err-roomy.ensures))

pub put_header-requires : goal.put_header-requires
put_header-requires c =
    let text = c.args.wrapper.now in
    omega (arith, canon_long text c.in_ok-starts.ensures, (canon_done text c.in_ok-starts.ensures _ c.in_ok-roomy.ensures).1)

pub put_list-requires : goal.put_list-requires
put_list-requires c =
    let text = c.args.wrapper.now in
    let so = c.in_ok-starts.ensures in
    (rw (← c.tail.ensures) at (listed_so text so), canon_room text so c.tail.ensures (canon_done text so _ c.in_ok-roomy.ensures).1 c.put_header.ensures)

pub returns : goal.returns
returns c =
    let text = c.args.wrapper.now in
    let so = c.in_ok-starts.ensures in
    let w = canon_done text so _ c.in_ok-roomy.ensures in
    let v = canon_written text so c.tail.ensures w.1 c.put_header.ensures c.put_list.ensures in
    fills_done _ w.0 v.count v.bytes
