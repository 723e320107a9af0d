use native.Mathlib.Omega.{arith}
use Rattle.edits.proofs.Asking.{asking_start, asking_done, asking_stop, asking_next}
use Rattle.edits.proofs.ask_rows.Goals as goal

pub loop-i-init : goal.loop-i-init
loop-i-init c = asking_start _ _ _ _ _ _ _ c.requires.3 c.requires.4

pub is_known-known-requires : goal.is_known-known-requires
is_known-known-requires c = (c.requires.0, c.requires.1, c.loop-i.invariant.modest.few)

pub slice_bounds-ask_row-end : goal.slice_bounds-ask_row-end
slice_bounds-ask_row-end c = omega (arith, c.loop-i-test.true)

pub ask_row-requires : goal.ask_row-requires
ask_row-requires c = c.loop-i.invariant.modest

pub returns-in-Err : goal.returns-in-Err
returns-in-Err c = asking_stop _ _ _ _ _ _ _ c.loop-i.invariant c.loop-i-test.true (λ j. omega (arith, c.type_inv.table j)) c.requires.2 c.is_known-known.ensures _ c.ask_row.ensures c.in-Err.is

pub loop-i-preserved : goal.loop-i-preserved
loop-i-preserved c = asking_next _ _ _ _ _ _ _ c.loop-i.invariant c.loop-i-test.true (λ j. omega (arith, c.type_inv.table j)) c.requires.2 c.is_known-known.ensures _ c.ask_row.ensures c.in-Ok.is

pub returns : goal.returns
returns c = asking_done _ _ _ _ _ _ _ c.loop-i.invariant c.loop-i-test.false
