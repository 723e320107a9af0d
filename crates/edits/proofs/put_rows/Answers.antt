use native.Mathlib.Omega.{arith}
use Rattle.edits.proofs.Turning.{turning_start, turning_done, turning_room, turning_fits, turning_inside, turning_next}
use Rattle.wire.proofs.Filling.{filling_at, filling_long}
use Rattle.edits.proofs.put_rows.Goals as goal

pub loop-start-init : goal.loop-start-init
loop-start-init c = turning_start _ _ _ _ _ _ c.requires.holds_list.0.firsts c.requires.file_in_bounds

pub overflow_cast-y : goal.overflow_cast-y
overflow_cast-y c = omega (arith, c.type_inv.starts c.loop-start.start-index)

pub slice_bounds-put_turn-count : goal.slice_bounds-put_turn-count
slice_bounds-put_turn-count c = filling_at c.loop-start.invariant.fills

pub slice_bounds-put_turn-start : goal.slice_bounds-put_turn-start
slice_bounds-put_turn-start c = filling_at c.loop-start.invariant.fills

pub put_turn-run-requires : goal.put_turn-run-requires
put_turn-run-requires c = let l = c.loop-start.invariant in let h = c.loop-start-test.true in record { holds_list = (c.requires.holds_list.0, l.low, l.high); y_value = ((turning_inside l h c.requires.holds_list.1).0, turning_room l h, omega (arith, c.type_inv.starts c.loop-start.start-index), (turning_inside l h c.requires.holds_list.1).1) }

pub overflow_add-bytes : goal.overflow_add-bytes
overflow_add-bytes c = omega (arith, turning_fits c.loop-start.invariant c.loop-start-test.true, c.put_turn-run.ensures.0.count)

pub loop-start-preserved : goal.loop-start-preserved
loop-start-preserved c = let e = c.put_turn-run.ensures in turning_next c.loop-start.invariant c.loop-start-test.true e.0 e.1 e.2

pub shape_of-out : goal.shape_of-out
shape_of-out c = filling_long c.loop-start.invariant.fills

pub returns : goal.returns
returns c = (turning_done c.loop-start.invariant c.loop-start-test.false, c.loop-start.invariant.low, c.loop-start.invariant.high)
