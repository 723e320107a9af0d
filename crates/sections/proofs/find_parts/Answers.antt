use Rattle.sections.proofs.Dividing.{dividing_start, dividing_long, dividing_at, dividing_rows, dividing_end, dividing_more, dividing_used, dividing_others, dividing_sections, dividing_bytes, dividing_done, dividing_goes, dividing_lost, dividing_kept, sec, sec_id, sec_room, sec_fits}
use Rattle.answer.specs.Refusals.{number_of}
use Rattle.aerosnap.specs.Salvage.{loss_bytes, all_kept}
use mathlib.Core.Path.{sym, ◌∙◌, ap}
use lib.ListN.{length}
use native.Mathlib.Omega.{arith}
use Rattle.sections.proofs.find_parts.Goals as goal

pub loop-at-init : goal.loop-at-init
loop-at-init c = dividing_start _ _ _ _ c.requires.0 c.requires.2

pub part_length-w-requires : goal.part_length-w-requires
part_length-w-requires c = (c.loop-at.invariant.inside, c.requires.1)

pub offset_bounds-starts-used : goal.offset_bounds-starts-used
offset_bounds-starts-used c = let v = c.loop-at.invariant in omega (arith, dividing_at v, dividing_long v)

pub slice_bounds-part_at-count : goal.slice_bounds-part_at-count
slice_bounds-part_at-count c = dividing_at c.loop-at.invariant

pub slice_bounds-part_at-start : goal.slice_bounds-part_at-start
slice_bounds-part_at-start c = dividing_at c.loop-at.invariant

pub part_at-requires : goal.part_at-requires
part_at-requires c = (c.loop-at.invariant.inside, c.requires.1)

pub slice_bounds-put_loss-count : goal.slice_bounds-put_loss-count
slice_bounds-put_loss-count c = dividing_end c.loop-at.invariant

pub slice_bounds-put_loss-start : goal.slice_bounds-put_loss-start
slice_bounds-put_loss-start c = dividing_end c.loop-at.invariant

pub overflow_add-t : goal.overflow_add-t
overflow_add-t c = let v = c.loop-at.invariant in
    omega (arith, dividing_more v (loss_bytes c.loop-at.at c.part_length-w.result (number_of c.in-Err.fault.0)) c.put_loss-t.ensures.count, dividing_rows v)

pub first_of-first-requires : goal.first_of-first-requires
first_of-first-requires c = c.loop-at.invariant.inside

pub overflow_add-lost : goal.overflow_add-lost
overflow_add-lost c = omega (arith, c.loop-at.invariant.few, c.loop-at.invariant.inside, c.requires.1)

pub overflow_add-at : goal.overflow_add-at
overflow_add-at c = omega (arith, dividing_goes c.loop-at.invariant c.loop-at-test.true c.part_length-w.ensures, c.requires.1)

pub loop-at-smaller-in-Err : goal.loop-at-smaller-in-Err
loop-at-smaller-in-Err c = omega (arith, dividing_goes c.loop-at.invariant c.loop-at-test.true c.part_length-w.ensures)

pub loop-at-preserved-in-Err : goal.loop-at-preserved-in-Err
loop-at-preserved-in-Err c = let v = c.loop-at.invariant in
    dividing_lost v c.loop-at-test.true c.part_length-w.ensures c.in-Err.fault (c.in-Err.ensures (all_kept v.done) v.marks) c.first_of-first.result c.first_of-first.ensures c.put_loss-t.ensures

pub enter-requires : goal.enter-requires
enter-requires c = let v = c.loop-at.invariant in
    let g = dividing_goes v c.loop-at-test.true c.part_length-w.ensures in
    (v.seating.long, dividing_others v, dividing_sections v, omega (arith, dividing_bytes v, g.1, c.requires.1), omega (arith, v.inside, c.requires.1), dividing_used v)

pub overflow_add-n : goal.overflow_add-n
overflow_add-n c = let v = c.loop-at.invariant in
    omega (arith, sec_room v c.loop-at-test.true c.part_length-w.ensures (c.in-Ok.ensures (all_kept v.done) v.marks))

pub overflow_add-used : goal.overflow_add-used
overflow_add-used c = let v = c.loop-at.invariant in
    omega (arith, sec_fits v c.loop-at-test.true c.part_length-w.ensures (c.in-Ok.ensures (all_kept v.done) v.marks), dividing_long v)

pub overflow_add-at-in-Ok : goal.overflow_add-at-in-Ok
overflow_add-at-in-Ok c = omega (arith, dividing_goes c.loop-at.invariant c.loop-at-test.true c.part_length-w.ensures, c.requires.1)

pub loop-at-smaller : goal.loop-at-smaller
loop-at-smaller c = omega (arith, dividing_goes c.loop-at.invariant c.loop-at-test.true c.part_length-w.ensures)

pub loop-at-preserved : goal.loop-at-preserved
loop-at-preserved c = let v = c.loop-at.invariant in
    let h = c.loop-at-test.true in
    let z = c.part_length-w.ensures in
    let kept = c.in-Ok.ensures (all_kept v.done) v.marks in
    let i = c.u32_at-id.ensures in
    let m = c.note.ensures (all_kept v.done) c.loop-at.n (sec v h z kept) (sec_id v h z kept i) v.marks in
    rw c.enter.ensures (dividing_kept v h z kept i m)

pub shape_of-dir : goal.shape_of-dir
shape_of-dir c = c.loop-at.invariant.seating.long ∙ sym (ap length c.requires.2)

pub shape_of-starts : goal.shape_of-starts
shape_of-starts c = dividing_long c.loop-at.invariant

pub shape_of-losses : goal.shape_of-losses
shape_of-losses c = dividing_rows c.loop-at.invariant

pub returns : goal.returns
returns c = dividing_done c.loop-at.invariant c.loop-at-test.false c.requires.1 c.losses_by.ensures
