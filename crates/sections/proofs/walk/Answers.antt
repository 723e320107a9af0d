use Rattle.lists.specs.Promises.{zeros}
use mathlib.Core.Path.{◌∙◌, ap}
use Rattle.sections.proofs.Turns.{walks_start, walks_long, walks_at, walks_back, walks_stop, walks_done, walks_next, passed, passed_id, passed_fits}
use native.Mathlib.Omega.{arith}
use Rattle.sections.proofs.walk.Goals as goal

pub loop-at-init : goal.loop-at-init
loop-at-init c = walks_start _ _ c.requires.0

pub offset_bounds-index-used : goal.offset_bounds-index-used
offset_bounds-index-used c = omega (arith, walks_at c.loop-at.invariant, walks_long c.loop-at.invariant)

pub slice_bounds-section_at-count : goal.slice_bounds-section_at-count
slice_bounds-section_at-count c = walks_at c.loop-at.invariant

pub slice_bounds-section_at-start : goal.slice_bounds-section_at-start
slice_bounds-section_at-start c = walks_at c.loop-at.invariant

pub section_at-requires : goal.section_at-requires
section_at-requires c = (c.loop-at.invariant.inside, c.requires.1)

pub shape_of-index-in-Err : goal.shape_of-index-in-Err
shape_of-index-in-Err c = c.forget.auto.starts ∙ walks_back c.loop-at.invariant c.section_at.new.index c.section_at.auto.index

pub returns-in-Err : goal.returns-in-Err
returns-in-Err c = let v = c.loop-at.invariant in
    walks_stop v c.loop-at-test.true (c.in-Err.ensures v.before v.marks) c.requires.2 (c.forget.ensures ∙ ap zeros (walks_back v c.section_at.new.index c.section_at.auto.index))

pub overflow_add-at : goal.overflow_add-at
overflow_add-at c = omega (arith, c.loop-at.invariant.inside, c.requires.1)

pub overflow_add-at-in-Ok : goal.overflow_add-at-in-Ok
overflow_add-at-in-Ok c = let v = c.loop-at.invariant in
    let x = passed v c.loop-at-test.true (c.in-Ok.ensures v.before v.marks) in
    omega (arith, x.ends, x.inside, c.requires.1, c.u64_at.ensures)

pub overflow_add-at-in-Ok-2 : goal.overflow_add-at-in-Ok-2
overflow_add-at-in-Ok-2 c = let v = c.loop-at.invariant in
    let x = passed v c.loop-at-test.true (c.in-Ok.ensures v.before v.marks) in
    omega (arith, x.ends, x.inside, c.requires.1, c.u64_at.ensures)

pub overflow_add-i : goal.overflow_add-i
overflow_add-i c = omega (arith, c.loop-at.invariant.few)

pub overflow_add-used : goal.overflow_add-used
overflow_add-used c = let v = c.loop-at.invariant in
    omega (arith, passed_fits v c.loop-at-test.true (c.in-Ok.ensures v.before v.marks), walks_long v)

pub loop-at-smaller : goal.loop-at-smaller
loop-at-smaller c = let v = c.loop-at.invariant in
    let x = passed v c.loop-at-test.true (c.in-Ok.ensures v.before v.marks) in
    omega (arith, x.ends, x.inside, c.u64_at.ensures)

pub loop-at-preserved : goal.loop-at-preserved
loop-at-preserved c = let v = c.loop-at.invariant in
    let h = c.loop-at-test.true in
    let k = c.in-Ok.ensures v.before v.marks in
    walks_next v h k _ (c.note.ensures v.before c.loop-at.i (passed v h k).sec (passed_id v h k c.u32_at.ensures) v.marks) c.u64_at.ensures

pub shape_of-index : goal.shape_of-index
shape_of-index c = walks_long c.loop-at.invariant

pub returns : goal.returns
returns c = walks_done c.loop-at.invariant c.loop-at-test.false
