use Rattle.tables.specs.Tables.{ROW}
use Rattle.snapshot.proofs.Walks.{Rowing, rowing_start, rowing_done, rowing_count, rowing_room, rowing_next}
use Rattle.aerosnap.proofs.Standing.{end_at, goes}
use Rattle.wire.proofs.Filling.{filling_long}
use lib.ListN.{length}
use Prim.Native.Nat.{◌+◌, ◌≤◌, ◌<◌}
use native.Mathlib.Omega.{arith}
use Rattle.snapshot.proofs.put_rows.Goals as goal

pub loop-at-init : goal.loop-at-init
loop-at-init c = rowing_start _ _ c.requires

pub slice_bounds-put_section-count : goal.slice_bounds-put_section-count
slice_bounds-put_section-count c =
    let rows : Rowing c.args.file.now c.requires.0 c.loop-at.at c.loop-at.t c.loop-at.q c.args.out.now c.loop-at.out = c.loop-at.invariant c.requires.0 c.requires.1 in
    let room : c.loop-at.t + ROW ≤ length c.loop-at.out = rowing_room (rows) c.loop-at-test.true in
    omega (arith, room)

pub slice_bounds-put_section-start : goal.slice_bounds-put_section-start
slice_bounds-put_section-start c =
    let rows : Rowing c.args.file.now c.requires.0 c.loop-at.at c.loop-at.t c.loop-at.q c.args.out.now c.loop-at.out = c.loop-at.invariant c.requires.0 c.requires.1 in
    let room : c.loop-at.t + ROW ≤ length c.loop-at.out = rowing_room (rows) c.loop-at-test.true in
    omega (arith, room)

pub slice_bounds-put_section-end : goal.slice_bounds-put_section-end
slice_bounds-put_section-end c =
    let rows : Rowing c.args.file.now c.requires.0 c.loop-at.at c.loop-at.t c.loop-at.q c.args.out.now c.loop-at.out = c.loop-at.invariant c.requires.0 c.requires.1 in
    let room : c.loop-at.t + ROW ≤ length c.loop-at.out = rowing_room (rows) c.loop-at-test.true in
    omega (arith, room)

pub overflow_cast-at : goal.overflow_cast-at
overflow_cast-at c =
    let rows : Rowing c.args.file.now c.requires.0 c.loop-at.at c.loop-at.t c.loop-at.q c.args.out.now c.loop-at.out = c.loop-at.invariant c.requires.0 c.requires.1 in
    let on : let s = c.args.file.now in let at = c.loop-at.at in (at < end_at s at) × (end_at s at ≤ length s) × (length s ≤ 1073741824) = goes (rows).left (rows).stand c.loop-at-test.true in
    let g = on in omega (arith, g.0, g.1, g.2)

pub end_at-at-requires : goal.end_at-at-requires
end_at-at-requires c =
    let rows : Rowing c.args.file.now c.requires.0 c.loop-at.at c.loop-at.t c.loop-at.q c.args.out.now c.loop-at.out = c.loop-at.invariant c.requires.0 c.requires.1 in
    let on : let s = c.args.file.now in let at = c.loop-at.at in (at < end_at s at) × (end_at s at ≤ length s) × (length s ≤ 1073741824) = goes (rows).left (rows).stand c.loop-at-test.true in
    let g = on in omega (arith, g.1, g.2)

pub overflow_add-t : goal.overflow_add-t
overflow_add-t c =
    let rows : Rowing c.args.file.now c.requires.0 c.loop-at.at c.loop-at.t c.loop-at.q c.args.out.now c.loop-at.out = c.loop-at.invariant c.requires.0 c.requires.1 in
    let room : c.loop-at.t + ROW ≤ length c.loop-at.out = rowing_room (rows) c.loop-at-test.true in
    omega (arith, room, filling_long (rows).fill)

pub overflow_add-q : goal.overflow_add-q
overflow_add-q c =
    let rows : Rowing c.args.file.now c.requires.0 c.loop-at.at c.loop-at.t c.loop-at.q c.args.out.now c.loop-at.out = c.loop-at.invariant c.requires.0 c.requires.1 in
    omega (arith, rowing_count (rows) c.loop-at-test.true)

pub loop-at-smaller : goal.loop-at-smaller
loop-at-smaller c =
    let rows : Rowing c.args.file.now c.requires.0 c.loop-at.at c.loop-at.t c.loop-at.q c.args.out.now c.loop-at.out = c.loop-at.invariant c.requires.0 c.requires.1 in
    let on : let s = c.args.file.now in let at = c.loop-at.at in (at < end_at s at) × (end_at s at ≤ length s) × (length s ≤ 1073741824) = goes (rows).left (rows).stand c.loop-at-test.true in
    let g = on in omega (arith, g.0, g.1)

pub loop-at-preserved : goal.loop-at-preserved
loop-at-preserved c = λ l h. rw c.end_at-at.ensures (rowing_next (c.loop-at.invariant l h) c.loop-at-test.true (rw c.tail.ensures at c.put_section.ensures))

pub shape_of-out : goal.shape_of-out
shape_of-out c = let w = c.requires in filling_long (c.loop-at.invariant w.0 w.1).fill

pub returns : goal.returns
returns c = λ l h. rowing_done (c.loop-at.invariant l h) c.loop-at-test.false
