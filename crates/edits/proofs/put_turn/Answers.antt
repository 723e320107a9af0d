use native.Mathlib.Omega.{arith}
use Rattle.edits.proofs.Asking.{cut_device}
use Rattle.edits.proofs.Turning.{turn_run, entry_cut}
use Rattle.wire.specs.Parts.{Wrote}
use Rattle.edits.specs.Rows.{row_entry, before, turn_bytes, old_from}
use Rattle.wire.proofs.Filling.{Filling, filling_at, filling_sum, filling_room, filling_done}
use Rattle.order.specs.Entries.{join}
use lib.ListN.{length, take, drop, length-append}
use mathlib.Core.List.{List}
use Rattle.aerosnap.specs.Many.{is_inside}
use mathlib.Core.Path.{refl, ◌∙◌, ap}
use Prim.Native.Nat.{ℕ, ◌-◌}
use Rattle.edits.proofs.put_turn.Goals as goal

pub put_some-n-requires : goal.put_some-n-requires
put_some-n-requires c = let a = c.args in
    let old = old_from a.file.now a.site a.p in
    let run : List ℕ = join (take (before a.table.now a.y old) old) in
    let n = c.next_place-next.ensures in
    let e = turn_run c.requires.holds_list.0 c.requires.holds_list.1 c.requires.holds_list.2 a.table.now a.y n.0 in
    (c.requires.holds_list.0, c.requires.holds_list.1, omega (arith, n.0), n.1, omega (arith, ap length e, c.requires.y_value.1, length-append run (row_entry a.table.now a.store.now a.y)))

pub slice_bounds-put_row-end : goal.slice_bounds-put_row-end
slice_bounds-put_row-end c = c.requires.y_value.3

pub slice_bounds-put_row-count-2 : goal.slice_bounds-put_row-count-2
slice_bounds-put_row-count-2 c =
    let first : let a = c.args in Filling (turn_bytes a.table.now a.store.now a.y (old_from a.file.now a.site a.p)) a.out.now (row_entry a.table.now a.store.now a.y) c.put_some-n.result c.put_some-n.new.out = let a = c.args in
    let old = old_from a.file.now a.site a.p in
    record { part = join (take (before a.table.now a.y old) old); whole = refl; room = c.requires.y_value.1; wrote = rw (turn_run c.requires.holds_list.0 c.requires.holds_list.1 c.requires.holds_list.2 a.table.now a.y c.next_place-next.ensures.0) at c.put_some-n.ensures } in
    filling_at (first)

pub slice_bounds-put_row-start-2 : goal.slice_bounds-put_row-start-2
slice_bounds-put_row-start-2 c =
    let first : let a = c.args in Filling (turn_bytes a.table.now a.store.now a.y (old_from a.file.now a.site a.p)) a.out.now (row_entry a.table.now a.store.now a.y) c.put_some-n.result c.put_some-n.new.out = let a = c.args in
    let old = old_from a.file.now a.site a.p in
    record { part = join (take (before a.table.now a.y old) old); whole = refl; room = c.requires.y_value.1; wrote = rw (turn_run c.requires.holds_list.0 c.requires.holds_list.1 c.requires.holds_list.2 a.table.now a.y c.next_place-next.ensures.0) at c.put_some-n.ensures } in
    filling_at (first)

pub put_row-requires : goal.put_row-requires
put_row-requires c =
    let first : let a = c.args in Filling (turn_bytes a.table.now a.store.now a.y (old_from a.file.now a.site a.p)) a.out.now (row_entry a.table.now a.store.now a.y) c.put_some-n.result c.put_some-n.new.out = let a = c.args in
    let old = old_from a.file.now a.site a.p in
    record { part = join (take (before a.table.now a.y old) old); whole = refl; room = c.requires.y_value.1; wrote = rw (turn_run c.requires.holds_list.0 c.requires.holds_list.1 c.requires.holds_list.2 a.table.now a.y c.next_place-next.ensures.0) at c.put_some-n.ensures } in
    let a = c.args in (ap (is_inside a.store.now) (cut_device a.table.now a.y) ∙ c.requires.y_value.0, omega (arith, ap length (entry_cut a.table.now a.store.now a.y), filling_room (first)))

pub overflow_add-bytes : goal.overflow_add-bytes
overflow_add-bytes c =
    let first : let a = c.args in Filling (turn_bytes a.table.now a.store.now a.y (old_from a.file.now a.site a.p)) a.out.now (row_entry a.table.now a.store.now a.y) c.put_some-n.result c.put_some-n.new.out = let a = c.args in
    let old = old_from a.file.now a.site a.p in
    record { part = join (take (before a.table.now a.y old) old); whole = refl; room = c.requires.y_value.1; wrote = rw (turn_run c.requires.holds_list.0 c.requires.holds_list.1 c.requires.holds_list.2 a.table.now a.y c.next_place-next.ensures.0) at c.put_some-n.ensures } in
    let second : let a = c.args in Wrote (row_entry a.table.now a.store.now a.y) (take (length c.put_some-n.new.out - c.put_some-n.result) (drop c.put_some-n.result c.put_some-n.new.out)) c.put_row.new.out c.put_row.result = let a = c.args in rw (entry_cut a.table.now a.store.now a.y) at c.put_row.ensures in
    omega (arith, filling_sum (first), (second).count, c.requires.y_value.1, c.ranges)

pub returns : goal.returns
returns c =
    let first : let a = c.args in Filling (turn_bytes a.table.now a.store.now a.y (old_from a.file.now a.site a.p)) a.out.now (row_entry a.table.now a.store.now a.y) c.put_some-n.result c.put_some-n.new.out = let a = c.args in
    let old = old_from a.file.now a.site a.p in
    record { part = join (take (before a.table.now a.y old) old); whole = refl; room = c.requires.y_value.1; wrote = rw (turn_run c.requires.holds_list.0 c.requires.holds_list.1 c.requires.holds_list.2 a.table.now a.y c.next_place-next.ensures.0) at c.put_some-n.ensures } in
    let second : let a = c.args in Wrote (row_entry a.table.now a.store.now a.y) (take (length c.put_some-n.new.out - c.put_some-n.result) (drop c.put_some-n.result c.put_some-n.new.out)) c.put_row.new.out c.put_row.result = let a = c.args in rw (entry_cut a.table.now a.store.now a.y) at c.put_row.ensures in
    let n = c.next_place-next.ensures in (filling_done (first) (second), n.0, n.1)
