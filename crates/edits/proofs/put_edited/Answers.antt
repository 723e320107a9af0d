use Rattle.wire.proofs.Filling.{Filling, filling_at, filling_room, filling_next_room, filling_next, filling_sum, filling_done}
use Rattle.writer.proofs.Whole.{back}
use Rattle.edits.specs.Edits.{edit_of}
use Rattle.edits.specs.Cuts.{side_for, entry_for, front_bytes, low_bytes, high_bytes, old_tail, back_bytes}
use mathlib.Core.List.{List, ◌++◌}
use mathlib.Core.Path.{◌≡◌, refl}
use Prim.Native.Nat.{ℕ, ◌+◌}
use lib.ListN.{length, length-append}
use native.Mathlib.Omega.{arith}
use Rattle.edits.proofs.put_edited.Goals as goal

pub front-i-requires : goal.front-i-requires
front-i-requires c =
    let ahead : List ℕ = let a = c.args in front_bytes (side_for a.edit) a.file.now a.cut in
    let low : List ℕ = let a = c.args in low_bytes (side_for a.edit) a.file.now a.site a.cut in
    let entry : List ℕ = let a = c.args in entry_for (edit_of a.edit a.a.now a.b.now) in
    let behind : List ℕ = let a = c.args in back_bytes (side_for a.edit) a.file.now a.site a.cut in
    let m = c.requires.pass.2 in
    rw c.side_of-side.ensures (c.requires.whole_file.0, record { most = omega (arith, m.most, length-append (ahead) (low ++ (entry ++ behind))); room = omega (arith, m.room, length-append (ahead) (low ++ (entry ++ behind))) })

pub slice_bounds-put_low-count : goal.slice_bounds-put_low-count
slice_bounds-put_low-count c =
    let ahead : List ℕ = let a = c.args in front_bytes (side_for a.edit) a.file.now a.cut in
    let low : List ℕ = let a = c.args in low_bytes (side_for a.edit) a.file.now a.site a.cut in
    let entry : List ℕ = let a = c.args in entry_for (edit_of a.edit a.a.now a.b.now) in
    let behind : List ℕ = let a = c.args in back_bytes (side_for a.edit) a.file.now a.site a.cut in
    let all : List ℕ = ahead ++ (low ++ (entry ++ behind)) in
    let first : Filling (all) c.args.out.now (low ++ (entry ++ behind)) c.front-i.result c.front-i.new.out = record { part = ahead; whole = refl; room = c.requires.pass.2.room; wrote = rw c.side_of-side.ensures at c.front-i.ensures } in
    filling_at (first)

pub slice_bounds-put_low-start : goal.slice_bounds-put_low-start
slice_bounds-put_low-start c =
    let ahead : List ℕ = let a = c.args in front_bytes (side_for a.edit) a.file.now a.cut in
    let low : List ℕ = let a = c.args in low_bytes (side_for a.edit) a.file.now a.site a.cut in
    let entry : List ℕ = let a = c.args in entry_for (edit_of a.edit a.a.now a.b.now) in
    let behind : List ℕ = let a = c.args in back_bytes (side_for a.edit) a.file.now a.site a.cut in
    let all : List ℕ = ahead ++ (low ++ (entry ++ behind)) in
    let first : Filling (all) c.args.out.now (low ++ (entry ++ behind)) c.front-i.result c.front-i.new.out = record { part = ahead; whole = refl; room = c.requires.pass.2.room; wrote = rw c.side_of-side.ensures at c.front-i.ensures } in
    filling_at (first)

pub put_low-requires : goal.put_low-requires
put_low-requires c =
    let low : List ℕ = let a = c.args in low_bytes (side_for a.edit) a.file.now a.site a.cut in
    let entry : List ℕ = let a = c.args in entry_for (edit_of a.edit a.a.now a.b.now) in
    let behind : List ℕ = let a = c.args in back_bytes (side_for a.edit) a.file.now a.site a.cut in
    let ahead : List ℕ = let a = c.args in front_bytes (side_for a.edit) a.file.now a.cut in
    let all : List ℕ = ahead ++ (low ++ (entry ++ behind)) in
    let first : Filling (all) c.args.out.now (low ++ (entry ++ behind)) c.front-i.result c.front-i.new.out = record { part = ahead; whole = refl; room = c.requires.pass.2.room; wrote = rw c.side_of-side.ensures at c.front-i.ensures } in
    rw c.side_of-side.ensures (c.requires.whole_file.1, filling_next_room (low) (entry ++ behind) (first))

pub overflow_add-j : goal.overflow_add-j
overflow_add-j c =
    let ahead : List ℕ = let a = c.args in front_bytes (side_for a.edit) a.file.now a.cut in
    let low : List ℕ = let a = c.args in low_bytes (side_for a.edit) a.file.now a.site a.cut in
    let entry : List ℕ = let a = c.args in entry_for (edit_of a.edit a.a.now a.b.now) in
    let behind : List ℕ = let a = c.args in back_bytes (side_for a.edit) a.file.now a.site a.cut in
    let all : List ℕ = ahead ++ (low ++ (entry ++ behind)) in
    let first : Filling (all) c.args.out.now (low ++ (entry ++ behind)) c.front-i.result c.front-i.new.out = record { part = ahead; whole = refl; room = c.requires.pass.2.room; wrote = rw c.side_of-side.ensures at c.front-i.ensures } in
    let second : Filling (all) c.args.out.now (entry ++ behind) (c.front-i.result + c.put_low.result) (back c.front-i.result c.front-i.new.out c.put_low.new.out) = filling_next (low) (entry ++ behind) (first) (rw c.side_of-side.ensures at c.put_low.ensures) in
    omega (arith, filling_sum (second), c.requires.pass.2.most)

pub slice_bounds-put_new-count : goal.slice_bounds-put_new-count
slice_bounds-put_new-count c =
    let ahead : List ℕ = let a = c.args in front_bytes (side_for a.edit) a.file.now a.cut in
    let low : List ℕ = let a = c.args in low_bytes (side_for a.edit) a.file.now a.site a.cut in
    let entry : List ℕ = let a = c.args in entry_for (edit_of a.edit a.a.now a.b.now) in
    let behind : List ℕ = let a = c.args in back_bytes (side_for a.edit) a.file.now a.site a.cut in
    let all : List ℕ = ahead ++ (low ++ (entry ++ behind)) in
    let first : Filling (all) c.args.out.now (low ++ (entry ++ behind)) c.front-i.result c.front-i.new.out = record { part = ahead; whole = refl; room = c.requires.pass.2.room; wrote = rw c.side_of-side.ensures at c.front-i.ensures } in
    let second : Filling (all) c.args.out.now (entry ++ behind) (c.front-i.result + c.put_low.result) (back c.front-i.result c.front-i.new.out c.put_low.new.out) = filling_next (low) (entry ++ behind) (first) (rw c.side_of-side.ensures at c.put_low.ensures) in
    filling_at (second)

pub slice_bounds-put_new-start : goal.slice_bounds-put_new-start
slice_bounds-put_new-start c =
    let ahead : List ℕ = let a = c.args in front_bytes (side_for a.edit) a.file.now a.cut in
    let low : List ℕ = let a = c.args in low_bytes (side_for a.edit) a.file.now a.site a.cut in
    let entry : List ℕ = let a = c.args in entry_for (edit_of a.edit a.a.now a.b.now) in
    let behind : List ℕ = let a = c.args in back_bytes (side_for a.edit) a.file.now a.site a.cut in
    let all : List ℕ = ahead ++ (low ++ (entry ++ behind)) in
    let first : Filling (all) c.args.out.now (low ++ (entry ++ behind)) c.front-i.result c.front-i.new.out = record { part = ahead; whole = refl; room = c.requires.pass.2.room; wrote = rw c.side_of-side.ensures at c.front-i.ensures } in
    let second : Filling (all) c.args.out.now (entry ++ behind) (c.front-i.result + c.put_low.result) (back c.front-i.result c.front-i.new.out c.put_low.new.out) = filling_next (low) (entry ++ behind) (first) (rw c.side_of-side.ensures at c.put_low.ensures) in
    filling_at (second)

pub put_new-requires : goal.put_new-requires
put_new-requires c =
    let entry : List ℕ = let a = c.args in entry_for (edit_of a.edit a.a.now a.b.now) in
    let behind : List ℕ = let a = c.args in back_bytes (side_for a.edit) a.file.now a.site a.cut in
    let ahead : List ℕ = let a = c.args in front_bytes (side_for a.edit) a.file.now a.cut in
    let low : List ℕ = let a = c.args in low_bytes (side_for a.edit) a.file.now a.site a.cut in
    let all : List ℕ = ahead ++ (low ++ (entry ++ behind)) in
    let first : Filling (all) c.args.out.now (low ++ (entry ++ behind)) c.front-i.result c.front-i.new.out = record { part = ahead; whole = refl; room = c.requires.pass.2.room; wrote = rw c.side_of-side.ensures at c.front-i.ensures } in
    let second : Filling (all) c.args.out.now (entry ++ behind) (c.front-i.result + c.put_low.result) (back c.front-i.result c.front-i.new.out c.put_low.new.out) = filling_next (low) (entry ++ behind) (first) (rw c.side_of-side.ensures at c.put_low.ensures) in
    (c.requires.pass.0, filling_next_room (entry) (behind) (second))

pub overflow_add-k : goal.overflow_add-k
overflow_add-k c =
    let ahead : List ℕ = let a = c.args in front_bytes (side_for a.edit) a.file.now a.cut in
    let low : List ℕ = let a = c.args in low_bytes (side_for a.edit) a.file.now a.site a.cut in
    let entry : List ℕ = let a = c.args in entry_for (edit_of a.edit a.a.now a.b.now) in
    let behind : List ℕ = let a = c.args in back_bytes (side_for a.edit) a.file.now a.site a.cut in
    let all : List ℕ = ahead ++ (low ++ (entry ++ behind)) in
    let first : Filling (all) c.args.out.now (low ++ (entry ++ behind)) c.front-i.result c.front-i.new.out = record { part = ahead; whole = refl; room = c.requires.pass.2.room; wrote = rw c.side_of-side.ensures at c.front-i.ensures } in
    let second : Filling (all) c.args.out.now (entry ++ behind) (c.front-i.result + c.put_low.result) (back c.front-i.result c.front-i.new.out c.put_low.new.out) = filling_next (low) (entry ++ behind) (first) (rw c.side_of-side.ensures at c.put_low.ensures) in
    let third : let n : ℕ = c.front-i.result + c.put_low.result in
    Filling (all) c.args.out.now (behind) (n + c.put_new.result) (back n (back c.front-i.result c.front-i.new.out c.put_low.new.out) c.put_new.new.out) = filling_next (entry) (behind) (second) c.put_new.ensures in
    omega (arith, filling_sum (third), c.requires.pass.2.most)

pub overflow_sub-left : goal.overflow_sub-left
overflow_sub-left c =
    let low : List ℕ = let a = c.args in low_bytes (side_for a.edit) a.file.now a.site a.cut in
    let entry : List ℕ = let a = c.args in entry_for (edit_of a.edit a.a.now a.b.now) in
    let ahead : List ℕ = let a = c.args in front_bytes (side_for a.edit) a.file.now a.cut in
    let behind : List ℕ = let a = c.args in back_bytes (side_for a.edit) a.file.now a.site a.cut in
    let all : List ℕ = ahead ++ (low ++ (entry ++ behind)) in
    let first : Filling (all) c.args.out.now (low ++ (entry ++ behind)) c.front-i.result c.front-i.new.out = record { part = ahead; whole = refl; room = c.requires.pass.2.room; wrote = rw c.side_of-side.ensures at c.front-i.ensures } in
    let second : Filling (all) c.args.out.now (entry ++ behind) (c.front-i.result + c.put_low.result) (back c.front-i.result c.front-i.new.out c.put_low.new.out) = filling_next (low) (entry ++ behind) (first) (rw c.side_of-side.ensures at c.put_low.ensures) in
    let third : let n : ℕ = c.front-i.result + c.put_low.result in
    Filling (all) c.args.out.now (behind) (n + c.put_new.result) (back n (back c.front-i.result c.front-i.new.out c.put_low.new.out) c.put_new.new.out) = filling_next (entry) (behind) (second) c.put_new.ensures in
    let counted : let a = c.args in
    (c.put_low.result ≡ length (low)) × (c.put_new.result ≡ length (entry)) × (a.cut.bytes ≡ 4 + (length (low) + (length (entry) + (length (high_bytes (side_for a.edit) a.file.now a.site a.cut) + length (old_tail (side_for a.edit) a.file.now))))) = (omega (arith, filling_sum (first), filling_sum (second), length-append (low) (entry ++ behind)), omega (arith, filling_sum (second), filling_sum (third), length-append (entry) (behind)), c.requires.pass.1) in
    omega (arith, (counted).2)

pub overflow_sub-left-3 : goal.overflow_sub-left-3
overflow_sub-left-3 c =
    let low : List ℕ = let a = c.args in low_bytes (side_for a.edit) a.file.now a.site a.cut in
    let entry : List ℕ = let a = c.args in entry_for (edit_of a.edit a.a.now a.b.now) in
    let ahead : List ℕ = let a = c.args in front_bytes (side_for a.edit) a.file.now a.cut in
    let behind : List ℕ = let a = c.args in back_bytes (side_for a.edit) a.file.now a.site a.cut in
    let all : List ℕ = ahead ++ (low ++ (entry ++ behind)) in
    let first : Filling (all) c.args.out.now (low ++ (entry ++ behind)) c.front-i.result c.front-i.new.out = record { part = ahead; whole = refl; room = c.requires.pass.2.room; wrote = rw c.side_of-side.ensures at c.front-i.ensures } in
    let second : Filling (all) c.args.out.now (entry ++ behind) (c.front-i.result + c.put_low.result) (back c.front-i.result c.front-i.new.out c.put_low.new.out) = filling_next (low) (entry ++ behind) (first) (rw c.side_of-side.ensures at c.put_low.ensures) in
    let third : let n : ℕ = c.front-i.result + c.put_low.result in
    Filling (all) c.args.out.now (behind) (n + c.put_new.result) (back n (back c.front-i.result c.front-i.new.out c.put_low.new.out) c.put_new.new.out) = filling_next (entry) (behind) (second) c.put_new.ensures in
    let counted : let a = c.args in
    (c.put_low.result ≡ length (low)) × (c.put_new.result ≡ length (entry)) × (a.cut.bytes ≡ 4 + (length (low) + (length (entry) + (length (high_bytes (side_for a.edit) a.file.now a.site a.cut) + length (old_tail (side_for a.edit) a.file.now))))) = (omega (arith, filling_sum (first), filling_sum (second), length-append (low) (entry ++ behind)), omega (arith, filling_sum (second), filling_sum (third), length-append (entry) (behind)), c.requires.pass.1) in
    let w = counted in omega (arith, w.2, w.0, w.1)

pub slice_bounds-back-count : goal.slice_bounds-back-count
slice_bounds-back-count c =
    let ahead : List ℕ = let a = c.args in front_bytes (side_for a.edit) a.file.now a.cut in
    let low : List ℕ = let a = c.args in low_bytes (side_for a.edit) a.file.now a.site a.cut in
    let entry : List ℕ = let a = c.args in entry_for (edit_of a.edit a.a.now a.b.now) in
    let behind : List ℕ = let a = c.args in back_bytes (side_for a.edit) a.file.now a.site a.cut in
    let all : List ℕ = ahead ++ (low ++ (entry ++ behind)) in
    let first : Filling (all) c.args.out.now (low ++ (entry ++ behind)) c.front-i.result c.front-i.new.out = record { part = ahead; whole = refl; room = c.requires.pass.2.room; wrote = rw c.side_of-side.ensures at c.front-i.ensures } in
    let second : Filling (all) c.args.out.now (entry ++ behind) (c.front-i.result + c.put_low.result) (back c.front-i.result c.front-i.new.out c.put_low.new.out) = filling_next (low) (entry ++ behind) (first) (rw c.side_of-side.ensures at c.put_low.ensures) in
    let third : let n : ℕ = c.front-i.result + c.put_low.result in
    Filling (all) c.args.out.now (behind) (n + c.put_new.result) (back n (back c.front-i.result c.front-i.new.out c.put_low.new.out) c.put_new.new.out) = filling_next (entry) (behind) (second) c.put_new.ensures in
    filling_at (third)

pub slice_bounds-back-start : goal.slice_bounds-back-start
slice_bounds-back-start c =
    let ahead : List ℕ = let a = c.args in front_bytes (side_for a.edit) a.file.now a.cut in
    let low : List ℕ = let a = c.args in low_bytes (side_for a.edit) a.file.now a.site a.cut in
    let entry : List ℕ = let a = c.args in entry_for (edit_of a.edit a.a.now a.b.now) in
    let behind : List ℕ = let a = c.args in back_bytes (side_for a.edit) a.file.now a.site a.cut in
    let all : List ℕ = ahead ++ (low ++ (entry ++ behind)) in
    let first : Filling (all) c.args.out.now (low ++ (entry ++ behind)) c.front-i.result c.front-i.new.out = record { part = ahead; whole = refl; room = c.requires.pass.2.room; wrote = rw c.side_of-side.ensures at c.front-i.ensures } in
    let second : Filling (all) c.args.out.now (entry ++ behind) (c.front-i.result + c.put_low.result) (back c.front-i.result c.front-i.new.out c.put_low.new.out) = filling_next (low) (entry ++ behind) (first) (rw c.side_of-side.ensures at c.put_low.ensures) in
    let third : let n : ℕ = c.front-i.result + c.put_low.result in
    Filling (all) c.args.out.now (behind) (n + c.put_new.result) (back n (back c.front-i.result c.front-i.new.out c.put_low.new.out) c.put_new.new.out) = filling_next (entry) (behind) (second) c.put_new.ensures in
    filling_at (third)

pub back-requires : goal.back-requires
back-requires c =
    let low : List ℕ = let a = c.args in low_bytes (side_for a.edit) a.file.now a.site a.cut in
    let entry : List ℕ = let a = c.args in entry_for (edit_of a.edit a.a.now a.b.now) in
    let ahead : List ℕ = let a = c.args in front_bytes (side_for a.edit) a.file.now a.cut in
    let behind : List ℕ = let a = c.args in back_bytes (side_for a.edit) a.file.now a.site a.cut in
    let all : List ℕ = ahead ++ (low ++ (entry ++ behind)) in
    let first : Filling (all) c.args.out.now (low ++ (entry ++ behind)) c.front-i.result c.front-i.new.out = record { part = ahead; whole = refl; room = c.requires.pass.2.room; wrote = rw c.side_of-side.ensures at c.front-i.ensures } in
    let second : Filling (all) c.args.out.now (entry ++ behind) (c.front-i.result + c.put_low.result) (back c.front-i.result c.front-i.new.out c.put_low.new.out) = filling_next (low) (entry ++ behind) (first) (rw c.side_of-side.ensures at c.put_low.ensures) in
    let third : let n : ℕ = c.front-i.result + c.put_low.result in
    Filling (all) c.args.out.now (behind) (n + c.put_new.result) (back n (back c.front-i.result c.front-i.new.out c.put_low.new.out) c.put_new.new.out) = filling_next (entry) (behind) (second) c.put_new.ensures in
    let counted : let a = c.args in
    (c.put_low.result ≡ length (low)) × (c.put_new.result ≡ length (entry)) × (a.cut.bytes ≡ 4 + (length (low) + (length (entry) + (length (high_bytes (side_for a.edit) a.file.now a.site a.cut) + length (old_tail (side_for a.edit) a.file.now))))) = (omega (arith, filling_sum (first), filling_sum (second), length-append (low) (entry ++ behind)), omega (arith, filling_sum (second), filling_sum (third), length-append (entry) (behind)), c.requires.pass.1) in
    let w = counted in
    rw c.side_of-side.ensures (record { whole_file = (c.requires.whole_file.0, c.requires.whole_file.1); bytes_behind = (omega (arith, w.2, w.0, w.1), record { most = omega (arith, filling_sum (third), c.requires.pass.2.most); room = filling_room (third) }) })

pub overflow_add-result : goal.overflow_add-result
overflow_add-result c =
    let ahead : List ℕ = let a = c.args in front_bytes (side_for a.edit) a.file.now a.cut in
    let low : List ℕ = let a = c.args in low_bytes (side_for a.edit) a.file.now a.site a.cut in
    let entry : List ℕ = let a = c.args in entry_for (edit_of a.edit a.a.now a.b.now) in
    let behind : List ℕ = let a = c.args in back_bytes (side_for a.edit) a.file.now a.site a.cut in
    let all : List ℕ = ahead ++ (low ++ (entry ++ behind)) in
    let first : Filling (all) c.args.out.now (low ++ (entry ++ behind)) c.front-i.result c.front-i.new.out = record { part = ahead; whole = refl; room = c.requires.pass.2.room; wrote = rw c.side_of-side.ensures at c.front-i.ensures } in
    let second : Filling (all) c.args.out.now (entry ++ behind) (c.front-i.result + c.put_low.result) (back c.front-i.result c.front-i.new.out c.put_low.new.out) = filling_next (low) (entry ++ behind) (first) (rw c.side_of-side.ensures at c.put_low.ensures) in
    let third : let n : ℕ = c.front-i.result + c.put_low.result in
    Filling (all) c.args.out.now (behind) (n + c.put_new.result) (back n (back c.front-i.result c.front-i.new.out c.put_low.new.out) c.put_new.new.out) = filling_next (entry) (behind) (second) c.put_new.ensures in
    omega (arith, filling_sum (third), (rw c.side_of-side.ensures at c.back.ensures).count, c.requires.pass.2.most)

pub returns : goal.returns
returns c =
    let ahead : List ℕ = let a = c.args in front_bytes (side_for a.edit) a.file.now a.cut in
    let low : List ℕ = let a = c.args in low_bytes (side_for a.edit) a.file.now a.site a.cut in
    let entry : List ℕ = let a = c.args in entry_for (edit_of a.edit a.a.now a.b.now) in
    let behind : List ℕ = let a = c.args in back_bytes (side_for a.edit) a.file.now a.site a.cut in
    let all : List ℕ = ahead ++ (low ++ (entry ++ behind)) in
    let first : Filling (all) c.args.out.now (low ++ (entry ++ behind)) c.front-i.result c.front-i.new.out = record { part = ahead; whole = refl; room = c.requires.pass.2.room; wrote = rw c.side_of-side.ensures at c.front-i.ensures } in
    let second : Filling (all) c.args.out.now (entry ++ behind) (c.front-i.result + c.put_low.result) (back c.front-i.result c.front-i.new.out c.put_low.new.out) = filling_next (low) (entry ++ behind) (first) (rw c.side_of-side.ensures at c.put_low.ensures) in
    let third : let n : ℕ = c.front-i.result + c.put_low.result in
    Filling (all) c.args.out.now (behind) (n + c.put_new.result) (back n (back c.front-i.result c.front-i.new.out c.put_low.new.out) c.put_new.new.out) = filling_next (entry) (behind) (second) c.put_new.ensures in
    filling_done (third) (rw c.side_of-side.ensures at c.back.ensures)
