use Rattle.canon.proofs.Named.{whole-ranks}
use Rattle.canon.proofs.Order.{file_head, file_long}
use Rattle.wire.proofs.Filling.{Filling, filling_at, filling_room, filling_next_room, filling_next, filling_sum, filling_done}
use Rattle.writer.proofs.Whole.{back}
use Rattle.canon.specs.Steps.{ranks}
use Rattle.edits.specs.Cuts.{list_head, front_bytes}
use Rattle.sections.specs.Walks.{sections_in}
use Rattle.aerosnap.specs.File.{header}
use Rattle.aerosnap.specs.Content.{id_at}
use mathlib.Core.List.{List, ◌++◌}
use mathlib.Core.Path.{sym}
use Prim.Native.Nat.{ℕ, ◌+◌, ◌-◌}
use lib.ListN.{length-append}
use lib.Seq.{length-take-le}
use native.Mathlib.Omega.{arith}
use Rattle.edits.proofs.front.Goals as goal

pub slice_bounds-copy-end : goal.slice_bounds-copy-end
slice_bounds-copy-end c = sym (length-take-le 16 c.args.file.now (file_long c.args.file.now c.args.out.now c.requires.0.read))

pub overflow_add-i : goal.overflow_add-i
overflow_add-i c =
    let all : List ℕ = let a = c.args in front_bytes a.side a.file.now a.cut in
    let head : List ℕ = let a = c.args in list_head (id_at a.side) a.cut.count a.cut.bytes in
    let before : List ℕ = let a = c.args in ranks (sections_in a.file.now) 0 (id_at a.side - 1) in
    let first : Filling (all) c.args.out.now (before ++ head) 16 c.copy.new.out = file_head c.args.file.now c.args.out.now c.requires.0.read (before ++ head) (omega (arith, c.requires.1.room, length-append header (before ++ head))) c.copy.ensures in
    let second : Filling (all) c.args.out.now (head) (16 + c.put_between-i.result) (back 16 c.copy.new.out c.put_between-i.new.out) = let i = c.id_at-id.ensures in
    let e = whole-ranks (λ j. omega (arith, c.type_inv.file j)) c.requires.0 0 (id_at c.args.side - 1) (omega (arith, i.0, i.2)) (filling_next_room (before) (head) (first)) in
    filling_next (before) (head) (first) (rw (i.0, e) at c.put_between-i.ensures) in
    omega (arith, filling_sum (second), c.requires.1.most)

pub slice_bounds-put_head-count : goal.slice_bounds-put_head-count
slice_bounds-put_head-count c =
    let all : List ℕ = let a = c.args in front_bytes a.side a.file.now a.cut in
    let head : List ℕ = let a = c.args in list_head (id_at a.side) a.cut.count a.cut.bytes in
    let before : List ℕ = let a = c.args in ranks (sections_in a.file.now) 0 (id_at a.side - 1) in
    let first : Filling (all) c.args.out.now (before ++ head) 16 c.copy.new.out = file_head c.args.file.now c.args.out.now c.requires.0.read (before ++ head) (omega (arith, c.requires.1.room, length-append header (before ++ head))) c.copy.ensures in
    let second : Filling (all) c.args.out.now (head) (16 + c.put_between-i.result) (back 16 c.copy.new.out c.put_between-i.new.out) = let i = c.id_at-id.ensures in
    let e = whole-ranks (λ j. omega (arith, c.type_inv.file j)) c.requires.0 0 (id_at c.args.side - 1) (omega (arith, i.0, i.2)) (filling_next_room (before) (head) (first)) in
    filling_next (before) (head) (first) (rw (i.0, e) at c.put_between-i.ensures) in
    filling_at (second)

pub slice_bounds-put_head-start : goal.slice_bounds-put_head-start
slice_bounds-put_head-start c =
    let all : List ℕ = let a = c.args in front_bytes a.side a.file.now a.cut in
    let head : List ℕ = let a = c.args in list_head (id_at a.side) a.cut.count a.cut.bytes in
    let before : List ℕ = let a = c.args in ranks (sections_in a.file.now) 0 (id_at a.side - 1) in
    let first : Filling (all) c.args.out.now (before ++ head) 16 c.copy.new.out = file_head c.args.file.now c.args.out.now c.requires.0.read (before ++ head) (omega (arith, c.requires.1.room, length-append header (before ++ head))) c.copy.ensures in
    let second : Filling (all) c.args.out.now (head) (16 + c.put_between-i.result) (back 16 c.copy.new.out c.put_between-i.new.out) = let i = c.id_at-id.ensures in
    let e = whole-ranks (λ j. omega (arith, c.type_inv.file j)) c.requires.0 0 (id_at c.args.side - 1) (omega (arith, i.0, i.2)) (filling_next_room (before) (head) (first)) in
    filling_next (before) (head) (first) (rw (i.0, e) at c.put_between-i.ensures) in
    filling_at (second)

pub put_head-requires : goal.put_head-requires
put_head-requires c =
    let all : List ℕ = let a = c.args in front_bytes a.side a.file.now a.cut in
    let head : List ℕ = let a = c.args in list_head (id_at a.side) a.cut.count a.cut.bytes in
    let before : List ℕ = let a = c.args in ranks (sections_in a.file.now) 0 (id_at a.side - 1) in
    let first : Filling (all) c.args.out.now (before ++ head) 16 c.copy.new.out = file_head c.args.file.now c.args.out.now c.requires.0.read (before ++ head) (omega (arith, c.requires.1.room, length-append header (before ++ head))) c.copy.ensures in
    let second : Filling (all) c.args.out.now (head) (16 + c.put_between-i.result) (back 16 c.copy.new.out c.put_between-i.new.out) = let i = c.id_at-id.ensures in
    let e = whole-ranks (λ j. omega (arith, c.type_inv.file j)) c.requires.0 0 (id_at c.args.side - 1) (omega (arith, i.0, i.2)) (filling_next_room (before) (head) (first)) in
    filling_next (before) (head) (first) (rw (i.0, e) at c.put_between-i.ensures) in
    rw c.id_at-id.ensures.0 (filling_room (second))

pub overflow_add-result : goal.overflow_add-result
overflow_add-result c =
    let all : List ℕ = let a = c.args in front_bytes a.side a.file.now a.cut in
    let head : List ℕ = let a = c.args in list_head (id_at a.side) a.cut.count a.cut.bytes in
    let before : List ℕ = let a = c.args in ranks (sections_in a.file.now) 0 (id_at a.side - 1) in
    let first : Filling (all) c.args.out.now (before ++ head) 16 c.copy.new.out = file_head c.args.file.now c.args.out.now c.requires.0.read (before ++ head) (omega (arith, c.requires.1.room, length-append header (before ++ head))) c.copy.ensures in
    let second : Filling (all) c.args.out.now (head) (16 + c.put_between-i.result) (back 16 c.copy.new.out c.put_between-i.new.out) = let i = c.id_at-id.ensures in
    let e = whole-ranks (λ j. omega (arith, c.type_inv.file j)) c.requires.0 0 (id_at c.args.side - 1) (omega (arith, i.0, i.2)) (filling_next_room (before) (head) (first)) in
    filling_next (before) (head) (first) (rw (i.0, e) at c.put_between-i.ensures) in
    omega (arith, filling_sum (second), (rw c.id_at-id.ensures.0 at c.put_head.ensures).count, c.requires.1.most)

pub returns : goal.returns
returns c =
    let all : List ℕ = let a = c.args in front_bytes a.side a.file.now a.cut in
    let head : List ℕ = let a = c.args in list_head (id_at a.side) a.cut.count a.cut.bytes in
    let before : List ℕ = let a = c.args in ranks (sections_in a.file.now) 0 (id_at a.side - 1) in
    let first : Filling (all) c.args.out.now (before ++ head) 16 c.copy.new.out = file_head c.args.file.now c.args.out.now c.requires.0.read (before ++ head) (omega (arith, c.requires.1.room, length-append header (before ++ head))) c.copy.ensures in
    let second : Filling (all) c.args.out.now (head) (16 + c.put_between-i.result) (back 16 c.copy.new.out c.put_between-i.new.out) = let i = c.id_at-id.ensures in
    let e = whole-ranks (λ j. omega (arith, c.type_inv.file j)) c.requires.0 0 (id_at c.args.side - 1) (omega (arith, i.0, i.2)) (filling_next_room (before) (head) (first)) in
    filling_next (before) (head) (first) (rw (i.0, e) at c.put_between-i.ensures) in
    filling_done (second) (rw c.id_at-id.ensures.0 at c.put_head.ensures)
