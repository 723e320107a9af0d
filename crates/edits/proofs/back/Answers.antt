use Rattle.canon.proofs.Named.{whole-ranks}
use Rattle.wire.proofs.Filling.{Filling, filling_at, filling_room, filling_sum, filling_done}
use Rattle.canon.specs.Steps.{ranks}
use Rattle.edits.specs.Cuts.{old_tail, high_bytes}
use Rattle.sections.specs.Walks.{sections_in}
use Rattle.aerosnap.specs.Content.{id_at}
use Rattle.wire.specs.Parts.{Wrote}
use mathlib.Core.List.{List, ◌++◌, append_assoc}
use mathlib.Core.Path.{sym}
use Prim.Native.Nat.{ℕ, ◌-◌}
use lib.ListN.{length, take, drop, length-append}
use native.Mathlib.Omega.{arith}
use Rattle.edits.proofs.back.Goals as goal

pub put_high-requires : goal.put_high-requires
put_high-requires c =
    let behind : List ℕ = let a = c.args in ranks (sections_in a.file.now) (id_at a.side) (9 - id_at a.side) in
    let a = c.args in
    (c.requires.whole_file.1, c.requires.bytes_behind.0, omega (arith, c.requires.bytes_behind.0, c.requires.bytes_behind.1.room, length-append (high_bytes a.side a.file.now a.site a.cut) (old_tail a.side a.file.now ++ behind), length-append (old_tail a.side a.file.now) (behind)))

pub slice_bounds-put_between-count : goal.slice_bounds-put_between-count
slice_bounds-put_between-count c =
    let behind : List ℕ = let a = c.args in ranks (sections_in a.file.now) (id_at a.side) (9 - id_at a.side) in
    let all : List ℕ = let a = c.args in high_bytes a.side a.file.now a.site a.cut ++ (old_tail a.side a.file.now ++ behind) in
    let rest : List ℕ = let a = c.args in high_bytes a.side a.file.now a.site a.cut ++ old_tail a.side a.file.now in
    let first : Filling (all) c.args.out.now (behind) c.args.left c.put_high.new.out = let a = c.args in
    record { part = rest; whole = sym (append_assoc (high_bytes a.side a.file.now a.site a.cut) (old_tail a.side a.file.now) (behind)); room = c.requires.bytes_behind.1.room; wrote = c.put_high.ensures } in
    filling_at (first)

pub slice_bounds-put_between-start : goal.slice_bounds-put_between-start
slice_bounds-put_between-start c =
    let behind : List ℕ = let a = c.args in ranks (sections_in a.file.now) (id_at a.side) (9 - id_at a.side) in
    let all : List ℕ = let a = c.args in high_bytes a.side a.file.now a.site a.cut ++ (old_tail a.side a.file.now ++ behind) in
    let rest : List ℕ = let a = c.args in high_bytes a.side a.file.now a.site a.cut ++ old_tail a.side a.file.now in
    let first : Filling (all) c.args.out.now (behind) c.args.left c.put_high.new.out = let a = c.args in
    record { part = rest; whole = sym (append_assoc (high_bytes a.side a.file.now a.site a.cut) (old_tail a.side a.file.now) (behind)); room = c.requires.bytes_behind.1.room; wrote = c.put_high.ensures } in
    filling_at (first)

pub overflow_add-result : goal.overflow_add-result
overflow_add-result c =
    let behind : List ℕ = let a = c.args in ranks (sections_in a.file.now) (id_at a.side) (9 - id_at a.side) in
    let all : List ℕ = let a = c.args in high_bytes a.side a.file.now a.site a.cut ++ (old_tail a.side a.file.now ++ behind) in
    let rest : List ℕ = let a = c.args in high_bytes a.side a.file.now a.site a.cut ++ old_tail a.side a.file.now in
    let first : Filling (all) c.args.out.now (behind) c.args.left c.put_high.new.out = let a = c.args in
    record { part = rest; whole = sym (append_assoc (high_bytes a.side a.file.now a.site a.cut) (old_tail a.side a.file.now) (behind)); room = c.requires.bytes_behind.1.room; wrote = c.put_high.ensures } in
    let ranked : let o = c.put_high.new.out in Wrote (behind) (take (length o - c.args.left) (drop c.args.left o)) c.put_between.new.out c.put_between.result = let i = c.id_at-id.ensures in
    let e = whole-ranks (λ j. omega (arith, c.type_inv.file j)) c.requires.whole_file.0 (id_at c.args.side) (9 - id_at c.args.side) (omega (arith, i.0, i.2)) (filling_room (first)) in
    rw (i.0, e) at c.put_between.ensures in
    omega (arith, filling_sum (first), (ranked).count, c.requires.bytes_behind.1.most)

pub returns : goal.returns
returns c =
    let behind : List ℕ = let a = c.args in ranks (sections_in a.file.now) (id_at a.side) (9 - id_at a.side) in
    let all : List ℕ = let a = c.args in high_bytes a.side a.file.now a.site a.cut ++ (old_tail a.side a.file.now ++ behind) in
    let rest : List ℕ = let a = c.args in high_bytes a.side a.file.now a.site a.cut ++ old_tail a.side a.file.now in
    let first : Filling (all) c.args.out.now (behind) c.args.left c.put_high.new.out = let a = c.args in
    record { part = rest; whole = sym (append_assoc (high_bytes a.side a.file.now a.site a.cut) (old_tail a.side a.file.now) (behind)); room = c.requires.bytes_behind.1.room; wrote = c.put_high.ensures } in
    let ranked : let o = c.put_high.new.out in Wrote (behind) (take (length o - c.args.left) (drop c.args.left o)) c.put_between.new.out c.put_between.result = let i = c.id_at-id.ensures in
    let e = whole-ranks (λ j. omega (arith, c.type_inv.file j)) c.requires.whole_file.0 (id_at c.args.side) (9 - id_at c.args.side) (omega (arith, i.0, i.2)) (filling_room (first)) in
    rw (i.0, e) at c.put_between.ensures in
    filling_done (first) (ranked)
