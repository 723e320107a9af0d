use Rattle.edits.proofs.Tabled.{ready_long, begun_rest, begun_left}
use Rattle.edits.specs.Rows.{turns, old_from}
use Rattle.order.specs.Entries.{join}
use Rattle.wire.proofs.Filling.{Filling, filling_at, filling_room, filling_next_room, filling_next, filling_sum, filling_done}
use Rattle.writer.proofs.Whole.{back}
use Rattle.aerosnap.specs.declared.Side.TheVariants.{OfDevices}
use Rattle.sections.specs.Walks.{sections_in}
use Rattle.canon.specs.Steps.{ranks}
use Rattle.edits.specs.Cuts.{old_entries, old_tail, front_bytes}
use mathlib.Core.List.{List, ◌++◌}
use mathlib.Core.Path.{refl, subst}
use Prim.Native.Nat.{ℕ, ◌+◌}
use lib.ListN.{length, length-append}
use native.Mathlib.Omega.{arith}
use Rattle.edits.proofs.put_table.Goals as goal

pub front-i-requires : goal.front-i-requires
front-i-requires c =
    let ahead : List ℕ = let a = c.args in front_bytes OfDevices a.file.now a.x.cut in
    let entries : List ℕ = let a = c.args in turns a.table.now a.store.now a.starts.now (old_entries OfDevices a.file.now) in
    let behind : List ℕ = let a = c.args in old_tail OfDevices a.file.now ++ ranks (sections_in a.file.now) 4 5 in
    let m = ready_long c.requires refl in
    (c.requires.whole, record { most = omega (arith, m.1, length-append (ahead) (entries ++ behind)); room = omega (arith, m.0, length-append (ahead) (entries ++ behind)) })

pub slice_bounds-put_rows-count : goal.slice_bounds-put_rows-count
slice_bounds-put_rows-count c =
    let ahead : List ℕ = let a = c.args in front_bytes OfDevices a.file.now a.x.cut in
    let entries : List ℕ = let a = c.args in turns a.table.now a.store.now a.starts.now (old_entries OfDevices a.file.now) in
    let behind : List ℕ = let a = c.args in old_tail OfDevices a.file.now ++ ranks (sections_in a.file.now) 4 5 in
    let all : List ℕ = ahead ++ (entries ++ behind) in
    let first : Filling (all) c.args.out.now (entries ++ behind) c.front-i.result c.front-i.new.out = record { part = ahead; whole = refl; room = (ready_long c.requires refl).0; wrote = c.front-i.ensures } in
    filling_at (first)

pub slice_bounds-put_rows-start : goal.slice_bounds-put_rows-start
slice_bounds-put_rows-start c =
    let ahead : List ℕ = let a = c.args in front_bytes OfDevices a.file.now a.x.cut in
    let entries : List ℕ = let a = c.args in turns a.table.now a.store.now a.starts.now (old_entries OfDevices a.file.now) in
    let behind : List ℕ = let a = c.args in old_tail OfDevices a.file.now ++ ranks (sections_in a.file.now) 4 5 in
    let all : List ℕ = ahead ++ (entries ++ behind) in
    let first : Filling (all) c.args.out.now (entries ++ behind) c.front-i.result c.front-i.new.out = record { part = ahead; whole = refl; room = (ready_long c.requires refl).0; wrote = c.front-i.ensures } in
    filling_at (first)

pub put_rows-run-requires : goal.put_rows-run-requires
put_rows-run-requires c =
    let entries : List ℕ = let a = c.args in turns a.table.now a.store.now a.starts.now (old_entries OfDevices a.file.now) in
    let behind : List ℕ = let a = c.args in old_tail OfDevices a.file.now ++ ranks (sections_in a.file.now) 4 5 in
    let ahead : List ℕ = let a = c.args in front_bytes OfDevices a.file.now a.x.cut in
    let all : List ℕ = ahead ++ (entries ++ behind) in
    let first : Filling (all) c.args.out.now (entries ++ behind) c.front-i.result c.front-i.new.out = record { part = ahead; whole = refl; room = (ready_long c.requires refl).0; wrote = c.front-i.ensures } in
    record { holds_list = (c.requires.holds, c.requires.inside); file_in_bounds = filling_next_room (entries) (behind) (first) }

pub overflow_add-k : goal.overflow_add-k
overflow_add-k c =
    let ahead : List ℕ = let a = c.args in front_bytes OfDevices a.file.now a.x.cut in
    let entries : List ℕ = let a = c.args in turns a.table.now a.store.now a.starts.now (old_entries OfDevices a.file.now) in
    let behind : List ℕ = let a = c.args in old_tail OfDevices a.file.now ++ ranks (sections_in a.file.now) 4 5 in
    let all : List ℕ = ahead ++ (entries ++ behind) in
    let rest : List ℕ = let a = c.args in join (old_from a.file.now a.x.site c.put_rows-run.result.next) ++ behind in
    let first : Filling (all) c.args.out.now (entries ++ behind) c.front-i.result c.front-i.new.out = record { part = ahead; whole = refl; room = (ready_long c.requires refl).0; wrote = c.front-i.ensures } in
    let second : Filling (all) c.args.out.now (rest) (c.front-i.result + c.put_rows-run.result.bytes) (back c.front-i.result c.front-i.new.out c.put_rows-run.new.out) = let a = c.args in
    let b = c.put_rows-run.ensures.0 in
    let f : Filling (all) a.out.now (b.part ++ rest) c.front-i.result c.front-i.new.out =
    subst (λ (l : List ℕ). Filling (all) a.out.now l c.front-i.result c.front-i.new.out) (begun_rest b (old_tail OfDevices a.file.now) (ranks (sections_in a.file.now) 4 5)) (first) in
    filling_next b.part (rest) f b.wrote in
    omega (arith, filling_sum (second), (ready_long c.requires refl).1)

pub overflow_sub-left : goal.overflow_sub-left
overflow_sub-left c = (begun_left c.put_rows-run.ensures.0 (length (old_tail OfDevices c.args.file.now)) c.requires.payload).0

pub overflow_sub-left-2 : goal.overflow_sub-left-2
overflow_sub-left-2 c = (begun_left c.put_rows-run.ensures.0 (length (old_tail OfDevices c.args.file.now)) c.requires.payload).1

pub slice_bounds-back-count : goal.slice_bounds-back-count
slice_bounds-back-count c =
    let ahead : List ℕ = let a = c.args in front_bytes OfDevices a.file.now a.x.cut in
    let entries : List ℕ = let a = c.args in turns a.table.now a.store.now a.starts.now (old_entries OfDevices a.file.now) in
    let behind : List ℕ = let a = c.args in old_tail OfDevices a.file.now ++ ranks (sections_in a.file.now) 4 5 in
    let all : List ℕ = ahead ++ (entries ++ behind) in
    let rest : List ℕ = let a = c.args in join (old_from a.file.now a.x.site c.put_rows-run.result.next) ++ behind in
    let first : Filling (all) c.args.out.now (entries ++ behind) c.front-i.result c.front-i.new.out = record { part = ahead; whole = refl; room = (ready_long c.requires refl).0; wrote = c.front-i.ensures } in
    let second : Filling (all) c.args.out.now (rest) (c.front-i.result + c.put_rows-run.result.bytes) (back c.front-i.result c.front-i.new.out c.put_rows-run.new.out) = let a = c.args in
    let b = c.put_rows-run.ensures.0 in
    let f : Filling (all) a.out.now (b.part ++ rest) c.front-i.result c.front-i.new.out =
    subst (λ (l : List ℕ). Filling (all) a.out.now l c.front-i.result c.front-i.new.out) (begun_rest b (old_tail OfDevices a.file.now) (ranks (sections_in a.file.now) 4 5)) (first) in
    filling_next b.part (rest) f b.wrote in
    filling_at (second)

pub slice_bounds-back-start : goal.slice_bounds-back-start
slice_bounds-back-start c =
    let ahead : List ℕ = let a = c.args in front_bytes OfDevices a.file.now a.x.cut in
    let entries : List ℕ = let a = c.args in turns a.table.now a.store.now a.starts.now (old_entries OfDevices a.file.now) in
    let behind : List ℕ = let a = c.args in old_tail OfDevices a.file.now ++ ranks (sections_in a.file.now) 4 5 in
    let all : List ℕ = ahead ++ (entries ++ behind) in
    let rest : List ℕ = let a = c.args in join (old_from a.file.now a.x.site c.put_rows-run.result.next) ++ behind in
    let first : Filling (all) c.args.out.now (entries ++ behind) c.front-i.result c.front-i.new.out = record { part = ahead; whole = refl; room = (ready_long c.requires refl).0; wrote = c.front-i.ensures } in
    let second : Filling (all) c.args.out.now (rest) (c.front-i.result + c.put_rows-run.result.bytes) (back c.front-i.result c.front-i.new.out c.put_rows-run.new.out) = let a = c.args in
    let b = c.put_rows-run.ensures.0 in
    let f : Filling (all) a.out.now (b.part ++ rest) c.front-i.result c.front-i.new.out =
    subst (λ (l : List ℕ). Filling (all) a.out.now l c.front-i.result c.front-i.new.out) (begun_rest b (old_tail OfDevices a.file.now) (ranks (sections_in a.file.now) 4 5)) (first) in
    filling_next b.part (rest) f b.wrote in
    filling_at (second)

pub back-requires : goal.back-requires
back-requires c =
    let ahead : List ℕ = let a = c.args in front_bytes OfDevices a.file.now a.x.cut in
    let entries : List ℕ = let a = c.args in turns a.table.now a.store.now a.starts.now (old_entries OfDevices a.file.now) in
    let behind : List ℕ = let a = c.args in old_tail OfDevices a.file.now ++ ranks (sections_in a.file.now) 4 5 in
    let all : List ℕ = ahead ++ (entries ++ behind) in
    let rest : List ℕ = let a = c.args in join (old_from a.file.now a.x.site c.put_rows-run.result.next) ++ behind in
    let first : Filling (all) c.args.out.now (entries ++ behind) c.front-i.result c.front-i.new.out = record { part = ahead; whole = refl; room = (ready_long c.requires refl).0; wrote = c.front-i.ensures } in
    let second : Filling (all) c.args.out.now (rest) (c.front-i.result + c.put_rows-run.result.bytes) (back c.front-i.result c.front-i.new.out c.put_rows-run.new.out) = let a = c.args in
    let b = c.put_rows-run.ensures.0 in
    let f : Filling (all) a.out.now (b.part ++ rest) c.front-i.result c.front-i.new.out =
    subst (λ (l : List ℕ). Filling (all) a.out.now l c.front-i.result c.front-i.new.out) (begun_rest b (old_tail OfDevices a.file.now) (ranks (sections_in a.file.now) 4 5)) (first) in
    filling_next b.part (rest) f b.wrote in
    let r = c.put_rows-run.ensures in
    record { whole_file = (c.requires.whole, record { holds = c.requires.holds; first-low = r.1; low_high = omega arith; high_last = r.2 }); bytes_behind = ((begun_left r.0 (length (old_tail OfDevices c.args.file.now)) c.requires.payload).2, record { most = omega (arith, filling_sum (second), (ready_long c.requires refl).1); room = filling_room (second) }) }

pub overflow_add-result : goal.overflow_add-result
overflow_add-result c =
    let ahead : List ℕ = let a = c.args in front_bytes OfDevices a.file.now a.x.cut in
    let entries : List ℕ = let a = c.args in turns a.table.now a.store.now a.starts.now (old_entries OfDevices a.file.now) in
    let behind : List ℕ = let a = c.args in old_tail OfDevices a.file.now ++ ranks (sections_in a.file.now) 4 5 in
    let all : List ℕ = ahead ++ (entries ++ behind) in
    let rest : List ℕ = let a = c.args in join (old_from a.file.now a.x.site c.put_rows-run.result.next) ++ behind in
    let first : Filling (all) c.args.out.now (entries ++ behind) c.front-i.result c.front-i.new.out = record { part = ahead; whole = refl; room = (ready_long c.requires refl).0; wrote = c.front-i.ensures } in
    let second : Filling (all) c.args.out.now (rest) (c.front-i.result + c.put_rows-run.result.bytes) (back c.front-i.result c.front-i.new.out c.put_rows-run.new.out) = let a = c.args in
    let b = c.put_rows-run.ensures.0 in
    let f : Filling (all) a.out.now (b.part ++ rest) c.front-i.result c.front-i.new.out =
    subst (λ (l : List ℕ). Filling (all) a.out.now l c.front-i.result c.front-i.new.out) (begun_rest b (old_tail OfDevices a.file.now) (ranks (sections_in a.file.now) 4 5)) (first) in
    filling_next b.part (rest) f b.wrote in
    omega (arith, filling_sum (second), c.back.ensures.count, (ready_long c.requires refl).1)

pub returns : goal.returns
returns c =
    let ahead : List ℕ = let a = c.args in front_bytes OfDevices a.file.now a.x.cut in
    let entries : List ℕ = let a = c.args in turns a.table.now a.store.now a.starts.now (old_entries OfDevices a.file.now) in
    let behind : List ℕ = let a = c.args in old_tail OfDevices a.file.now ++ ranks (sections_in a.file.now) 4 5 in
    let all : List ℕ = ahead ++ (entries ++ behind) in
    let rest : List ℕ = let a = c.args in join (old_from a.file.now a.x.site c.put_rows-run.result.next) ++ behind in
    let first : Filling (all) c.args.out.now (entries ++ behind) c.front-i.result c.front-i.new.out = record { part = ahead; whole = refl; room = (ready_long c.requires refl).0; wrote = c.front-i.ensures } in
    let second : Filling (all) c.args.out.now (rest) (c.front-i.result + c.put_rows-run.result.bytes) (back c.front-i.result c.front-i.new.out c.put_rows-run.new.out) = let a = c.args in
    let b = c.put_rows-run.ensures.0 in
    let f : Filling (all) a.out.now (b.part ++ rest) c.front-i.result c.front-i.new.out =
    subst (λ (l : List ℕ). Filling (all) a.out.now l c.front-i.result c.front-i.new.out) (begun_rest b (old_tail OfDevices a.file.now) (ranks (sections_in a.file.now) 4 5)) (first) in
    filling_next b.part (rest) f b.wrote in
    let w = filling_done (second) c.back.ensures in
    rw c.requires.file w
