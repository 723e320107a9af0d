use native.Mathlib.Omega.{arith}
use Rattle.wire.specs.Numbers.{Bytes}
use Rattle.edits.proofs.Turning.{inside_le, row_is}
use Rattle.edits.proofs.put_row.Goals as goal

pub overflow_add-to : goal.overflow_add-to
overflow_add-to c = let a = c.args in omega (arith, inside_le a.store.now a.part.now 0 c.requires.0, c.u64_at.ensures, c.u64_at-from.ensures)

pub slice_bounds-put_keyed-end : goal.slice_bounds-put_keyed-end
slice_bounds-put_keyed-end c = let a = c.args in omega (arith, inside_le a.store.now a.part.now 0 c.requires.0, c.u64_at.ensures, c.u64_at-from.ensures)

pub put_keyed-requires : goal.put_keyed-requires
put_keyed-requires c =
    let bytes : Bytes c.args.part.now = λ j. omega (arith, c.type_inv.part j) in
    let a = c.args in rw (row_is a.part.now a.store.now 0 (bytes) c.u64_at-2.ensures c.u64_at-from.ensures c.u64_at.ensures) c.requires.1

pub returns : goal.returns
returns c =
    let bytes : Bytes c.args.part.now = λ j. omega (arith, c.type_inv.part j) in
    let a = c.args in rw (row_is a.part.now a.store.now 0 (bytes) c.u64_at-2.ensures c.u64_at-from.ensures c.u64_at.ensures) at c.put_keyed.ensures
