use Rattle.answer.proofs.Outcomes.{handed_on}
use Rattle.snapshot.proofs.Reading.{list_fits, list_inside, list_short, list_done}
use Rattle.aerosnap.proofs.Standing.{end_at}
use lib.ListN.{length}
use Prim.Native.Nat.{◌+◌, ◌≤◌}
use native.Mathlib.Omega.{arith}
use Rattle.snapshot.proofs.put_table.Goals as goal

pub end_at-e-requires : goal.end_at-e-requires
end_at-e-requires c =
    let within : let a = c.args in (end_at a.file.now a.at ≤ length a.file.now) × (length a.file.now ≤ 1073741824) = list_fits c.requires in
    omega (arith, within)

pub returns-in_err-roomy : goal.returns-in_err-roomy
returns-in_err-roomy c = rw (handed_on _ c.in_err-roomy.field-0.0 c.from_residual.ensures.1) (list_short c.requires c.u32_at-n.ensures c.end_at-e.ensures c.args.table.now c.in_err-roomy.ensures)

pub overflow_add-at : goal.overflow_add-at
overflow_add-at c =
    let within : let a = c.args in (end_at a.file.now a.at ≤ length a.file.now) × (length a.file.now ≤ 1073741824) = list_fits c.requires in
    omega (arith, within)

pub overflow_add-last : goal.overflow_add-last
overflow_add-last c =
    let inside : let a = c.args in a.first + c.u32_at-n.result ≤ length a.index.now = list_inside c.requires c.u32_at-n.ensures in
    omega (arith, inside, c.ranges)

pub slice_bounds-put_rows-end : goal.slice_bounds-put_rows-end
slice_bounds-put_rows-end c =
    let within : let a = c.args in (end_at a.file.now a.at ≤ length a.file.now) × (length a.file.now ≤ 1073741824) = list_fits c.requires in
    omega (arith, within, c.end_at-e.ensures)

pub overflow_cast-b : goal.overflow_cast-b
overflow_cast-b c =
    let within : let a = c.args in (end_at a.file.now a.at ≤ length a.file.now) × (length a.file.now ≤ 1073741824) = list_fits c.requires in
    omega (arith, within)

pub offset_bounds-index-first : goal.offset_bounds-index-first
offset_bounds-index-first c =
    let inside : let a = c.args in a.first + c.u32_at-n.result ≤ length a.index.now = list_inside c.requires c.u32_at-n.ensures in
    omega (arith, inside)

pub slice_bounds-put_rows-end-2 : goal.slice_bounds-put_rows-end-2
slice_bounds-put_rows-end-2 c =
    let inside : let a = c.args in a.first + c.u32_at-n.result ≤ length a.index.now = list_inside c.requires c.u32_at-n.ensures in
    inside

pub returns : goal.returns
returns c = list_done c.requires c.u32_at-n.ensures c.end_at-e.ensures c.table_in-t.ensures c.u16_at.ensures c.in_ok-roomy.ensures c.put_rows.ensures
