use Rattle.ready.proofs.Contents.{Tabled, table_refused, table_taken}
use mathlib.Core.Path.{sym}
use lib.Seq.{length-take-le}
use native.Mathlib.Omega.{arith}
use Rattle.ready.proofs.ready.Goals as goal

pub returns-then-sections-ne-TAKEN : goal.returns-then-sections-ne-TAKEN
returns-then-sections-ne-TAKEN c = let a = c.args in table_refused a.file.now _ (omega arith) c.sections-sections.ensures c.if-sections-ne-TAKEN.true a.list.now

pub slice_bounds-table-end : goal.slice_bounds-table-end
slice_bounds-table-end c =
    let tabled : Tabled c.args.file.now c.sections-sections.result.place c.sections-sections.new.table = table_taken c.args.file.now _ (omega arith) c.sections-sections.ensures c.if-sections-ne-TAKEN.false (λ i. omega (arith, c.type_inv.file i)) in
    (tabled).inside

pub slice_bounds-by_table-end : goal.slice_bounds-by_table-end
slice_bounds-by_table-end c =
    let tabled : Tabled c.args.file.now c.sections-sections.result.place c.sections-sections.new.table = table_taken c.args.file.now _ (omega arith) c.sections-sections.ensures c.if-sections-ne-TAKEN.false (λ i. omega (arith, c.type_inv.file i)) in
    sym (length-take-le _ _ (tabled).inside)

pub by_table-requires : goal.by_table-requires
by_table-requires c =
    let tabled : Tabled c.args.file.now c.sections-sections.result.place c.sections-sections.new.table = table_taken c.args.file.now _ (omega arith) c.sections-sections.ensures c.if-sections-ne-TAKEN.false (λ i. omega (arith, c.type_inv.file i)) in
    let v = tabled in (v.sections, v.read, v.names)
