use mathlib.Core.Path.{◌≡◌, ◌∙◌, ap}
use mathlib.Core.List.{List}
use native.Mathlib.Omega.{arith}
use lib.ListN.{get_or}
use Rattle.std.proofs.Common.{Option, Bor}
use Rattle.std.specs.Option.{unwrap_or}
use Rattle.fields.specs.declared.Row.{Row}
use Rattle.fields.specs.Layout.{no_row, row_at}
use Rattle.fields.proofs.FieldName.row.Goals as goal
use Rattle.fields.proofs.FieldName.row.Goals.{in-Cpu, in-Mmu}

pub returns : goal.returns
unfolding row_at
returns c =
    let n = c.args.self.number in
    let found : unwrap_or c.copied.result no_row ≡ get_or c.match-self.table.now n no_row = ap (λ (r : Option Row). unwrap_or r no_row) c.copied.ensures ∙ c.get.ensures.lookup.4 (omega arith) no_row in
    let row : Bor (List Row) → Row = λ t. get_or t.now n no_row in
    elim c.match-self.branch [ in-Cpu w ↦ rw w.in-Cpu.is (found ∙ ap row w.table-is) | in-Mmu w ↦ rw w.in-Mmu.is (found ∙ ap row w.table-is) ]
