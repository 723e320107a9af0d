-- Each promise fixes its answer and every byte of lent memory: any two that it allows are equal.
-- Assumes nothing.
use Rattle.std.proofs.Common.{◌≡◌, ℕ, ◌/◌, List, length, take}
use Rattle.wire.specs.Parts.{put, Wrote}
use Rattle.wire.proofs.Once.{store_once, wrote_once}
use Rattle.tables.specs.declared.Table.{Table}
use Rattle.tables.specs.Tables.{ROW, framed_row, rows_in}

pub rows_once : (t : Table) (base : ℕ) (s starts old : List ℕ) {r q : ℕ} {new now : List ℕ}
    → Wrote (rows_in t base s starts (take (length old / ROW) starts)) old new r → Wrote (rows_in t base s starts (take (length old / ROW) starts)) old now q → (r ≡ q) × (new ≡ now)
rows_once t base s starts old a b = wrote_once a b

pub section_once : (at q : ℕ) (e old : List ℕ) {new now : List ℕ} → new ≡ put 0 (framed_row at q e) old → now ≡ put 0 (framed_row at q e) old → new ≡ now
section_once at q e old a b = store_once 0 (framed_row at q e) old a b
