-- What code that fills a table needs: the records section by section.
-- Assumes nothing.
use mathlib.Core.Path.{◌≡◌, refl, ◌∙◌, ap}
use mathlib.Core.List.{List, [], ◌∷◌, ◌++◌, append-nil}
use mathlib.Core.Bool.{Bool, true, false, cond}
use Prim.Native.Nat.{ℕ, suc, ◌+◌, ◌*◌}
use native.Mathlib.Omega.{arith}
use lib.ListN.{length, drop, length-append}
use Rattle.answer.specs.Outcome.{Outcome, taken}
use Rattle.order.specs.Keyed.{Every, flat}
use Rattle.lists.specs.Lists.{list_at, starts_in}
use Rattle.tables.specs.Tables.{ROW, described, framed_row, rows_at}
use Rattle.tables.specs.declared.Table.{Table}
use Rattle.tables.specs.declared.Table.TheVariants.{Devices}
use Rattle.tables.proofs.Rows.{length_row}
use Rattle.aerosnap.specs.File.{version_of}
use Rattle.aerosnap.specs.Content.{is_id}
use Rattle.aerosnap.specs.Tables.{placed, table_in, entry_rows, list_rows, section_rows}

-- the records of the first section, and those of the others
pub rows-first : (rows : ℕ × List ℕ → List ℕ) (at : ℕ) (e : List ℕ) (l : List (List ℕ)) → flat rows (placed at (e ∷ l)) ≡ rows (at, e) ++ flat rows (placed (at + length e) l)
unfolding placed
rows-first rows at e l = refl

pub rows_end : (rows : ℕ × List ℕ → List ℕ) (at : ℕ) → flat rows (placed at []) ≡ []
unfolding placed
rows_end rows at = refl

-- the table of sections has ROW bytes for each
pub sections-length : (at q : ℕ) (l : List (List ℕ)) → length (section_rows at q l) ≡ ROW * length l
unfolding section_rows
sections-length at q [] = refl
sections-length at q (e ∷ l) = omega (arith, length-append (framed_row at q e) (section_rows (at + length e) (suc q) l), length_row Devices at q e, sections-length (at + length e) (suc q) l)

-- the records of a list: none of the sections with other ids, and those of the one with its id
module _ (i : ℕ) where
  pub rows-skip : (at : ℕ) (e : List ℕ) (l : List (List ℕ)) → is_id i e ≡ false → flat (list_rows i) (placed at (e ∷ l)) ≡ flat (list_rows i) (placed (at + length e) l)
  unfolding placed
  rows-skip at e l h = rw (h, cond)

  pub rows_none : (at : ℕ) (l : List (List ℕ)) → Every (λ e. is_id i e ≡ false) l → flat (list_rows i) (placed at l) ≡ []
  unfolding placed
  rows_none at [] h = refl
  rows_none at (e ∷ l) h = rows-skip at e l h.0 ∙ rows_none (at + length e) l h.1

  pub rows_here : (at : ℕ) (e : List ℕ) (l : List (List ℕ)) → is_id i e ≡ true → Every (λ y. is_id i y ≡ false) l → {t : Table} → table_in i (version_of e) ≡ t → {r : List ℕ} → list_at (described t) (drop 16 e) ≡ taken r
      → flat (list_rows i) (placed at (e ∷ l)) ≡ rows_at t (at + 16) (drop 16 e) r
  rows_here at e l h o {t} k {r} q =
      rows-first (list_rows i) at e l
      ∙ ap (λ (m : List ℕ). list_rows i (at, e) ++ m) (rows_none (at + length e) l o)
      ∙ append-nil (list_rows i (at, e))
      ∙ ap (λ (b : Bool). cond b (entry_rows (table_in i (version_of e)) (at, e)) []) h
      ∙ ap (λ (u : Table). entry_rows u (at, e)) k
      ∙ ap (λ (o : Outcome (List ℕ)). rows_at t (at + 16) (drop 16 e) (starts_in o)) q
