-- The tables of a file that is taken: each record names its section, or its entry of a list.
-- Assumes nothing.
use mathlib.Core.Path.{◌≡◌, refl, sym, ◌∙◌, ap}
use mathlib.Core.List.Permᴰ
use mathlib.Core.List.{List, [], ◌∷◌, ◌++◌, map, append-nil}
use mathlib.Core.Bool.{Bool, true, false, cond}
use Prim.Native.Nat.{ℕ, suc, ◌+◌, ◌≤◌, ◌<◌}
use native.Mathlib.Omega.{arith}
use lib.ListN.{length, drop}
use lib.Seq.{drop-drop, drop-append-le}
use borrow.Author.Tests.{eqb-true, ne_eqb}
use Rattle.wire.specs.Numbers.{Bytes, le_at}
use Rattle.order.specs.Keyed.{Every, flat, keep, sort}
use Rattle.order.specs.Entries.{join}
use Rattle.order.proofs.Folds.{every_imp}
use Rattle.order.proofs.Keeps.{keep-none}
use Rattle.order.proofs.Sorts.{asc_sort}
use Rattle.order.proofs.Starts.{drop_past}
use Rattle.lists.specs.Lists.{entries, IsList}
use Rattle.lists.proofs.Taken.{list_complete}
use Rattle.tables.specs.Tables.{described, framed_row}
use Rattle.tables.specs.declared.Table.{Table}
use Rattle.tables.specs.declared.Table.TheVariants.{Devices}
use Rattle.tables.specs.Named.{NamesFramed, Each, position_of, numbers_from, InFileOrder, IsTable}
use Rattle.tables.proofs.Positions.{asc_numbers}
use Rattle.tables.proofs.Named.{Says, row_says, framed-names, table_lawful, list-table}
use Rattle.aerosnap.specs.Known.{known, slot}
use Rattle.aerosnap.specs.Payloads.{list, body_of}
use Rattle.aerosnap.specs.File.{file_most, id_of, version_of}
use Rattle.aerosnap.specs.Rules.{IsSection}
use Rattle.aerosnap.specs.Content.{is_id, entries_in}
use Rattle.aerosnap.specs.Tables.{placed, table_in, list_rows, section_rows}
use Rattle.aerosnap.proofs.Rows.{rows-skip, rows_here}
use Rattle.aerosnap.proofs.Slots.{Once, first_once, rest_once}

not_both : {b : Bool} → b ≡ false → b ≡ true → ⊥
not_both f t = let z : ◌≡◌ {A = ℕ} 0 1 = ap (λ (b : Bool). cond b 1 0) (sym f ∙ t) in omega arith

-- the table of sections, one by one; the position of the first is q
pub record SectionRows (s : List ℕ) (q : ℕ) (l : List (List ℕ)) (b : List ℕ) : Type 0 where
  pub rows : List (List ℕ)
  pub bytes : b ≡ join rows
  pub names : Each (NamesFramed s) rows l
  pub positions : map position_of rows ≡ numbers_from q (length l)
  pub nothing : Every (λ row. le_at 4 row 28 ≡ 0) rows

each-length : {A B : Type 0} (R : A → B → Type 0) (l : List A) (m : List B) → Each R l m → length l ≡ length m
each-length R [] [] h = refl
each-length R [] (y ∷ m) h = absurd h
each-length R (x ∷ l) [] h = absurd h
each-length R (x ∷ l) (y ∷ m) h = ap suc (each-length R l m h.1)

-- their records say their order
pub sections_filed : (s : List ℕ) (l : List (List ℕ)) (b : List ℕ) (v : SectionRows s 0 l b) → InFileOrder (NamesFramed s) v.rows l
sections_filed s l b v =
    let n : length v.rows ≡ length l = each-length (NamesFramed s) v.rows l v.names in
    let e : sort position_of v.rows ≡ v.rows = asc_sort position_of 0 v.rows (asc_numbers position_of 0 v.rows (v.positions ∙ ap (numbers_from 0) (sym n))) in
    record { positions = rw e v.positions; names = rw e v.names; nothing = v.nothing }

-- ---- the section with an id

module _ (i : ℕ) (k : known i ≡ true) where
  -- no other section has the id
  alone : (e : List ℕ) (l : List (List ℕ)) → Once (e ∷ l) → id_of e ≡ i → Every (λ x. is_id i x ≡ false) l
  alone e l d w = every_imp (λ x n. ne_eqb (id_of x) i (λ q. n (ap slot (w ∙ sym q)))) l (first_once e l d (rw w k))

  -- so that all that have it have one version
  pub one_version : (l : List (List ℕ)) → Once l → (v : ℕ) × Every (λ e. is_id i e ≡ true → version_of e ≡ v) l
  one_version [] d = (0, tt)
  one_version (e ∷ l) d = go (is_id i e) refl (one_version l (rest_once e l d))
    where
      go : (b : Bool) → is_id i e ≡ b → ((v : ℕ) × Every (λ x. is_id i x ≡ true → version_of x ≡ v) l) → (v : ℕ) × Every (λ x. is_id i x ≡ true → version_of x ≡ v) (e ∷ l)
      go true q r = (version_of e, (λ _. refl, every_imp (λ x n h. absurd (not_both n h)) l (alone e l d (eqb-true (id_of e) i q))))
      go false q (v, r) = (v, (λ h. absurd (not_both q h), r))

module _ (s : List ℕ) (y : Bytes s) (z : length s ≤ file_most) where
  pub section-rows : (at q : ℕ) (l : List (List ℕ)) → q + length l < 4294967296 → drop at s ≡ join l → Every IsSection l → SectionRows s q l (section_rows at q l)
  unfolding section_rows numbers_from
  section-rows at q [] h c a = record { rows = []; bytes = refl; names = tt; positions = refl; nothing = tt }
  section-rows at q (e ∷ l) h c a =
      let v = section-rows (at + length e) (suc q) l (omega arith) (drop_past s at e (join l) c) a.1 in
      let w : Says (framed_row at q e) q = row_says Devices at q e (omega arith) in
      record {
        rows = framed_row at q e ∷ v.rows;
        bytes = ap (λ (m : List ℕ). framed_row at q e ++ m) v.bytes;
        names = (rw (append-nil e) at (framed-names s at q e (join l) [] c y z a.0.whole), v.names);
        positions = cc (w.0, v.positions);
        nothing = (w.1, v.nothing);
      }

  -- the table of the list with an id, where all sections that have it have one version's table
  module _ (t : Table) (i : ℕ) (k : known i ≡ true) (m : (v : ℕ) → body_of i v ≡ list (described (table_in i v))) where
    none : IsTable t s [] []
    unfolding numbers_from
    none = record { rows = []; order = []; bytes = refl; names = tt; once = Permᴰ.refl []; ascend = tt; filed = record { positions = refl; names = tt; nothing = tt } }

    its_list : (e : List ℕ) → IsSection e → id_of e ≡ i → table_in i (version_of e) ≡ t → IsList (described t) (drop 16 e)
    its_list e a w u = rw (m (version_of e) ∙ ap (λ (x : Table). list (described x)) u) at (rw w at (a.rules (rw w k)).body)

    pub list-rows : (at : ℕ) (l : List (List ℕ)) → drop at s ≡ join l → Every IsSection l → Once l → Every (λ e. is_id i e ≡ true → table_in i (version_of e) ≡ t) l
        → IsTable t s (entries_in i (described t) l) (flat (list_rows i) (placed at l))
    unfolding placed
    list-rows at [] c a d u = none
    list-rows at (e ∷ l) c a d u = go (is_id i e) refl (list-rows (at + length e) l (drop_past s at e (join l) c) a.1 (rest_once e l d) u.1)
      where
        go : (b : Bool) → is_id i e ≡ b → IsTable t s (entries_in i (described t) l) (flat (list_rows i) (placed (at + length e) l))
            → IsTable t s (flat (λ x. entries (described t) (drop 16 x)) (cond b (e ∷ keep (is_id i) l) (keep (is_id i) l))) (flat (list_rows i) (placed at (e ∷ l)))
        go false q r = rw (rows-skip i at e l q) r
        go true q r =
            let w : id_of e ≡ i = eqb-true (id_of e) i q in
            let o = alone i k e l d w in
            let f = list_complete (table_lawful t) (drop 16 e) (its_list e a.0 w (u.0 q)) in
            let j : drop (at + 16) s ≡ drop 16 e ++ join l = sym (drop-drop 16 at s) ∙ ap (drop 16) c ∙ drop-append-le 16 e (join l) (omega (arith, a.0.whole)) in
            rw (rows_here i at e l q o (u.0 q) f, keep-none (is_id i) l o, append-nil) (list-table t s (at + 16) (drop 16 e) (join l) j y z f)
