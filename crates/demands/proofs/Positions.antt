-- Request 9: positions, from what each table is (crates/tables/proofs/Named.antt, crates/aerosnap/proofs/Records.antt).
-- Assumes nothing.
use mathlib.Core.Path.{◌≡◌, refl, sym, ◌∙◌, ap}
use mathlib.Core.List.Permᴰ
use mathlib.Core.List.{List, [], ◌∷◌, map, Permᴰ}
use mathlib.Core.Logic.{◌⊎◌, inl, inr}
use Prim.Native.Nat.{ℕ, zero, suc, ◌+◌, ◌*◌, ◌<◌}
use native.Mathlib.Omega.{arith}
use mathlib.Core.Bool.{true}
use lib.ListN.{length, drop, get_or, length-append}
use Rattle.answer.specs.Numbers.{ROOM}
use Rattle.answer.specs.Outcome.{Outcome, taken, refused, after, fitting}
use Rattle.answer.proofs.Outcomes.{taken_is}
use Rattle.wire.specs.Numbers.{Bytes}
use Rattle.order.specs.Keyed.{flat}
use Rattle.order.specs.Entries.{join}
use Rattle.order.proofs.Folds.{flat-one}
use Rattle.order.proofs.Perms.{perm_length, perm_flat}
use Rattle.order.proofs.Sorts.{sort_perm}
use Rattle.entries.specs.Kinds.{devices, disks, cpus, mmus}
use Rattle.tables.specs.declared.Table.{Table}
use Rattle.tables.specs.declared.Table.TheVariants.{Devices, Disks, Cpus, Mmus, Controllers}
use Rattle.tables.specs.Tables.{ROW, described, rows_at}
use Rattle.tables.specs.Named.{NamesFramed, Names, Each, position_of, numbers_from, InFileOrder, IsTable}
use Rattle.aerosnap.specs.Known.{DEVICES, DISKS, CPUS, MMUS, known}
use Rattle.aerosnap.specs.Payloads.{list, body_of}
use Rattle.aerosnap.specs.File.{file_of}
use Rattle.aerosnap.specs.Content.{entries_in}
use Rattle.aerosnap.specs.Tables.{placed, table_in, list_rows, section_rows, list_table}
use Rattle.aerosnap.proofs.Canonical.{taken_fits}
use Rattle.aerosnap.proofs.Records.{sections_filed, one_version}
use Rattle.aerosnap.proofs.Rows.{sections-length}
use Rattle.dskc.specs.Wrapper as wrapped
use Rattle.demands.specs.Demand2.{Writing, OfVersion}
use Rattle.demands.specs.Positions.{by_position, SaysOrder, Positions}
use Rattle.demands.proofs.Demand2.{file_read, table-rows, sections_named, list_is, demand2}

-- ---- one by one

each_at : {A B : Type 0} (R : A → B → Type 0) (c : A) (d : B) (l : List A) (m : List B) → Each R l m → (i : ℕ) → i < length m → R (get_or l i c) (get_or m i d)
each_at R c d [] [] h i k = absurd (omega arith)
each_at R c d [] (y ∷ m) h i k = absurd h
each_at R c d (x ∷ l) [] h i k = absurd h
each_at R c d (x ∷ l) (y ∷ m) h zero k = h.0
each_at R c d (x ∷ l) (y ∷ m) h (suc i) k = each_at R c d l m h.1 i (omega arith)

number_at : (rows : List (List ℕ)) (n k i : ℕ) → map position_of rows ≡ numbers_from n k → i < k → position_of (get_or rows i []) ≡ n + i
unfolding numbers_from
number_at rows n zero i e h = absurd (omega arith)
number_at [] n (suc k) i e h = let z : ◌≡◌ {A = ℕ} 0 (suc (length (numbers_from (suc n) k))) = ap length e in absurd (omega arith)
number_at (x ∷ rows) n (suc k) zero e h = let a : position_of x ≡ n = ap (λ (m : List ℕ). get_or m 0 0) e in omega arith
number_at (x ∷ rows) n (suc k) (suc i) e h = let b : map position_of rows ≡ numbers_from (suc n) k = ap (drop 1) e in omega (arith, number_at rows (suc n) k i b (omega arith))

-- records that name entries one by one, each of ROW bytes
rows_long : (R : List ℕ → List ℕ → Type 0) → ((row e : List ℕ) → R row e → length row ≡ ROW) → (rows l : List (List ℕ)) → Each R rows l → length (join rows) ≡ 32 * length l
rows_long R w [] [] h = refl
rows_long R w [] (y ∷ l) h = absurd h
rows_long R w (x ∷ rows) [] h = absurd h
rows_long R w (x ∷ rows) (y ∷ l) h = omega (arith, length-append x (join rows), w x y h.0, rows_long R w rows l h.1)

perm_map : {A B : Type 0} (f : A → B) {l m : List A} → Permᴰ l m → Permᴰ (map f l) (map f m)
perm_map f {l} {m} p = rw (flat-one f l, flat-one f m) at (perm_flat (λ x. f x ∷ []) p)

says_order : (R : List ℕ → List ℕ → Type 0) (rows entries : List (List ℕ)) (b : List ℕ) → b ≡ join rows → InFileOrder R rows entries → length b ≡ 32 * length entries → SaysOrder R entries b
says_order R rows entries b e v n = record {
  rows = rows;
  bytes = e;
  sorted = v.names;
  once = rw v.positions at (Permᴰ.symm (perm_map position_of (sort_perm position_of rows)));
  number = λ i h. (number_at (by_position rows) 0 (length entries) i v.positions h ∙ omega arith, each_at R [] [] (by_position rows) entries v.names i h);
  nothing = v.nothing;
  long = n;
}

-- ---- each table

names_long : (t : Table) (s row e : List ℕ) → Names t s row e → length row ≡ ROW
names_long Devices s row e h = h.long
names_long Disks s row e h = h.long
names_long (Cpus v) s row e h = h.long
names_long (Mmus v) s row e h = h.long
names_long Controllers s row e h = h.long

table_long : (t : Table) (s : List ℕ) (entries : List (List ℕ)) (b : List ℕ) → IsTable t s entries b → length b ≡ 32 * length entries
table_long t s entries b v = ap length v.bytes ∙ rows_long (Names t s) (names_long t s) v.rows v.order v.names ∙ ap (λ (n : ℕ). 32 * n) (perm_length v.once)

table_says : (t : Table) (s : List ℕ) (entries : List (List ℕ)) (b : List ℕ) → IsTable t s entries b → SaysOrder (Names t s) entries b
table_says t s entries b v = says_order (Names t s) v.rows entries b v.bytes v.filed (table_long t s entries b v)

-- ROOM names the length of what would have been written
room_is : {A : Type 0} {r : Outcome A} {f : A → List ℕ} {call : ℕ → Outcome (List ℕ)} → Writing r f call → (have p : ℕ) (a : A) → r ≡ taken a → call have ≡ refused ROOM p → p ≡ length (f a)
room_is {A} {r} {f} w have p a e h = go ((w.refuses have ROOM p).0 h)
  where
    go : (r ≡ refused ROOM p) ⊎ ((x : A) × (r ≡ taken x) × (have < length (f x)) × (ROOM ≡ ROOM) × (p ≡ length (f x))) → p ≡ length (f a)
    go (inl q) = let z : ◌≡◌ {A = ℕ} 0 1 = ap (λ (o : Outcome A). elim o as (λ _. ℕ) [ taken x ↦ 0 | refused n k ↦ 1 ]) (sym e ∙ q) in absurd (omega arith)
    go (inr (x, q, i, j, k)) = k ∙ ap (λ (y : A). length (f y)) (taken_is (sym q ∙ e))

list_room : (i : ℕ) → known i ≡ true → ((v : ℕ) → body_of i v ≡ list (described (table_in i v))) → (have p : ℕ) (s : List ℕ) (l : List (List ℕ)) → Bytes s → file_of s ≡ taken l → (v : ℕ) → OfVersion i v l
    → list_table i have s ≡ refused ROOM p → p ≡ 32 * length (entries_in i (described (table_in i v)) l)
list_room i k m have p s l y e v w h =
    room_is (demand2.files.tables (λ l. flat (list_rows i) (placed 16 l)) s) have p l e h
    ∙ table_long (table_in i v) s (entries_in i (described (table_in i v)) l) (flat (list_rows i) (placed 16 l)) (list_is i k m s l y e v w)

pub positions : Positions
positions = record {
  sections = λ have s b y h.
      let (l, e, q) = table-rows (section_rows 16 0) have s b h in
      let v = sections_named s b y l e q in
      (l, e, says_order (NamesFramed s) v.rows l b v.bytes (sections_filed s l b v) (ap length (sym q) ∙ sections-length 16 0 l));
  devices_are = λ have s b y h. let (l, e, v) = demand2.tables.devices_are have s b y h in (l, e, table_says Devices s (entries_in DEVICES devices l) b v);
  disks_are = λ have s b y h. let (l, e, v) = demand2.tables.disks_are have s b y h in (l, e, table_says Disks s (entries_in DISKS disks l) b v);
  cpus_are = λ have s b y h. let (l, e, (v, w, q)) = demand2.tables.cpus_are have s b y h in (l, e, (v, w, table_says (Cpus v) s (entries_in CPUS (cpus v) l) b q));
  mmus_are = λ have s b y h. let (l, e, (v, w, q)) = demand2.tables.mmus_are have s b y h in (l, e, (v, w, table_says (Mmus v) s (entries_in MMUS (mmus v) l) b q));
  controllers_are = λ have s b y h. table_says Controllers s (wrapped.controllers_of s) b (demand2.tables.controllers_are have s b y h);
  sections-room = λ have p s l e h. room_is (demand2.files.tables (section_rows 16 0) s) have p l e h ∙ sections-length 16 0 l;
  devices-room = λ have p s l y e h. let (v, w) = one_version DEVICES refl l (file_read s l e).once in list_room DEVICES refl (λ v. refl) have p s l y e v w h;
  disks-room = λ have p s l y e h. let (v, w) = one_version DISKS refl l (file_read s l e).once in list_room DISKS refl (λ v. refl) have p s l y e v w h;
  cpus-room = list_room CPUS refl (λ v. refl);
  mmus-room = list_room MMUS refl (λ v. refl);
  controllers-room = λ have p s r y e h.
      let rows : List ℕ = rows_at Controllers 16 (drop 16 s) r in
      room_is (demand2.wrappers.table s) have p r e h
      ∙ table_long Controllers s (wrapped.controllers_of s) rows (demand2.tables.controllers_are (length rows) s rows y (ap (λ (o : Outcome (List ℕ)). after o (λ l. fitting (length rows) (rows_at Controllers 16 (drop 16 s) l))) e ∙ taken_fits (length rows) rows (omega arith)));
}
