-- A record names its entry: its numbers read back are the entry's, and its offset and length lead to the entry's payload.
-- Assumes nothing.
use Rattle.std.proofs.Common.{◌≡◌, ℕ, ◌+◌, ◌^◌, ◌<◌, ◌≤◌, List, [], ◌∷◌, ◌++◌, map, length, take, drop, sym, refl, ap, ◌∙◌, subst, append_assoc, append-nil, arith, length-append, length-drop, take_all, drop-drop}
use lib.Seq.{drop-append-le, drop-append_seam, take-append-le, take-append_seam}
use Rattle.answer.specs.Outcome.{taken}
use Rattle.wire.specs.Numbers.{Bytes, le_at, bytes_of}
use Rattle.wire.proofs.Numbers.{le_at-append, le_at_here, le_at_bound, le_at-bytes_of, length-bytes_of, bytes_part}
use Rattle.wire.proofs.Records.{Fields, fields_length}
use Rattle.order.specs.Keyed.{Every, flat, sort}
use Rattle.order.specs.Entries.{join, starts_from}
use Rattle.order.proofs.Folds.{every_imp, every_map}
use Rattle.order.proofs.Perms.{every_perm}
use Rattle.order.proofs.Sorts.{sort_perm, sort_asc}
use Rattle.order.proofs.Starts.{length-starts, first-starts}
use Rattle.order.proofs.Entries.{first-append}
use Rattle.format.specs.Format.{Format, span, Is}
use Rattle.format.proofs.Meaning.{complete}
use Rattle.format.proofs.Spans.{span-read}
use Rattle.entries.specs.declared.Kind.TheVariants as kind
use Rattle.entries.specs.States.{mmu_length}
use Rattle.entries.specs.Kinds.{Description, devices, disks, cpus, mmus, controllers}
use Rattle.entries.proofs.States.{mmu_small}
use Rattle.entries.proofs.Lawful.{Lawful, lawful}
use Rattle.lists.specs.Lists.{entries, list_at}
use Rattle.lists.proofs.Taken.{self, list_entries, list_sound}
use Rattle.lists.proofs.Ordered.{piece_at, index_perm, index_length, list_order, index_every}
use Rattle.tables.specs.declared.Table.{Table}
use Rattle.tables.specs.declared.Table.TheVariants.{Devices, Disks, Cpus, Mmus, Controllers}
use Rattle.tables.specs.Tables.{described, position_in, ended, framed_row, disk_row, cpu_row, mmu_row, controller_row, row_of, rows_at}
use Rattle.tables.specs.Named.{NamesFramed, NamesDisk, NamesCpu, NamesMmu, NamesController, Names, Each, position_of, numbers_from, InFileOrder, IsTable}
use Rattle.tables.specs.Steps.{Rise}
use Rattle.tables.proofs.Rows.{length_row}
use Rattle.tables.proofs.Positions.{position_most, starts_rise, sorted_rows, row_positions}

-- ---- numbers read back

-- the numbers of fields stand one after another from a place on
abbrev Stand : Fields → ℕ → List ℕ → Type 0
Stand [] at s = Unit {0}
Stand (f ∷ l) at s = (le_at f.0 s at ≡ f.1) × Stand l (at + f.0) s

abbrev Small : Fields → Type 0
Small = Every (λ f. f.1 < 256 ^ f.0)

-- fields, and what stands behind them
abbrev laid : Fields → List ℕ → List ℕ
laid [] rest = rest
laid (f ∷ l) rest = bytes_of f.0 f.1 ++ laid l rest

past : (n x : ℕ) (y : List ℕ) → drop n (bytes_of n x ++ y) ≡ y
past n x y = ap (λ (k : ℕ). drop k (bytes_of n x ++ y)) (sym (length-bytes_of n x)) ∙ drop-append_seam (bytes_of n x) y

fields_stand : (l : Fields) → Small l → (s : List ℕ) (at : ℕ) (rest : List ℕ) → drop at s ≡ laid l rest → Stand l at s
fields_stand [] h s at rest e = tt
fields_stand (f ∷ l) h s at rest e = (
  sym (le_at_here f.0 s at) ∙ ap (λ (t : List ℕ). le_at f.0 t 0) e ∙ le_at-bytes_of f.0 f.1 (laid l rest) h.0,
  fields_stand l h.1 s (at + f.0) rest (sym (drop-drop f.0 at s) ∙ ap (drop f.0) e ∙ past f.0 f.1 (laid l rest)),
)

drop_laid : (l : Fields) (rest : List ℕ) → drop (fields_length l) (laid l rest) ≡ rest
drop_laid [] rest = refl
drop_laid (f ∷ l) rest = sym (drop-drop (fields_length l) f.0 (laid (f ∷ l) rest)) ∙ ap (drop (fields_length l)) (past f.0 f.1 (laid l rest)) ∙ drop_laid l rest

-- what stands behind 24 bytes of fields: a position, and 0
abbrev pub Says : List ℕ → ℕ → Type 0
Says row q = (le_at 4 row 24 ≡ q) × (le_at 4 row 28 ≡ 0)

laid_says : (l : Fields) (q : ℕ) → fields_length l ≡ 24 → q < 4294967296 → Says (laid l (ended q)) q
laid_says l q n h =
    let row : List ℕ = laid l (ended q) in
    let d : drop 24 row ≡ ended q = ap (λ (k : ℕ). drop k row) (sym n) ∙ drop_laid l (ended q) in
    let g : drop 28 row ≡ bytes_of 4 0 ++ [] = sym (drop-drop 4 24 row) ∙ ap (drop 4) d ∙ past 4 q (bytes_of 4 0) ∙ sym (append-nil (bytes_of 4 0)) in (
      sym (le_at_here 4 row 24) ∙ ap (λ (t : List ℕ). le_at 4 t 0) d ∙ le_at-bytes_of 4 q (bytes_of 4 0) h,
      sym (le_at_here 4 row 28) ∙ ap (λ (t : List ℕ). le_at 4 t 0) g ∙ le_at-bytes_of 4 0 [] (omega arith),
    )

-- a record says its position
pub row_says : (t : Table) (p q : ℕ) (e : List ℕ) → q < 4294967296 → Says (row_of t p q e) q
row_says Devices p q e h = laid_says ((4, le_at 4 e 0) ∷ (2, le_at 2 e 4) ∷ (2, le_at 2 e 6) ∷ (8, p + 16) ∷ (8, le_at 8 e 8) ∷ []) q refl h
row_says Disks p q e h = laid_says ((4, le_at 4 e 0) ∷ (4, le_at 4 e 4) ∷ (8, p + 8) ∷ (4, le_at 4 e (8 + le_at 4 e 4)) ∷ (4, 0) ∷ []) q refl h
row_says (Cpus v) p q e h = laid_says ((4, le_at 4 e 0) ∷ (4, le_at 4 e 4) ∷ (8, p + 8) ∷ (8, le_at 8 e (8 + le_at 4 e 4)) ∷ []) q refl h
row_says (Mmus v) p q e h = laid_says ((4, le_at 4 e 0) ∷ (4, mmu_length v) ∷ (8, p + 4) ∷ (8, 0) ∷ []) q refl h
row_says Controllers p q e h = laid_says ((2, le_at 2 e 0) ∷ (2, 0) ∷ (4, le_at 4 e 4) ∷ (8, p + 12) ∷ (8, le_at 4 e 8) ∷ []) q refl h

-- ---- where parts of an entry stand

module _ (s : List ℕ) (p : ℕ) (e more : List ℕ) (c : drop p s ≡ e ++ more) where
  part : (k n : ℕ) → k + n ≤ length e → take n (drop (p + k) s) ≡ take n (drop k e)
  part k n h =
      ap (take n) (sym (drop-drop k p s) ∙ ap (drop k) c ∙ drop-append-le k e more (omega arith)) ∙ take-append-le n (drop k e) more (omega (arith, length-drop k e))

  -- the entry's bytes are bytes, and it starts within the input
  entry_bytes : Bytes s → Bytes e
  entry_bytes y = let q : take (length e) (drop p s) ≡ e = ap (take (length e)) c ∙ take-append_seam e more in rw q at (bytes_part (length e) p s y)

  starts-in : 1 ≤ length e → p < length s
  starts-in h = omega (arith, length-drop p s, ap length c, length-append e more)

-- an entry is as long as its lengths say
measured : (f : Format) (e : List ℕ) → Is f e → span f e ≡ length e
measured f e h = span-read f e (rw (append-nil e) at (complete f e [] h))

-- ---- each kind of record, for an input that is no longer than a file may be

module _ (s : List ℕ) (p : ℕ) (q : ℕ) (e more rest : List ℕ) (c : drop p s ≡ e ++ more) (y : Bytes s) (z : length s ≤ 1073741824) where
  pub framed-names : length e ≡ 16 + le_at 8 e 8 → NamesFramed s (framed_row p q (e ++ rest)) e
  framed-names h =
      let b : Bytes e = entry_bytes s p e more c y in
      let i : p < length s = starts-in s p e more c (omega arith) in
      let n0 = le_at-append 4 e rest 0 (omega arith) in
      let n1 = le_at-append 2 e rest 4 (omega arith) in
      let n2 = le_at-append 2 e rest 6 (omega arith) in
      let n3 = le_at-append 8 e rest 8 (omega arith) in
      let row = framed_row p q (e ++ rest) in
      let v = fields_stand ((4, le_at 4 (e ++ rest) 0) ∷ (2, le_at 2 (e ++ rest) 4) ∷ (2, le_at 2 (e ++ rest) 6) ∷ (8, p + 16) ∷ (8, le_at 8 (e ++ rest) 8) ∷ [])
      (rw n0 (le_at_bound 4 e 0 b), (rw n1 (le_at_bound 2 e 4 b), (rw n2 (le_at_bound 2 e 6 b), (omega arith, (rw n3 (le_at_bound 8 e 8 b), tt))))) row 0 (ended q) refl in
      record {
        long = length_row Devices p q (e ++ rest);
        id = v.0 ∙ n0;
        version = v.1.0 ∙ n1;
        flags = v.1.1.0 ∙ n2;
        size = v.1.1.1.1.0 ∙ n3 ∙ omega (arith, length-drop 16 e);
        payload = rw (v.1.1.1.0, v.1.1.1.1.0, n3) (part s p e more c 16 (le_at 8 e 8) (omega arith) ∙ take_all (le_at 8 e 8) (drop 16 e) (omega (arith, length-drop 16 e)));
      }

  device_names : Is devices.form e → NamesFramed s (framed_row p q (e ++ rest)) e
  unfolding span
  device_names h = framed-names (omega (arith, measured devices.form e h, le_at_here 8 e 8))

  disk_names : Is disks.form e → NamesDisk s (disk_row p q (e ++ rest)) e
  unfolding span
  disk_names h =
      let a : ℕ = le_at 4 e 4 in
      let x : le_at 4 (drop 4 e) 0 ≡ a = le_at_here 4 e 4 in
      let g : le_at 4 (drop (4 + a) (drop 4 e)) 0 ≡ le_at 4 e (8 + a) = ap (λ (t : List ℕ). le_at 4 t 0) (drop-drop (4 + a) 4 e) ∙ le_at_here 4 e (4 + (4 + a)) ∙ ap (le_at 4 e) (omega arith) in
      go (sym (rw (x, g) at (measured disks.form e h)))
    where
      go : length e ≡ 4 + (4 + le_at 4 e 4 + (4 + le_at 4 e (8 + le_at 4 e 4))) → NamesDisk s (disk_row p q (e ++ rest)) e
      go l =
          let b : Bytes e = entry_bytes s p e more c y in
          let i : p < length s = starts-in s p e more c (omega arith) in
          let n0 = le_at-append 4 e rest 0 (omega arith) in
          let n1 = le_at-append 4 e rest 4 (omega arith) in
          let n2 : le_at 4 (e ++ rest) (8 + le_at 4 (e ++ rest) 4) ≡ le_at 4 e (8 + le_at 4 e 4) = ap (λ (k : ℕ). le_at 4 (e ++ rest) (8 + k)) n1 ∙ le_at-append 4 e rest (8 + le_at 4 e 4) (omega arith) in
          let row = disk_row p q (e ++ rest) in
          let v = fields_stand ((4, le_at 4 (e ++ rest) 0) ∷ (4, le_at 4 (e ++ rest) 4) ∷ (8, p + 8) ∷ (4, le_at 4 (e ++ rest) (8 + le_at 4 (e ++ rest) 4)) ∷ (4, 0) ∷ [])
          (rw n0 (le_at_bound 4 e 0 b), (rw n1 (le_at_bound 4 e 4 b), (omega arith, (rw n2 (le_at_bound 4 e (8 + le_at 4 e 4) b), (omega arith, tt))))) row 0 (ended q) refl in
          let w : p + 8 + (le_at 4 e 4 + 4) ≡ p + (8 + le_at 4 e 4 + 4) = omega arith in
          record {
            long = length_row Disks p q (e ++ rest);
            id = v.0 ∙ n0;
            base = rw (v.1.0, v.1.1.0, n1) (part s p e more c 8 (le_at 4 e 4) (omega arith));
            overlay = rw (v.1.0, v.1.1.0, v.1.1.1.0, n2, n1, w) (part s p e more c (8 + le_at 4 e 4 + 4) (le_at 4 e (8 + le_at 4 e 4)) (omega arith));
            nothing = v.1.1.1.1.0;
          }

  cpu_names : (v : ℕ) → Is (cpus v).form e → NamesCpu s (cpu_row p q (e ++ rest)) e
  unfolding span
  cpu_names v h =
      let a : ℕ = le_at 4 e 4 in
      let x : le_at 4 (drop 4 e) 0 ≡ a = le_at_here 4 e 4 in
      let g : le_at 8 (drop (4 + a) (drop 4 e)) 0 ≡ le_at 8 e (8 + a) = ap (λ (t : List ℕ). le_at 8 t 0) (drop-drop (4 + a) 4 e) ∙ le_at_here 8 e (4 + (4 + a)) ∙ ap (le_at 8 e) (omega arith) in
      go (sym (rw (x, g) at (measured (cpus v).form e h)))
    where
      go : length e ≡ 4 + (4 + le_at 4 e 4 + (8 + le_at 8 e (8 + le_at 4 e 4))) → NamesCpu s (cpu_row p q (e ++ rest)) e
      go l =
          let b : Bytes e = entry_bytes s p e more c y in
          let i : p < length s = starts-in s p e more c (omega arith) in
          let n0 = le_at-append 4 e rest 0 (omega arith) in
          let n1 = le_at-append 4 e rest 4 (omega arith) in
          let n2 : le_at 8 (e ++ rest) (8 + le_at 4 (e ++ rest) 4) ≡ le_at 8 e (8 + le_at 4 e 4) = ap (λ (k : ℕ). le_at 8 (e ++ rest) (8 + k)) n1 ∙ le_at-append 8 e rest (8 + le_at 4 e 4) (omega arith) in
          let row = cpu_row p q (e ++ rest) in
          let v = fields_stand ((4, le_at 4 (e ++ rest) 0) ∷ (4, le_at 4 (e ++ rest) 4) ∷ (8, p + 8) ∷ (8, le_at 8 (e ++ rest) (8 + le_at 4 (e ++ rest) 4)) ∷ [])
          (rw n0 (le_at_bound 4 e 0 b), (rw n1 (le_at_bound 4 e 4 b), (omega arith, (rw n2 (le_at_bound 8 e (8 + le_at 4 e 4) b), tt)))) row 0 (ended q) refl in
          let w : p + 8 + (le_at 4 e 4 + 8) ≡ p + (8 + le_at 4 e 4 + 8) = omega arith in
          let k : ℕ = 8 + le_at 4 e 4 + 8 in
          record {
            long = length_row (Cpus 1) p q (e ++ rest);
            id = v.0 ∙ n0;
            state = rw (v.1.0, v.1.1.0, n1) (part s p e more c 8 (le_at 4 e 4) (omega arith));
            blob = rw (v.1.0, v.1.1.0, v.1.1.1.0, n2, n1, w) (part s p e more c k (le_at 8 e (8 + le_at 4 e 4)) (omega arith) ∙ take_all (le_at 8 e (8 + le_at 4 e 4)) (drop k e) (omega (arith, length-drop k e)));
          }

  mmu_names : (v : ℕ) → Is (mmus v).form e → NamesMmu s (mmu_row v p q (e ++ rest)) e
  unfolding span
  mmu_names v h = go (sym (measured (mmus v).form e h))
    where
      go : length e ≡ 4 + mmu_length v → NamesMmu s (mmu_row v p q (e ++ rest)) e
      go l =
          let b : Bytes e = entry_bytes s p e more c y in
          let i : p < length s = starts-in s p e more c (omega arith) in
          let n0 = le_at-append 4 e rest 0 (omega arith) in
          let row = mmu_row v p q (e ++ rest) in
          let u = fields_stand ((4, le_at 4 (e ++ rest) 0) ∷ (4, mmu_length v) ∷ (8, p + 4) ∷ (8, 0) ∷ [])
          (rw n0 (le_at_bound 4 e 0 b), (omega (arith, mmu_small v), (omega arith, (omega arith, tt)))) row 0 (ended q) refl in
          record {
            long = length_row (Mmus v) p q (e ++ rest);
            id = u.0 ∙ n0;
            state = rw (u.1.0, u.1.1.0) (part s p e more c 4 (mmu_length v) (omega arith) ∙ take_all (mmu_length v) (drop 4 e) (omega (arith, length-drop 4 e)));
            nothing = u.1.1.1.0;
          }

  controller_names : Is controllers.form e → NamesController s (controller_row p q (e ++ rest)) e
  unfolding span
  controller_names h = go (omega (arith, measured controllers.form e h, le_at_here 4 e 8))
    where
      go : length e ≡ 12 + le_at 4 e 8 → NamesController s (controller_row p q (e ++ rest)) e
      go l =
          let b : Bytes e = entry_bytes s p e more c y in
          let i : p < length s = starts-in s p e more c (omega arith) in
          let n0 = le_at-append 2 e rest 0 (omega arith) in
          let n1 = le_at-append 4 e rest 4 (omega arith) in
          let n2 = le_at-append 4 e rest 8 (omega arith) in
          let row = controller_row p q (e ++ rest) in
          let v = fields_stand ((2, le_at 2 (e ++ rest) 0) ∷ (2, 0) ∷ (4, le_at 4 (e ++ rest) 4) ∷ (8, p + 12) ∷ (8, le_at 4 (e ++ rest) 8) ∷ [])
          (rw n0 (le_at_bound 2 e 0 b), (omega arith, (rw n1 (le_at_bound 4 e 4 b), (omega arith, (rw n2 (omega (arith, le_at_bound 4 e 8 b)), tt))))) row 0 (ended q) refl in
          record {
            long = length_row Controllers p q (e ++ rest);
            address = v.0 ∙ n0;
            nothing = v.1.0;
            tag = v.1.1.0 ∙ n1;
            payload = rw (v.1.1.1.0, v.1.1.1.1.0, n2) (part s p e more c 12 (le_at 4 e 8) (omega arith) ∙ take_all (le_at 4 e 8) (drop 12 e) (omega (arith, length-drop 12 e)));
          }

  pub row_names : (t : Table) → Is (described t).form e → Names t s (row_of t p q (e ++ rest)) e
  row_names Devices h = device_names h
  row_names Disks h = disk_names h
  row_names (Cpus v) h = cpu_names v h
  row_names (Mmus v) h = mmu_names v h
  row_names Controllers h = controller_names h

-- ---- a list: its records in key order

pub table_lawful : (t : Table) → Lawful (described t)
table_lawful Devices = lawful kind.Devices
table_lawful Disks = lawful kind.Disks
table_lawful (Cpus v) = lawful (kind.Cpus v)
table_lawful (Mmus v) = lawful (kind.Mmus v)
table_lawful Controllers = lawful kind.Controllers

-- every entry has a fixed part
fixed_some : (t : Table) → 1 ≤ (described t).fixed
fixed_some Devices = omega arith
fixed_some Disks = omega arith
fixed_some (Cpus v) = omega arith
fixed_some (Mmus v) = omega arith
fixed_some Controllers = omega arith

join-map : {A : Type 0} (f : A → List ℕ) (l : List A) → flat f l ≡ join (map f l)
join-map f [] = refl
join-map f (x ∷ l) = ap (λ (m : List ℕ). f x ++ m) (join-map f l)

each_map : {A B C : Type 0} (R : B → C → Type 0) (f : A → B) (g : A → C) (l : List A) → Every (λ x. R (f x) (g x)) l → Each R (map f l) (map g l)
each_map R f g [] h = tt
each_map R f g (x ∷ l) h = (h.0, each_map R f g l h.1)

-- bytes that begin with an entry of the kind
record Begins (d : Description) (b : List ℕ) : Type 0 where
  e : List ℕ
  rest : List ℕ
  cut : b ≡ e ++ rest
  is : Is d.form e

module _ (t : Table) (s : List ℕ) (base : ℕ) (part post : List ℕ) (c : drop base s ≡ part ++ post) (y : Bytes s) (z : length s ≤ 1073741824) where
  start_names : (at q : ℕ) → Begins (described t) (drop at part) → Names t s (row_of t (base + at) q (drop at part)) (piece_at (described t) part at)
  start_names at q v =
      let i : at ≤ length part = omega (arith, length-drop at part, ap length v.cut, length-append v.e v.rest, (table_lawful t).wide v.e v.is, fixed_some t) in
      let b : drop (base + at) s ≡ v.e ++ (v.rest ++ post) =
      sym (drop-drop at base s) ∙ ap (drop at) c ∙ drop-append-le at part post i ∙ ap (λ (b : List ℕ). b ++ post) v.cut ∙ append_assoc v.e v.rest post in
      rw (v.cut, first-append (self (described t)) v.e v.rest v.is) (row_names s (base + at) q v.e (v.rest ++ post) v.rest b y z t v.is)

  module _ {r : List ℕ} (h : list_at (described t) part ≡ taken r) where
    abbrev d : Description
    d = described t

    K : Lawful d
    K = table_lawful t

    -- the record of the entry that starts at a place, and that it names it
    abbrev row : ℕ → List ℕ
    row at = row_of t (base + at) (position_in r at) (drop at part)

    named : (m : List ℕ) → Every (λ at. Begins d (drop at part)) m → Every (λ at. Names t s (row at) (piece_at d part at)) m
    named [] k = tt
    named (x ∷ m) k = (start_names x (position_in r x) k.0, named m k.1)

    begins : Every (λ at. Begins d (drop at part)) r
    begins = index_every K part h (Begins d) (λ e rest i. record { e = e; rest = rest; cut = refl; is = i })

    -- the starts in file order: there are as many, they ascend, and the records of all say their positions
    abbrev filed_starts : List ℕ
    filed_starts = starts_from 4 (entries d part)

    few : length r < 4294967296
    few = omega (arith, index_length K part h, (list_sound K part h).few, K.bounded)

    says : (m : List ℕ) → Every (λ at. Says (row at) (position_in r at)) m
    says [] = tt
    says (x ∷ m) = (row_says t (base + x) (position_in r x) (drop x part) (omega (arith, few, position_most r x)), says m)

    up : Rise filed_starts
    up = starts_rise 4 (entries d part) 0 (omega arith) (some (entries d part) (rw (list_entries d part (list_sound K part h)) (list_sound K part h).are))
      where
        some : (m : List (List ℕ)) → Every (Is d.form) m → Every (λ e. 1 ≤ length e) m
        some [] k = tt
        some (e ∷ m) k = (omega (arith, K.wide e k.0, fixed_some t), some m k.1)

    in_file_order : InFileOrder (Names t s) (map row r) (entries d part)
    in_file_order =
        let o : sort position_of (map row r) ≡ map row filed_starts = sorted_rows r filed_starts (index_perm K part h) up row (every_imp (λ at v. v.0) r (says r)) in
        let v : Every (λ at. Begins d (drop at part)) filed_starts = every_perm _ (index_perm K part h) begins in
        let q : map (piece_at d part) filed_starts ≡ entries d part = pieces in
        record {
          positions = rw o (row_positions r filed_starts (index_perm K part h) up row (every_imp (λ at v. v.0) filed_starts (says filed_starts)) ∙ ap (numbers_from 0) (length-starts 4 (entries d part)));
          names = rw o (subst (Each (Names t s) (map row filed_starts)) q (each_map (Names t s) row (piece_at d part) filed_starts (named filed_starts v)));
          nothing = every_map _ row r (every_imp (λ at v. v.1) r (says r));
        }
      where
        pieces : map (piece_at d part) filed_starts ≡ entries d part
        pieces =
            let l = list_sound K part h in
            rw (list_entries d part l) (first-starts (self d) part 4 l.items l.tail l.cut l.are)

    pub list-table : IsTable t s (entries d part) (rows_at t base part r)
    list-table =
        let l = list_sound K part h in
        let o : map (piece_at d part) r ≡ sort d.key (entries d part) = list_order K part h in
        record {
          rows = map row r;
          order = map (piece_at d part) r;
          bytes = join-map row r;
          names = each_map (Names t s) row (piece_at d part) r (named r begins);
          once = rw o (sort_perm d.key (entries d part));
          ascend = rw o (sort_asc d.key (entries d part) (rw (list_entries d part l) l.apart));
          filed = in_file_order;
        }
