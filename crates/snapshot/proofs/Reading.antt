-- The exits of the calls that read a file: by the outcome of the whole file, and by the section with an id.
-- Assumes nothing.
use mathlib.Core.Path.{◌≡◌, refl, sym, ◌∙◌, ap, subst}
use mathlib.Core.List.{List, []}
use Prim.Native.Nat.{ℕ, ◌+◌, ◌-◌, ◌*◌, ◌/◌, ◌≤◌, ◌<◌}
use native.Mathlib.Omega.{arith}
use lib.ListN.{length, take, drop, length-drop}
use lib.Seq.{length-take-le}
use borrow.Author.Tests.{le-leb, lt-leb}
use Rattle.answer.specs.Numbers.{ROOM}
use Rattle.answer.specs.Outcome.{Outcome, taken, refused, after, done, room, fitting}
use Rattle.answer.specs.declared.Answer.{Answer}
use Rattle.std.proofs.Common.{Result, Ok, Err}
use Rattle.answer.specs.declared.Fault.{Fault}
use Rattle.answer.specs.Calls.{fault_of, asked, WritesCount}
use Rattle.answer.proofs.Outcomes.{made_stop, made_taken, done_stop, done_taken, fills_stop, fills_done, room_stop, room_holds}
use Rattle.wire.specs.Numbers.{le_at}
use Rattle.wire.specs.Parts.{Wrote}
use Rattle.wire.proofs.Parts.{none}
use Rattle.order.specs.Keyed.{flat}
use Rattle.lists.specs.Lists.{list_at, starts_in}
use Rattle.tables.specs.declared.Table.{Table}
use Rattle.tables.specs.Tables.{ROW, described, rows_in, rows_at}
use Rattle.tables.proofs.Rows.{length-rows, rows_all}
use Rattle.aerosnap.specs.Payloads.{list, body_of}
use Rattle.aerosnap.specs.File.{id_of, version_of, file_of}
use Rattle.aerosnap.specs.Tables.{placed, table_in, entry_rows, list_rows, section_rows, table, list_table}
use Rattle.aerosnap.specs.Calls.{sections_call}
use Rattle.aerosnap.proofs.Rows.{sections-length}
use Rattle.aerosnap.proofs.Taken.{file_sound}
use Rattle.aerosnap.proofs.Standing.{stand_start, end_at, no_section}
use Rattle.sections.specs.Walks.{counted, sections_in}
use Rattle.sections.specs.Index.{spot_in}
use Rattle.sections.proofs.Found.{spot_stop, Sited, Here, none-there, there, made_none, made_one}
use Rattle.sections.proofs.Reading.{starts_list, found_inside, found_starts}
use Rattle.snapshot.specs.Walks.{Lists}

-- ---- by the outcome of the file

none-placed : placed 16 [] ≡ []
unfolding placed
none-placed = refl

pub counted_taken : (o : Outcome (List (List ℕ))) {n : ℕ} → taken n ≡ counted o → (l : List (List ℕ)) × (o ≡ taken l) × (n ≡ length l)
counted_taken o h = made_taken o length h

module _ (s : List ℕ) where
  pub faults_stop : {n p : ℕ} → refused n p ≡ counted (file_of s) → refused n p ≡ done (file_of s)
  faults_stop h = sym (ap done (made_stop (file_of s) length h))

  pub faults_fine : {n : ℕ} → taken n ≡ counted (file_of s) → taken tt ≡ done (file_of s)
  faults_fine h = sym (ap done (counted_taken (file_of s) h).1)

  -- a file that is refused: nothing is written
  pub stopped : (rows : List (List ℕ) → List ℕ) (old : List ℕ) {f : Fault} → file_of s ≡ fault_of f → WritesCount (table rows (length old) s) old (Err f) old
  stopped rows old {f} h = fills_stop old f (ap (λ (o : Outcome (List (List ℕ))). after o (λ l. fitting (length old) (rows l))) h)

  pub sections_stop : (old : List ℕ) {f : Fault} → fault_of f ≡ counted (file_of s) → WritesCount (sections_call (length old) s) old (Err f) old
  sections_stop old h = stopped (section_rows 16 0) old (made_stop (file_of s) length h)

  pub list_stop : (i : ℕ) (old : List ℕ) {f : Fault} → fault_of f ≡ spot_in i (file_of s) → WritesCount (list_table i (length old) s) old (Err f) old
  list_stop i old h = stopped (λ l. flat (list_rows i) (placed 16 l)) old (spot_stop i s h)

  -- a file that is taken: its table, for an output of so many bytes
  pub table_of : (rows : List (List ℕ) → List ℕ) (have : ℕ) {l : List (List ℕ)} → file_of s ≡ taken l → table rows have s ≡ fitting have (rows l)
  table_of rows have h = ap (λ (o : Outcome (List (List ℕ))). after o (λ l. fitting have (rows l))) h

  -- a file that has no section: its fault, or no record
  pub bare_stop : (rows : List (List ℕ) → List ℕ) (old : List ℕ) {f : Fault} → fault_of f ≡ done (file_of s) → WritesCount (table rows (length old) s) old (Err f) old
  bare_stop rows old h = stopped rows old (done_stop (file_of s) h)

  module _ (rows : List (List ℕ) → List ℕ) (z : rows [] ≡ []) where
    bare_rows : (old : List ℕ) → length s ≤ 16 → taken tt ≡ done (file_of s) → WritesCount (table rows (length old) s) old (Ok 0) old
    bare_rows old h k =
        let l = done_taken (file_of s) (sym k) in
        fills_done [] (table_of rows (length old) l.1 ∙ ap (λ (m : List (List ℕ)). fitting (length old) (rows m)) (no_section s l.1 h) ∙ rw (z, le-leb 0 (length old) (omega arith))) refl refl

  pub bare-table : (i : ℕ) (old : List ℕ) → length s ≤ 16 → taken tt ≡ done (file_of s) → WritesCount (list_table i (length old) s) old (Ok 0) old
  bare-table i old h k = bare_rows (λ l. flat (list_rows i) (placed 16 l)) (ap (flat (list_rows i)) none-placed) old h k

  pub table_stop : (i : ℕ) (old : List ℕ) {f : Fault} → fault_of f ≡ done (file_of s) → WritesCount (list_table i (length old) s) old (Err f) old
  table_stop i old h = bare_stop (λ l. flat (list_rows i) (placed 16 l)) old h

  pub bare-sections : (old : List ℕ) → length s ≤ 16 → taken tt ≡ done (file_of s) → WritesCount (sections_call (length old) s) old (Ok 0) old
  unfolding section_rows
  bare-sections old h k = bare_rows (section_rows 16 0) refl old h k

-- ---- the table of sections

module _ (s old : List ℕ) {n : ℕ} (h : taken n ≡ counted (file_of s)) where
  pub sections_few : n ≤ 64
  sections_few = let w = counted_taken (file_of s) h in omega (arith, w.2, (file_sound s w.1).1.few)

  need : length (section_rows 16 0 (counted_taken (file_of s) h).0) ≡ ROW * n
  need = let w = counted_taken (file_of s) h in sections-length 16 0 w.0 ∙ ap (λ (k : ℕ). ROW * k) (sym w.2)

  pub sections_short : {f : Fault} → fault_of f ≡ asked (room (length old) (ROW * n)) → WritesCount (sections_call (length old) s) old (Err f) old
  sections_short {f} k =
      let w = counted_taken (file_of s) h in
      fills_stop old f (table_of s (section_rows 16 0) (length old) w.1 ∙ room_stop (length old) (section_rows 16 0 w.0) (k ∙ ap (λ (m : ℕ). asked (room (length old) m)) (sym need)))

  pub sections_ready : taken tt ≡ asked (room (length old) (ROW * n)) → (l : List (List ℕ)) × (file_of s ≡ taken l) × (ROW * length l ≤ length old)
  sections_ready k = let w = counted_taken (file_of s) h in (w.0, w.1, omega (arith, w.2, room_holds (length old) (ROW * n) k))

  pub sections-done : taken tt ≡ asked (room (length old) (ROW * n)) → {new : List ℕ} → ((l : List (List ℕ)) → file_of s ≡ taken l → Wrote (section_rows 16 0 l) old new (ROW * length l))
      → WritesCount (sections_call (length old) s) old (Ok (ROW * n)) new
  sections-done k {new} so =
      let w = counted_taken (file_of s) h in
      let b = subst (λ (j : ℕ). Wrote (section_rows 16 0 w.0) old new (ROW * j)) (sym w.2) (so w.0 w.1) in
      fills_done (section_rows 16 0 w.0) (table_of s (section_rows 16 0) (length old) w.1 ∙ rw (need, le-leb (ROW * n) (length old) (room_holds (length old) (ROW * n) k))) b.count b.bytes

-- ---- the table of the list with an id

-- no section has it: no record
pub list_none : (i : ℕ) (s : List ℕ) {p n : ℕ} → Sited i s p n → length s ≤ p → (old : List ℕ) → WritesCount (list_table i (length old) s) old (Ok 0) old
list_none i s x g old =
    let n = made_none i (λ q. entry_rows (table_in i (version_of q.1)) q) 16 (sections_in s) (none-there i s x.read x.place g) in
    fills_done [] (table_of s (λ l. flat (list_rows i) (placed 16 l)) (length old) x.read ∙ rw (n, le-leb 0 (length old) (omega arith))) refl refl

module _ {i : ℕ} {s index : List ℕ} {p first : ℕ} (x : Lists i s p index first) where
  found : Here i s (sections_in s) p
  found = there i s x.read x.place x.is_known x.there

  pub list_fits : (end_at s p ≤ length s) × (length s ≤ 1073741824)
  list_fits = (found.fits, (stand_start s x.read).short)

  -- its table, by the version that stands at its place
  abbrev t : Table
  t = table_in i (version_of found.sec)

  body_is : body_of (id_of found.sec) (version_of found.sec) ≡ list (described t)
  body_is = ap (λ (j : ℕ). body_of j (version_of found.sec)) found.id ∙ x.body (version_of found.sec)

  -- its entries are as many as it says
  module _ {n : ℕ} (c : n ≡ le_at 4 s (p + 16)) where
    pub list_inside : first + n ≤ length index
    list_inside = found_inside found body_is x.starts x.front c

    -- the records of its starts in the index are the table
    module _ {e : ℕ} (k : e ≡ end_at s p) where
      abbrev rows : List ℕ
      rows = rows_at t (p + 16) (take (e - (p + 16)) (drop (p + 16) s)) (take (first + n - first) (drop first index))

      all : flat (list_rows i) (placed 16 (sections_in s)) ≡ rows
      all =
          let b : List ℕ = drop 16 found.sec in
          let z : e - (p + 16) ≡ le_at 8 s (p + 8) = omega arith in
          let part : take (e - (p + 16)) (drop (p + 16) s) ≡ b = ap (λ (j : ℕ). take j (drop (p + 16) s)) z ∙ found.part in
          made_one i (λ q. entry_rows (table_in i (version_of q.1)) q) 16 (sections_in s) found.alone
          ∙ ap (λ (j : ℕ). rows_at t (j + 16) b (starts_in (list_at (described t) b))) (sym x.place)
          ∙ ap (λ (o : Outcome (List ℕ)). rows_at t (p + 16) b (starts_in o)) (starts_list found.sec found.is body_is)
          ∙ ap (rows_at t (p + 16) b) (sym (found_starts found body_is x.starts x.front c))
          ∙ ap (λ (u : List ℕ). rows_at t (p + 16) u (take (first + n - first) (drop first index))) (sym part)

      count : length (take (first + n - first) (drop first index)) ≡ n
      count = length-take-le (first + n - first) (drop first index) (omega (arith, list_inside, length-drop first index)) ∙ omega arith

      rows_long : length rows ≡ ROW * n
      rows_long = length-rows t (p + 16) (take (e - (p + 16)) (drop (p + 16) s)) (take (first + n - first) (drop first index)) ∙ ap (λ (m : ℕ). ROW * m) count

      is_table : (have : ℕ) → list_table i have s ≡ fitting have rows
      is_table have = table_of s (λ l. flat (list_rows i) (placed 16 l)) have x.read ∙ ap (fitting have) all

      pub list_short : (old : List ℕ) {f : Fault} → fault_of f ≡ asked (room (length old) (ROW * n)) → WritesCount (list_table i (length old) s) old (Err f) old
      list_short old {f} h = fills_stop old f (is_table (length old) ∙ room_stop (length old) rows (h ∙ ap (λ (m : ℕ). asked (room (length old) m)) (sym rows_long)))

      pub list_done : {u : Table} {w : ℕ} → u ≡ table_in i w → w ≡ le_at 2 s (p + 4) → {old new : List ℕ} {r : ℕ} → taken tt ≡ asked (room (length old) (ROW * n))
          → Wrote (rows_in u (p + 16) (take (e - (p + 16)) (drop (p + 16) s)) (take (first + n - first) (drop first index)) (take (length old / ROW) (take (first + n - first) (drop first index)))) old new r
          → WritesCount (list_table i (length old) s) old (Ok (ROW * n)) new
      list_done {u} d g {old} {new} k w =
          let h : ROW * n ≤ length old = room_holds (length old) (ROW * n) k in
          let j : u ≡ t = d ∙ ap (table_in i) (g ∙ found.version) in
          let v : Wrote rows old new _ = rw (j, rows_all (take (first + n - first) (drop first index)) (length old) (omega (arith, count))) at w in
          fills_done rows (is_table (length old) ∙ rw (rows_long, le-leb (ROW * n) (length old) h)) (sym rows_long) v.bytes
