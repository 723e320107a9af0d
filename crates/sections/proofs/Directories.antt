-- The directory stored at the front of an index, and the exits of the call that makes it.
-- Assumes nothing.
use mathlib.Core.Path.{◌≡◌, refl, sym, ◌∙◌, ap, subst}
use mathlib.Core.List.{List, [], ◌∷◌, ◌++◌, append-nil}
use mathlib.Core.Bool.{Bool, true, false}
use Prim.Native.Nat.{ℕ, suc, ◌+◌, ◌-◌, ◌≤◌, ◌<◌}
use native.Mathlib.Omega.{arith}
use lib.ListN.{length, take, drop, get_or, set, length-append, length-set, length-drop, take-append-drop, drop_of_length-le, get_or-append}
use lib.Seq.{get_or-set_same, get_or-set_other, drop_at, paste-suc, take_all, length-take-le, get_or-take, ext_get_or}
use lib.Dec.{leb}
use borrow.Author.Tests.{le-leb, lt-leb, leb-true, leb-false}
use Rattle.answer.specs.Numbers.{ROOM}
use Rattle.answer.specs.Outcome.{Outcome, taken, refused, Pass, checked}
use Rattle.answer.specs.Calls.{asked}
use Rattle.answer.proofs.Checks.{pass-checked, checked-pass, asked_stop}
use Rattle.aerosnap.specs.File.{header_checks, file_of}
use Rattle.aerosnap.specs.Salvage.{Part, parts_of, all_kept}
use Rattle.sections.specs.declared.Losses.{Losses}
use Rattle.answer.specs.declared.Refusal.TheVariants.{Room}
use Rattle.answer.specs.Refusals.{number_of}
use Rattle.answer.specs.Calls.{fault_of}
use Rattle.answer.proofs.Once.{fault_once, outcome_once}
use Rattle.answer.proofs.Outcomes.{taken_is, taken_refused}
use Rattle.sections.specs.Index.{kept}
use Rattle.sections.specs.Directory.{directory_places, seats, seat_of, Directory, parts_in, division_of, divided_of, lost_of, losses_of, IndexAfter, rows_after, Divides, IndexesFile}
use Rattle.sections.specs.Steps.{Parted, Divided, walked_from}
use Rattle.std.proofs.Common.{Result, Ok, Err, Option, Some, None}
use Rattle.answer.specs.declared.Fault.{Fault}

-- ---- a directory stored

-- what the loop keeps: i numbers are stored
abbrev pub Placing : List ℕ → List ℕ → ℕ → List ℕ → Type 0
Placing d old i new = (i ≤ directory_places) × (new ≡ take i d ++ drop i old)

module _ (d old : List ℕ) (l : length d ≡ directory_places) (r : directory_places ≤ length old) where
  pub placing_start : Placing d old 0 old
  placing_start = (omega arith, refl)

  module _ {i : ℕ} {new : List ℕ} (v : Placing d old i new) where
    pub placing_long : length new ≡ length old
    placing_long = ap length v.1 ∙ length-append (take i d) (drop i old) ∙ omega (arith, length-take-le i d (omega (arith, v.0)), length-drop i old, v.0)

    pub placing_next : i < directory_places → Placing d old (i + 1) (set new i (get_or d i 0))
    placing_next h =
        let z : 0 + i ≡ i = omega arith in
        let y : suc i ≡ i + 1 = omega arith in
        let w : 0 + suc i ≡ i + 1 = omega arith in
        let p : set (take i d ++ drop (0 + i) old) (0 + i) (get_or d i 0) ≡ take (suc i) d ++ drop (0 + suc i) old = paste-suc old 0 d i 0 (omega arith) (omega arith) in
        (omega arith, ap (λ (m : List ℕ). set m i (get_or d i 0)) v.1 ∙ (rw (z, w, y) at p))

    pub placing_done : directory_places ≤ i → new ≡ d ++ drop directory_places old
    placing_done h = let z : i ≡ directory_places = omega (arith, v.0) in v.1 ∙ ap (λ (n : ℕ). take n d ++ drop n old) z ∙ ap (λ (m : List ℕ). m ++ drop directory_places old) (take_all directory_places d (omega arith))

-- ---- the directory of a file's parts

-- the header's bytes are counted, the directory is stored before the starts
pub directory_made : (s old d starts rows recs new : List ℕ) (lost : Option Losses) → directory_places ≤ length old → Parted s d (drop directory_places old) starts rows recs lost
    → new ≡ set d 18 (get_or d 18 0 + 16) ++ starts → length starts ≡ length (drop directory_places old) → Directory (parts_of s) old new
directory_made s old d starts rows recs new lost r v q n =
    let e : List ℕ = set d 18 (get_or d 18 0 + 16) in
    let l : length e ≡ directory_places = length-set d 18 (get_or d 18 0 + 16) ∙ v.long in
    let h : length (drop directory_places old) ≡ length old - directory_places = length-drop directory_places old in
    let here : (i : ℕ) → i < 18 → get_or new i 0 ≡ get_or d i 0 = λ i a.
    ap (λ (m : List ℕ). get_or m i 0) q ∙ get_or-append e starts 0 i (omega (arith, l)) ∙ get_or-set_other d 18 i (get_or d 18 0 + 16) 0 (λ z. omega arith) in
    record {
      long = ap length q ∙ length-append e starts ∙ omega (arith, l, n, h);
      others = here 0 (omega arith) ∙ v.others;
      places = λ i a b. here i (omega arith) ∙ subst (λ (k : ℕ). get_or d i 0 ≡ seat_of (λ x. x.place) i (seats 16 directory_places k (parts_of s))) h (v.places i a b);
      firsts = λ i a b. here (i + 8) (omega arith) ∙ subst (λ (k : ℕ). get_or d (i + 8) 0 ≡ seat_of (λ x. x.first) i (seats 16 directory_places k (parts_of s))) h (v.firsts i a b);
      sections = here 17 (omega arith) ∙ v.sections;
      bytes = ap (λ (m : List ℕ). get_or m 18 0) q ∙ get_or-append e starts 0 18 (omega (arith, l)) ∙ get_or-set_same d 18 (get_or d 18 0 + 16) 0 (omega (arith, v.long)) ∙ omega (arith, v.bytes);
      starts = ap (drop directory_places) q ∙ drop_at e starts directory_places l ∙ subst (λ (k : ℕ). starts ≡ kept k (all_kept (parts_of s)) ++ drop (length (kept k (all_kept (parts_of s)))) (drop directory_places old)) h v.starts;
    }

-- the same of what the code lends: the part of the index behind the directory, which comes back in its place
module _ (s old : List ℕ) (r : directory_places ≤ length old) {d last rows recs : List ℕ} {lost : Option Losses} (v : Parted s d (take (length old - directory_places) (drop directory_places old)) last rows recs lost)
    (n : length last ≡ length (take (length old - directory_places) (drop directory_places old))) where
  abbrev behind : List ℕ
  behind = drop directory_places old

  lent : take (length old - directory_places) behind ≡ behind
  lent = take_all (length old - directory_places) behind (omega (arith, length-drop directory_places old))

  abbrev middle : List ℕ
  middle = take directory_places old ++ (last ++ drop (length old - directory_places) behind)

  pub middle_long : directory_places ≤ length middle
  middle_long = omega (arith, length-append (take directory_places old) (last ++ drop (length old - directory_places) behind), length-take-le directory_places old r)

  middle_behind : drop directory_places middle ≡ last
  middle_behind =
      let i : length behind ≤ length old - directory_places = omega (arith, length-drop directory_places old) in
      drop_at (take directory_places old) (last ++ drop (length old - directory_places) behind) directory_places (length-take-le directory_places old r)
      ∙ ap (λ (m : List ℕ). last ++ m) (drop_of_length-le behind i)
      ∙ append-nil last

  pub index_made : {new : List ℕ} → new ≡ set d 18 (get_or d 18 0 + 16) ++ drop directory_places middle → Divided s old new rows recs lost
  index_made {new} q =
      let w : Parted s d behind last rows recs lost = subst (λ (m : List ℕ). Parted s d m last rows recs lost) lent v in
      record {
        index = directory_made s old d last rows recs new lost r w (q ∙ ap (λ (m : List ℕ). set d 18 (get_or d 18 0 + 16) ++ m) middle_behind) (n ∙ ap length lent);
        records = v.records;
        losses = v.losses;
      }

-- ---- the exits of the call

divides_stop : (s old rows : List ℕ) {f : Fault} → parts_in (length old) s ≡ fault_of f → Divides s old rows (Err f) old rows
divides_stop s old rows {f} e = record {
  answers = sym (ap (division_of s) e);
  index = subst (λ (o : Outcome (List Part)). IndexAfter o old old) (sym e) refl;
  records = sym (ap (λ (o : Outcome (List Part)). rows_after o rows) e);
}

pub divides_fault : (s old rows : List ℕ) {f : Fault} → fault_of f ≡ asked (header_checks s) → Divides s old rows (Err f) old rows
divides_fault s old rows e = divides_stop s old rows (asked_stop (header_checks s) (checked ((leb directory_places (length old), ROOM, directory_places) ∷ []) (taken (parts_of s))) e)

module _ (s old rows : List ℕ) (h : Pass (header_checks s)) where
  whole : parts_in (length old) s ≡ checked ((leb directory_places (length old), ROOM, directory_places) ∷ []) (taken (parts_of s))
  whole = pass-checked (header_checks s) (checked ((leb directory_places (length old), ROOM, directory_places) ∷ []) (taken (parts_of s))) h

  pub divides_room : length old < directory_places → Divides s old rows (Err (record { 0 = Room; 1 = directory_places })) old rows
  divides_room i = divides_stop s old rows (whole ∙ rw (lt-leb directory_places (length old) i) refl)

  pub divides_done : directory_places ≤ length old → {new recs : List ℕ} {r : Option Losses} → Divided s old new rows recs r → Divides s old rows (Ok r) new recs
  unfolding file_of
  divides_done i {new} {recs} {r} v =
      let e : parts_in (length old) s ≡ taken (parts_of s) = whole ∙ rw (le-leb directory_places (length old) i) refl in
      let f : file_of s ≡ walked_from s = pass-checked (header_checks s) (walked_from s) h in
      record {
        answers = ap taken v.losses ∙ sym (ap (division_of s) e ∙ ap (λ (o : Outcome (List (List ℕ))). taken (losses_of o (parts_of s))) f);
        index = subst (λ (o : Outcome (List Part)). IndexAfter o old new) (sym e) v.index;
        records = v.records ∙ sym (ap (λ (o : Outcome (List Part)). rows_after o rows) e);
      }

pub header_passes : (s : List ℕ) → Pass (header_checks s) → (16 ≤ length s) × (length s ≤ 1073741824)
header_passes s h = (leb-true 16 (length s) h.1.0, leb-true (length s) 1073741824 h.0)

-- ---- the promise fixes the index

-- two directories of the same parts are equal
directory_once : (l : List Part) (old new now : List ℕ) → directory_places ≤ length old → Directory l old new → Directory l old now → new ≡ now
directory_once l old new now r a b =
    sym (take-append-drop directory_places new)
    ∙ ap (λ (m : List ℕ). m ++ drop directory_places new) (ext_get_or 0 (take directory_places new) (take directory_places now) (long new a.long ∙ sym (long now b.long)) (λ i h. each i (omega (arith, h, long new a.long))))
    ∙ ap (λ (m : List ℕ). take directory_places now ++ m) (a.starts ∙ sym b.starts)
    ∙ take-append-drop directory_places now
  where
    long : (m : List ℕ) → length m ≡ length old → length (take directory_places m) ≡ directory_places
    long m e = length-take-le directory_places m (omega arith)

    front : (m : List ℕ) (i : ℕ) → i < directory_places → get_or (take directory_places m) i 0 ≡ get_or m i 0
    front m i h = get_or-take directory_places m i 0 h

    at : (i : ℕ) → i < directory_places → get_or new i 0 ≡ get_or now i 0 → get_or (take directory_places new) i 0 ≡ get_or (take directory_places now) i 0
    at i h e = front new i h ∙ e ∙ sym (front now i h)

    first : (i : ℕ) → 9 ≤ i → i ≤ 16 → get_or new i 0 ≡ get_or now i 0
    first i p q = let z : i - 8 + 8 ≡ i = omega arith in subst (λ (k : ℕ). get_or new k 0 ≡ get_or now k 0) z (a.firsts (i - 8) (omega arith) (omega arith) ∙ sym (b.firsts (i - 8) (omega arith) (omega arith)))

    each : (i : ℕ) → i < directory_places → get_or (take directory_places new) i 0 ≡ get_or (take directory_places now) i 0
    each i h = at i h (go (leb i 0) refl (leb i 8) refl (leb i 16) refl (leb i 17) refl)
      where
        go : (t : Bool) → leb i 0 ≡ t → (u : Bool) → leb i 8 ≡ u → (v : Bool) → leb i 16 ≡ v → (w : Bool) → leb i 17 ≡ w → get_or new i 0 ≡ get_or now i 0
        go true t u p v q w r = let z : i ≡ 0 = omega (arith, leb-true i 0 t) in rw z (a.others ∙ sym b.others)
        go false t true p v q w r = a.places i (omega (arith, leb-false i 0 t)) (leb-true i 8 p) ∙ sym (b.places i (omega (arith, leb-false i 0 t)) (leb-true i 8 p))
        go false t false p true q w r = first i (omega (arith, leb-false i 8 p)) (leb-true i 16 q)
        go false t false p false q true r = let z : i ≡ 17 = omega (arith, leb-false i 16 q, leb-true i 17 r) in rw z (a.sections ∙ sym b.sections)
        go false t false p false q false r = let z : i ≡ 18 = omega (arith, leb-false i 17 r) in rw z (a.bytes ∙ sym b.bytes)

-- the code's own answers stand for different ones
lost_once : (a b : Option Losses) → lost_of a ≡ lost_of b → a ≡ b
lost_once None None e = refl
lost_once None (Some b) e = let z : ◌≡◌ {A = ℕ} 0 1 = cc in absurd (omega arith)
lost_once (Some a) None e = let z : ◌≡◌ {A = ℕ} 0 1 = cc in absurd (omega arith)
lost_once (Some a) (Some b) e =
    let t : ◌≡◌ {A = ℕ × ℕ × ℕ} (a.parts, number_of a.first.0, a.first.1) (b.parts, number_of b.first.0, b.first.1) = cc in
    let make : ℕ → Fault → Losses = λ k f. record { parts = k; first = f } in
    let f : a.first ≡ b.first = fault_once {A = ℕ} a.first b.first (ap (λ (x : ℕ × ℕ × ℕ). refused x.1 x.2) t) in
    ap Some (ap (λ (k : ℕ). make k a.first) (ap (λ (x : ℕ × ℕ × ℕ). x.0) t) ∙ ap (make b.parts) f)

divided_once : (r p : Result (Option Losses) Fault) → divided_of r ≡ divided_of p → r ≡ p
divided_once (Ok a) (Ok b) e = ap Ok (lost_once a b (taken_is e))
divided_once (Ok a) (Err f) e = absurd (taken_refused e)
divided_once (Err f) (Ok b) e = absurd (taken_refused (sym e))
divided_once (Err f) (Err g) e = ap Err (fault_once {A = Option (ℕ × ℕ × ℕ)} f g e)

module _ (s old : List ℕ) {new now : List ℕ} where
  indexed : (o : Outcome (List Part)) → parts_in (length old) s ≡ o → IndexAfter o old new → IndexAfter o old now → new ≡ now
  indexed (taken l) e x y =
      let c = (checked-pass (header_checks s) (checked ((leb directory_places (length old), ROOM, directory_places) ∷ []) (taken (parts_of s))) l e).1 in
      directory_once l old new now (leb-true directory_places (length old) (checked-pass ((leb directory_places (length old), ROOM, directory_places) ∷ []) (taken (parts_of s)) l c).0.0) x y
  indexed (refused n p) e x y = x ∙ sym y

  pub divides_once : (rows : List ℕ) (r p : Result (Option Losses) Fault) {recs lines : List ℕ} → Divides s old rows r new recs → Divides s old rows p now lines → (r ≡ p) × (new ≡ now) × (recs ≡ lines)
  divides_once rows r p a b = (divided_once r p (a.answers ∙ sym b.answers), indexed (parts_in (length old) s) refl a.index b.index, a.records ∙ sym b.records)

  pub indexes_once : (r p : Result (Unit {0}) Fault) → IndexesFile s old r new → IndexesFile s old p now → (r ≡ p) × (new ≡ now)
  indexes_once r p a b = (outcome_once r p (a.answers ∙ sym b.answers), indexed (parts_in (length old) s) refl a.index b.index)
