-- The loop over a table: i records are stored, and zs came of it.
-- Assumes nothing.
use mathlib.Core.Path.{◌≡◌, refl, sym, ap, ◌∙◌, subst}
use mathlib.Core.Bool.{Bool, true, false, cond}
use mathlib.Core.List.{List, [], ◌∷◌, ◌++◌, append_assoc, append-nil}
use Prim.Native.Nat.{ℕ, zero, suc, ◌+◌, ◌*◌, ◌≤◌, ◌<◌}
use native.Mathlib.Numerals.{unary_clauses}
use native.Mathlib.Omega.{arith}
use borrow.Author.Tests.{leb-true, leb-false, le-leb, lt-ltb}
use lib.Dec.{leb}
use lib.ListN.{length, take, drop, get_or, length-append}
use lib.Seq.{length-take-le, take-append_seam}
use Rattle.order.specs.Keyed.{Every}
use Rattle.wire.specs.Parts.{splice}
use Rattle.wire.proofs.Parts.{put-fits}
use Rattle.answer.specs.Outcome.{Outcome}
use Rattle.aerosnap.specs.declared.NewDevice.{NewDevice}
use Rattle.aerosnap.specs.Many.{new_devices}
use Rattle.cards.specs.declared.Card.{Card}
use Rattle.cards.specs.declared.Edited.{Edited}
use Rattle.cards.specs.Cards.{WritesBeside}
use Rattle.cards.specs.Whole.{many_card}
use Rattle.cards.specs.Whole.{add_all_card}
use Rattle.newcomers.specs.Records.{looked_at, record_of, record_put, stored_in, records_of, WideEntry}
use Rattle.newcomers.proofs.Laws.{length_record}
use Rattle.newcomers.proofs.First.{entries_back, first-entries, take_looked}

abbrev pub none : NewDevice
none = record { id = 0; version = 0; flags = 0; place = 0; length = 0 }

pub record Part (ds : List NewDevice) (i : ℕ) (zs : List ℕ) : Type 0 where
  pub within : i ≤ looked_at (length ds)
  pub long : length zs ≡ 98328
  pub start : take (i * 24) zs ≡ records_of (take i ds)
  pub wide : Every WideEntry (take i ds)

-- ---- how many are looked at

pub looked_within : (n : ℕ) → looked_at n ≤ n
looked_within n = go (leb n 4097) refl
  where
    go : (t : Bool) → leb n 4097 ≡ t → cond t n 4097 ≤ n
    go true e = omega arith
    go false e = omega (arith, leb-false n 4097 e)

pub looked_most : (n : ℕ) → looked_at n ≤ 4097
looked_most n = go (leb n 4097) refl
  where
    go : (t : Bool) → leb n 4097 ≡ t → cond t n 4097 ≤ 4097
    go true e = leb-true n 4097 e
    go false e = omega arith

pub looked_next : (i n : ℕ) → i < looked_at n → looked_at (i + 1) ≡ i + 1
looked_next i n h = ap (λ (t : Bool). cond t (i + 1) 4097) (le-leb (i + 1) 4097 (omega (arith, looked_most n)))

-- ---- one entry more

take_next : (l : List NewDevice) (i : ℕ) → i < length l → take (i + 1) l ≡ take i l ++ (get_or l i none ∷ [])
take_next [] i h = absurd (omega arith)
take_next (d ∷ l) zero h = refl
take_next (d ∷ l) (suc i) h = simp unary_clauses (ap (λ (m : List NewDevice). d ∷ m) (simp unary_clauses at (take_next l i (omega arith))))

every_last : (l : List NewDevice) (d : NewDevice) → Every WideEntry l → WideEntry d → Every WideEntry (l ++ (d ∷ []))
every_last [] d h w = (w, tt)
every_last (x ∷ l) d h w = (h.0, every_last l d h.1 w)

records_last : (l : List NewDevice) (d : NewDevice) → records_of (l ++ (d ∷ [])) ≡ records_of l ++ record_of d
unfolding records_of
records_last [] d = append-nil (record_of d)
records_last (x ∷ l) d = ap (λ (s : List ℕ). record_of x ++ s) (records_last l d) ∙ sym (append_assoc (record_of x) (records_of l) (record_of d))

-- the start of what is stored
stored_start : (i : ℕ) (d : NewDevice) (zs : List ℕ) → i * 24 + 24 ≤ length zs → take ((i + 1) * 24) (record_put i d zs) ≡ take (i * 24) zs ++ record_of d
unfolding record_put splice
stored_start i d zs h =
    let at : ℕ = i * 24 in
    let front : List ℕ = take at zs ++ record_of d in
    let n : length (record_of d) ≡ 24 = length_record d in
    let long : length front ≡ (i + 1) * 24 = length-append (take at zs) (record_of d) ∙ omega (arith, n, length-take-le at zs (omega arith)) in
    let e : record_put i d zs ≡ front ++ drop (at + length (record_of d)) zs = put-fits at (record_of d) zs (omega arith) in
    ap (take ((i + 1) * 24)) e ∙ ap (λ (j : ℕ). take j (front ++ drop (at + length (record_of d)) zs)) (sym long) ∙ take-append_seam front (drop (at + length (record_of d)) zs)

pub part_none : (ds : List NewDevice) (zs : List ℕ) → length zs ≡ 98328 → Part ds 0 zs
unfolding records_of
part_none ds zs l = record { within = omega arith; long = l; start = refl; wide = tt }

pub part_next : {ds : List NewDevice} {zs new : List ℕ} {i r : ℕ} → Part ds i zs → i < looked_at (length ds) → WideEntry (get_or ds i none) → r ≡ looked_at (i + 1) → new ≡ stored_in i (get_or ds i none) zs → length new ≡ length zs → Part ds r new
part_next {ds} {zs} {new} {i} {r} p h w e f l =
    let d = get_or ds i none in
    let t : take (i + 1) ds ≡ take i ds ++ (d ∷ []) = take_next ds i (omega (arith, looked_within (length ds))) in
    let fits : i * 24 + 24 ≤ length zs = omega (arith, looked_most (length ds), p.long) in
    let into : stored_in i d zs ≡ record_put i d zs = ap (λ (t : Bool). cond t (record_put i d zs) zs) (lt-ltb i 4097 (omega (arith, looked_most (length ds)))) in
    subst (λ (j : ℕ). Part ds j new) (sym (e ∙ looked_next i (length ds) h)) (record {
      within = omega arith;
      long = l ∙ p.long;
      start = ap (take ((i + 1) * 24)) (f ∙ into) ∙ stored_start i d zs fits ∙ ap (λ (s : List ℕ). s ++ record_of d) p.start ∙ sym (records_last (take i ds) d) ∙ ap records_of (sym t);
      wide = subst (Every WideEntry) (sym t) (every_last (take i ds) d p.wide w);
    })

-- the loop's end: what the call over the records answers is what the call over the entries does
pub part_end : {ds : List NewDevice} {zs : List ℕ} {i : ℕ} (have : ℕ) {k : Card} (file store : List ℕ) {old new : List ℕ} {r : Edited} → Part ds i zs → looked_at (length ds) ≤ i
    → WritesBeside k (many_card have k file (take (looked_at (length ds) * 24) zs) store) old r new → WritesBeside k (add_all_card have k file ds store) old r new
part_end {ds} {zs} {i} have {k} file store {old} {new} {r} p h d =
    let n : ℕ = looked_at (length ds) in
    let e : i ≡ n = omega (arith, p.within) in
    let w : Every WideEntry (take n ds) = subst (λ (j : ℕ). Every WideEntry (take j ds)) e p.wide in
    let records : take (n * 24) zs ≡ records_of (take n ds) = subst (λ (j : ℕ). take (j * 24) zs ≡ records_of (take j ds)) e p.start in
    let same : new_devices (take (n * 24) zs) ≡ take n ds = ap new_devices records ∙ entries_back (take n ds) w in
    subst (λ (o : ℕ × Outcome (List ℕ × Card)). WritesBeside k o old r new) (ap (λ (l : List NewDevice). add_all_card have k file l store) (same ∙ take_looked ds) ∙ first-entries have k file ds store (subst (Every WideEntry) (take_looked ds) w)) d
