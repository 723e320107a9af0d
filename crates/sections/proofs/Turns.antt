-- The loop over the sections: what it keeps, and its turns.
-- Assumes nothing.
use mathlib.Core.Path.{◌≡◌, refl, sym, ◌∙◌, ap, subst}
use mathlib.Core.List.{List, [], ◌∷◌, ◌++◌}
use mathlib.Core.Bool.{Bool, true, false, ◌&&◌}
use mathlib.Core.Logic.{◌≢◌}
use Prim.Native.Nat.{ℕ, suc, ◌+◌, ◌-◌, ◌≤◌, ◌<◌}
use native.Mathlib.Omega.{arith}
use lib.ListN.{length, take, drop, get_or, set, length-set, length-append, length-take, length-drop, replicate, get_or-replicate}
use lib.Seq.{get_or-set_same, get_or-set_other, take_at}
use lib.Dec.{leb, eqb}
use borrow.Author.Tests.{eq-eqb, ne_eqb, eqb-true, eqb-false, leb-false}
use Rattle.std.proofs.Common.{Result, Ok, Err}
use Rattle.answer.specs.declared.Fault.{Fault}
use Rattle.answer.specs.Calls.{fault_of}
use Rattle.answer.specs.Outcome.{Outcome, taken}
use Rattle.answer.proofs.Outcomes.{made_stop, made_taken}
use Rattle.wire.specs.Numbers.{le_at}
use Rattle.wire.specs.Parts.{Wrote}
use Rattle.wire.proofs.Numbers.{le_at-drop, le_at_here}
use Rattle.wire.proofs.Parts.{none, wrote_tail, wrote_length, length_tail}
use Rattle.order.specs.Keyed.{has}
use Rattle.aerosnap.specs.Known.{known, slot}
use Rattle.aerosnap.specs.File.{id_of, length_of, slot_of, section_of}
use Rattle.aerosnap.specs.Rules.{IsSection}
use Rattle.aerosnap.proofs.Sections.{id_front, length_front, section_sound}
use Rattle.aerosnap.proofs.Turns.{sections_at, walk_end, walk_stop, walk_next}
use Rattle.lists.specs.Lists.{whole}
use Rattle.lists.specs.Promises.{zeros, lent_after}
use Rattle.lists.specs.Steps.{MayWrite}
use Rattle.lists.proofs.InPlace.{cleared}
use Rattle.sections.specs.Walks.{counted}
use Rattle.sections.specs.Steps.{walked_from, Marks, Keeps}
use Rattle.sections.specs.Index.{starts_of, kept, kept_in, Scanned}
use Rattle.sections.proofs.Kept.{whole-fits, kept-fits, kept_last, starts_front}

-- ---- marks

-- one section more, which has the slot or has not
module _ (key : List ℕ → ℕ) (k : ℕ) (e : List ℕ) where
  pub has_last : (l : List (List ℕ)) → k ≡ key e → has key k (l ++ (e ∷ [])) ≡ true
  unfolding has
  has_last [] h = rw (eq-eqb k (key e) h, has)
  has_last (x ∷ l) h = go (eqb k (key x)) (has_last l h)
    where
      go : (b : Bool) → has key k (l ++ (e ∷ [])) ≡ true → ◌≡◌ {A = Bool} (elim b [ true ↦ true | false ↦ has key k (l ++ (e ∷ [])) ]) true
      go true q = refl
      go false q = q

  pub has-before : (l : List (List ℕ)) → k ≢ key e → has key k (l ++ (e ∷ [])) ≡ has key k l
  unfolding has
  has-before [] h = rw (ne_eqb k (key e) h, has)
  has-before (x ∷ l) h = ap (λ (t : Bool). elim (eqb k (key x)) as (λ _. Bool) [ true ↦ true | false ↦ t ]) (has-before l h)

-- an id that is not known has none of the slots
slot_far : (id i : ℕ) → known id ≡ false → 1 ≤ i → i ≤ 8 → i ≢ slot id
slot_far id i k a b = go (leb 1 id) refl (leb id 8) refl k
  where
    own : id ≢ 7 → id ≢ 8 → i ≡ slot id → i ≡ id
    own x y q = q ∙ rw (ne_eqb id 7 x, slot, ne_eqb id 8 y)

    go : (x : Bool) → leb 1 id ≡ x → (y : Bool) → leb id 8 ≡ y → (x && y) ≡ false → i ≢ slot id
    go true p true q r = let z : ◌≡◌ {A = ℕ} 0 1 = cc in absurd (omega arith)
    go true p false q r = λ e. omega (arith, leb-false id 8 q, own (λ t. omega (arith, leb-false id 8 q)) (λ t. omega (arith, leb-false id 8 q)) e)
    go false p y q r = λ e. omega (arith, leb-false 1 id p, own (λ t. omega (arith, leb-false 1 id p)) (λ t. omega (arith, leb-false 1 id p)) e)

module _ (m : List ℕ) (l : List (List ℕ)) (n id : ℕ) (e : List ℕ) (d : id_of e ≡ id) (h : Marks m l n) where
  more : n + 1 ≡ length (l ++ (e ∷ []))
  more = omega (arith, h.count, length-append l (e ∷ []))

  pub noted_not : known id ≡ false → Marks m (l ++ (e ∷ [])) (n + 1)
  noted_not k = record { long = h.long; count = more; says = says }
    where
      far : (i : ℕ) → 1 ≤ i → i ≤ 8 → i ≢ slot_of e
      far i a b q = slot_far id i k a b (q ∙ ap slot d)

      says : (i : ℕ) → 1 ≤ i → i ≤ 8 → has slot_of i (l ++ (e ∷ [])) ≡ eqb (get_or m i 0) 1
      says i a b = has-before slot_of i e l (far i a b) ∙ h.says i a b

  pub noted_one : (k : ℕ) → k ≡ slot id → k ≤ 8 → Marks (set m k 1) (l ++ (e ∷ [])) (n + 1)
  noted_one k q b = record { long = length-set m k 1 ∙ h.long; count = more; says = λ i x y. go i x y (eqb i k) refl }
    where
      slot_is : k ≡ slot_of e
      slot_is = q ∙ ap slot (sym d)

      go : (i : ℕ) → 1 ≤ i → i ≤ 8 → (t : Bool) → eqb i k ≡ t → has slot_of i (l ++ (e ∷ [])) ≡ eqb (get_or (set m k 1) i 0) 1
      go i x y true u =
          let p : i ≡ k = eqb-true i k u in
          has_last slot_of i e l (p ∙ slot_is) ∙ sym (ap (λ (j : ℕ). eqb (get_or (set m k 1) j 0) 1) p ∙ ap (λ (z : ℕ). eqb z 1) (get_or-set_same m k 1 0 (omega (arith, h.long))))
      go i x y false u =
          let p : i ≢ k = eqb-false i k u in
          has-before slot_of i e l (λ z. p (z ∙ sym slot_is)) ∙ h.says i x y ∙ ap (λ (z : ℕ). eqb z 1) (sym (get_or-set_other m k i 1 0 p))

pub none_marked : Marks (replicate 9 0) [] 0
unfolding has
none_marked = record { long = refl; count = refl; says = λ i a h. sym (ap (λ (x : ℕ). eqb x 1) (get_or-replicate 9 i 0 0 (omega arith))) }

-- ---- what the loop keeps

-- i sections were read up to a place, and their starts, t of them, stand in the places that held `old`
pub record Walks (s : List ℕ) (i at t : ℕ) (m old new : List ℕ) : Type 0 where
  pub before : List (List ℕ)
  pub marks : Marks m before i
  pub few : i ≤ 64
  pub inside : at ≤ length s
  pub same : walked_from s ≡ sections_at (64 - i) before s at
  pub wrote : Wrote (kept (length old) before) old new t

pub walks_start : (s old : List ℕ) → 16 ≤ length s → Walks s 0 16 0 (replicate 9 0) old old
walks_start s old h = record { before = []; marks = none_marked; few = omega arith; inside = h; same = refl; wrote = none old }

-- a section that was passed
pub record Passed (before : List (List ℕ)) (s : List ℕ) (at : ℕ) : Type 0 where
  pub sec : List ℕ
  pub is : IsSection sec
  pub room : length before < 64
  pub more : List ℕ
  pub cut : drop at s ≡ sec ++ more
  pub ends : at + (16 + le_at 8 s (at + 8)) ≡ at + length sec
  pub inside : at + length sec ≤ length s
  pub takes : section_of before at (drop at s) ≡ taken (length sec)

module _ {s : List ℕ} {i at t : ℕ} {m old new : List ℕ} (v : Walks s i at t m old new) where
  abbrev tail : List ℕ
  tail = take (length new - t) (drop t new)

  -- what the call said that read the section at the place
  abbrev pub Told : Result ℕ Fault → List ℕ → Type 0
  Told r last = Keeps (section_of v.before at (drop at s)) (whole (length tail) (starts_of (drop at s))) tail r last

  pub walks_long : length new ≡ length old
  walks_long = wrote_length v.wrote (kept-fits (length old) v.before)

  pub walks_at : t ≤ length new
  walks_at = omega (arith, walks_long, v.wrote.count, kept-fits (length old) v.before)

  -- the places as they come back
  pub walks_back : (last : List ℕ) → length last ≡ length tail → length (take t new ++ (last ++ drop (length new - t) (drop t new))) ≡ length old
  walks_back last h = rw (length-append, length-append, length-take, length-drop, length-drop) (omega (arith, h, length_tail t new, walks_at, walks_long))

  pub walks_stop : at < length s → {f : Fault} {last now : List ℕ} → Told (Err f) last → MayWrite (walked_from s) old (Ok tt) → now ≡ zeros (length old) → Scanned (walked_from s) old (Err f) now
  walks_stop h {f} k m z =
      let e : walked_from s ≡ fault_of f = v.same ∙ walk_stop v.before s at (64 - i) h (made_stop (section_of v.before at (drop at s)) _ k.answers) in
      record { answers = sym (ap counted e); leaves = cleared e m z ∙ sym (ap (λ (o : Outcome (List (List ℕ))). lent_after (kept_in (length old) o) old) e) }

  pub walks_done : length s ≤ at → Scanned (walked_from s) old (Ok i) new
  walks_done h =
      let e : walked_from s ≡ taken v.before = v.same ∙ walk_end v.before s at (64 - i) h in
      record { answers = ap taken v.marks.count ∙ sym (ap counted e); leaves = v.wrote.bytes ∙ sym (ap (λ (o : Outcome (List (List ℕ))). lent_after (kept_in (length old) o) old) e) }

  module _ (h : at < length s) {n : ℕ} {last : List ℕ} (k : Told (Ok n) last) where
    -- the section that was passed
    pub passed : Passed v.before s at
    passed =
        let a = made_taken (section_of v.before at (drop at s)) _ k.answers in
        let x = section_sound v.before at (drop at s) a.1 in
        let c : length (drop at s) ≡ length x.e + length x.more = ap length x.cut ∙ length-append x.e x.more in
        let f : le_at 8 s (at + 8) ≡ length_of x.e = sym (le_at-drop 8 s at 8) ∙ ap length_of x.cut ∙ length_front x.e x.more x.is.whole in
        record {
          sec = x.e;
          is = x.is;
          room = x.room;
          more = x.more;
          cut = x.cut;
          ends = omega (arith, f, x.is.whole);
          inside = omega (arith, c, length-drop at s);
          takes = a.1 ∙ ap taken x.ends;
        }

    pub passed_id : {id : ℕ} → id ≡ le_at 4 s at → id_of passed.sec ≡ id
    passed_id q = let x = passed in sym (q ∙ sym (le_at_here 4 s at) ∙ ap id_of x.cut ∙ id_front x.sec x.more x.is.whole)

    -- its starts stand in the tail that was lent
    passed_wrote : Wrote (whole (length tail) (starts_of (drop at s))) tail last n
    passed_wrote = record { count = (made_taken (section_of v.before at (drop at s)) _ k.answers).2; bytes = k.leaves _ passed.takes }

    pub passed_fits : t + n ≤ length new
    passed_fits = omega (arith, passed_wrote.count, whole-fits (length tail) (starts_of (drop at s)), length_tail t new, walks_at)

    pub walks_next : (m' : List ℕ) → Marks m' (v.before ++ (passed.sec ∷ [])) (i + 1) → {w : ℕ} → w ≡ le_at 8 s (at + 8)
        → Walks s (i + 1) (at + (16 + w)) (t + n) m' old (take t new ++ (last ++ drop (length new - t) (drop t new)))
    walks_next m' d {w} q =
        let x = passed in
        let c : i ≡ length v.before = v.marks.count in
        let y : length v.before < 64 = x.room in
        let z : 64 - i ≡ suc (64 - (i + 1)) = omega arith in
        let e : at + (16 + w) ≡ at + length x.sec = ap (λ (j : ℕ). at + (16 + j)) q ∙ x.ends in
        let g : length tail ≡ length old - length (kept (length old) v.before) = length_tail t new ∙ omega (arith, walks_long, v.wrote.count) in
        let u : kept (length old) v.before ++ whole (length tail) (starts_of (drop at s)) ≡ kept (length old) (v.before ++ (x.sec ∷ [])) =
        cc (g, ap starts_of x.cut, starts_front x.sec x.is x.more, kept_last (length old) v.before x.sec)
        in
        record {
          before = v.before ++ (x.sec ∷ []);
          marks = d;
          few = omega arith;
          inside = omega (arith, x.inside);
          same =
              v.same
              ∙ ap (λ (j : ℕ). sections_at j v.before s at) z
              ∙ walk_next v.before s at (64 - (i + 1)) h x.takes
              ∙ ap (λ (b : List ℕ). sections_at (64 - (i + 1)) (v.before ++ (b ∷ [])) s (at + length x.sec)) (ap (take (length x.sec)) x.cut ∙ take_at x.sec x.more (length x.sec) refl)
              ∙ ap (sections_at (64 - (i + 1)) (v.before ++ (x.sec ∷ [])) s) (sym e);
          wrote = subst (λ (b : List ℕ). Wrote b old (take t new ++ (last ++ drop (length new - t) (drop t new))) (t + n)) u (wrote_tail v.wrote passed_wrote);
        }
