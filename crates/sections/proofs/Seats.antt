-- The directory of what is kept: its seats one by one, and what one section more changes in it.
-- Assumes nothing.
use mathlib.Core.Path.{◌≡◌, refl, sym, ◌∙◌, ap, subst}
use mathlib.Core.Logic.{◌≢◌}
use mathlib.Core.List.{List, [], ◌∷◌, ◌++◌, map, append-nil}
use mathlib.Core.Bool.{Bool, true, false, cond, ◌&&◌}
use Prim.Native.Nat.{ℕ, zero, suc, ◌+◌, ◌-◌, ◌≤◌}
use native.Mathlib.Omega.{arith}
use lib.ListN.{length, get_or, set, length-set, length-append}
use lib.Seq.{get_or-set_same, get_or-set_other}
use lib.Dec.{eqb}
use borrow.Author.Tests.{le-leb, eq-eqb, ne_eqb, eqb-true, eqb-false}
use Rattle.order.specs.Keyed.{Every, Fresh, weigh}
use Rattle.order.specs.Entries.{join}
use Rattle.order.proofs.Folds.{weigh-append, flat_append}
use Rattle.lists.specs.Lists.{whole}
use Rattle.lists.specs.Promises.{zeros}
use Rattle.aerosnap.specs.Known.{known, slot}
use Rattle.aerosnap.specs.Payloads.{Body, meta, cpu, mmu, list, opaque, body_of}
use Rattle.aerosnap.specs.File.{id_of, version_of, slot_of}
use Rattle.aerosnap.specs.Rules.{IsSection, is_known_section}
use Rattle.aerosnap.specs.Content.{tidy}
use Rattle.aerosnap.specs.Salvage.{Part, keeps, loses, bytes_in, kept_by, all_kept}
use Rattle.aerosnap.proofs.Copies.{is_list_body}
use Rattle.aerosnap.proofs.Judged.{span}
use Rattle.aerosnap.proofs.Slots.{known_range}
use Rattle.aerosnap.proofs.Written.{is_empty_by, is_empty, tidy_one}
use Rattle.sections.specs.Index.{starts_of, kept, is_list_id}
use Rattle.sections.specs.Directory.{directory_places, Seat, seats, seat_of, others_in}
use Rattle.sections.specs.Steps.{tallied, seated, written_size}
use Rattle.sections.proofs.Kept.{listed_id}

-- ---- seats

abbrev pub seat_at : List ℕ → ℕ → ℕ → Seat
seat_at e at n = record { id = id_of e; place = at; first = n }

-- one part more
pub seats_last : (l : List Part) (at n have : ℕ) (x : Part)
    → seats at n have (l ++ (x ∷ [])) ≡ seats at n have l ++ seats (at + span l) (n + length (kept have (all_kept l))) (have - length (kept have (all_kept l))) (x ∷ [])
seats_last [] at n have x =
    let a : at + 0 ≡ at = omega arith in
    let b : n + 0 ≡ n = omega arith in
    let c : have - 0 ≡ have = omega arith in
    rw (a, b, c) refl
seats_last (keeps e ∷ l) at n have x =
    let w : ℕ = length (whole have (starts_of e)) in
    let k : ℕ = length (kept (have - w) (all_kept l)) in
    let a : at + length e + span l ≡ at + span (keeps e ∷ l) = omega (arith, length-append e (join (map bytes_in l))) in
    let z = length-append (whole have (starts_of e)) (kept (have - w) (all_kept l)) in
    let b : n + w + k ≡ n + length (kept have (all_kept (keeps e ∷ l))) = omega (arith, z) in
    let c : have - w - k ≡ have - length (kept have (all_kept (keeps e ∷ l))) = omega (arith, z) in
    ap (λ (m : List Seat). seat_at e at n ∷ m) (seats_last l (at + length e) (n + w) (have - w) x ∙ cc (a, b, c))
seats_last (loses m e ∷ l) at n have x =
    let a : at + length e + span l ≡ at + span (loses m e ∷ l) = omega (arith, length-append e (join (map bytes_in l))) in
    seats_last l (at + length e) n have x ∙ cc a

module _ (f : Seat → ℕ) (i : ℕ) where
  -- a seat behind others, none of which has the id
  pub seat_new : (l : List Seat) (x : Seat) → Every (λ y. y.id ≢ i) l → x.id ≡ i → seat_of f i (l ++ (x ∷ [])) ≡ f x
  seat_new [] x h q = rw (eq-eqb x.id i q) refl
  seat_new (y ∷ l) x h q = rw (ne_eqb y.id i h.0) (seat_new l x h.1 q)

  -- and one that has another id
  pub seat_old : (l : List Seat) (x : Seat) → x.id ≢ i → seat_of f i (l ++ (x ∷ [])) ≡ seat_of f i l
  seat_old [] x q = rw (ne_eqb x.id i q) refl
  seat_old (y ∷ l) x q = ap (λ (n : ℕ). cond (eqb y.id i) (f y) n) (seat_old l x q)

-- no section that is kept has the id, where none has its slot
pub no_seat : (i : ℕ) (l : List Part) (at n have : ℕ) → Fresh slot_of (slot i) (all_kept l) → Every (λ y. y.id ≢ i) (seats at n have l)
no_seat i [] at n have h = tt
no_seat i (keeps e ∷ l) at n have h =
    let w : ℕ = length (whole have (starts_of e)) in
    ((λ q. h.0 (ap slot (sym q))), no_seat i l (at + length e) (n + w) (have - w) h.1)
no_seat i (loses m e ∷ l) at n have h = no_seat i l (at + length e) n have h

-- ---- one section more in the directory

module _ (d : List ℕ) (l : length d ≡ directory_places) where
  module _ (id at first : ℕ) where
    long_seated : length (seated id at first d) ≡ directory_places
    long_seated = go (known id)
      where
        go : (b : Bool) → length (cond b (set (set d id at) (id + 8) first) (set d 0 (get_or d 0 0 + 1))) ≡ directory_places
        go true = length-set (set d id at) (id + 8) first ∙ length-set d id at ∙ l
        go false = length-set d 0 (get_or d 0 0 + 1) ∙ l

    seated-others : get_or (seated id at first d) 0 0 ≡ get_or d 0 0 + cond (known id) 0 1
    seated-others = go (known id) refl
      where
        go : (b : Bool) → known id ≡ b → get_or (cond b (set (set d id at) (id + 8) first) (set d 0 (get_or d 0 0 + 1))) 0 0 ≡ get_or d 0 0 + cond b 0 1
        go true q =
            let r = known_range id q in
            get_or-set_other (set d id at) (id + 8) 0 first 0 (λ z. omega (arith, r.0)) ∙ get_or-set_other d id 0 at 0 (λ z. omega (arith, r.0)) ∙ omega arith
        go false q = get_or-set_same d 0 (get_or d 0 0 + 1) 0 (omega arith)

    -- a place that is not the section's, nor that of its first start, nor that of the others
    seated_far : (j : ℕ) → 1 ≤ j → (known id ≡ true → (j ≢ id) × (j ≢ id + 8)) → get_or (seated id at first d) j 0 ≡ get_or d j 0
    seated_far j i h = go (known id) refl
      where
        go : (b : Bool) → known id ≡ b → get_or (cond b (set (set d id at) (id + 8) first) (set d 0 (get_or d 0 0 + 1))) j 0 ≡ get_or d j 0
        go true q = get_or-set_other (set d id at) (id + 8) j first 0 (h q).1 ∙ get_or-set_other d id j at 0 (h q).0
        go false q = get_or-set_other d 0 j (get_or d 0 0 + 1) 0 (λ z. omega arith)

    seated_place : known id ≡ true → get_or (seated id at first d) id 0 ≡ at
    seated_place q =
        let r = known_range id q in
        ap (λ (b : Bool). get_or (cond b (set (set d id at) (id + 8) first) (set d 0 (get_or d 0 0 + 1))) id 0) q
        ∙ get_or-set_other (set d id at) (id + 8) id first 0 (λ z. omega arith)
        ∙ get_or-set_same d id at 0 (omega (arith, r.1))

    seated-first : known id ≡ true → get_or (seated id at first d) (id + 8) 0 ≡ first
    seated-first q =
        let r = known_range id q in
        ap (λ (b : Bool). get_or (cond b (set (set d id at) (id + 8) first) (set d 0 (get_or d 0 0 + 1))) (id + 8) 0) q
        ∙ get_or-set_same (set d id at) (id + 8) first 0 (omega (arith, r.1, length-set d id at))

  module _ (size : ℕ) where
    abbrev d1 : List ℕ
    d1 = set d 17 (get_or d 17 0 + cond (eqb size 0) 0 1)

    long_tallied : length (tallied size d) ≡ directory_places
    long_tallied = length-set d1 18 (get_or d 18 0 + size) ∙ length-set d 17 (get_or d 17 0 + cond (eqb size 0) 0 1) ∙ l

    tallied_far : (j : ℕ) → j ≤ 16 → get_or (tallied size d) j 0 ≡ get_or d j 0
    tallied_far j i = get_or-set_other d1 18 j (get_or d 18 0 + size) 0 (λ z. omega arith) ∙ get_or-set_other d 17 j (get_or d 17 0 + cond (eqb size 0) 0 1) 0 (λ z. omega arith)

    tallied-sections : get_or (tallied size d) 17 0 ≡ get_or d 17 0 + cond (eqb size 0) 0 1
    tallied-sections = get_or-set_other d1 18 17 (get_or d 18 0 + size) 0 (λ z. omega arith) ∙ get_or-set_same d 17 (get_or d 17 0 + cond (eqb size 0) 0 1) 0 (omega arith)

    tallied-bytes : get_or (tallied size d) 18 0 ≡ get_or d 18 0 + size
    tallied-bytes = get_or-set_same d1 18 (get_or d 18 0 + size) 0 (omega (arith, length-set d 17 (get_or d 17 0 + cond (eqb size 0) 0 1)))

-- ---- the directory of parts

-- as the code stores them
pub tallied-stored : (d : List ℕ) (size : ℕ) {o : ℕ} → o ≡ cond (eqb size 0) 0 1 → set (set d 17 (get_or d 17 0 + o)) 18 (get_or (set d 17 (get_or d 17 0 + o)) 18 0 + size) ≡ tallied size d
tallied-stored d size {o} q =
    ap (λ (n : ℕ). set (set d 17 (get_or d 17 0 + o)) 18 (n + size)) (get_or-set_other d 17 18 (get_or d 17 0 + o) 0 (λ z. omega arith)) ∙ ap (λ (n : ℕ). set (set d 17 (get_or d 17 0 + n)) 18 (get_or d 18 0 + size)) q

pub written_most : (id w : ℕ) → written_size id w ≤ w
written_most id w = go (is_list_id id && eqb w 20)
  where
    go : (x : Bool) → cond x 0 w ≤ w
    go true = omega arith
    go false = omega arith

-- a section more leaves room for its bytes
pub record Entering (d : List ℕ) (w : ℕ) : Type 0 where
  pub long : length d ≡ directory_places
  pub sections : get_or d 17 0 ≤ 64
  pub bytes : get_or d 18 0 + w ≤ 1073741824

pub entering : (d : List ℕ) (w id at first : ℕ) → length d ≡ directory_places → get_or d 17 0 ≤ 64 → get_or d 18 0 + w ≤ 1073741824 → Entering (seated id at first d) (written_size id w)
entering d w id at first l a b = record {
  long = long_seated d l id at first;
  sections = omega (arith, seated_far d l id at first 17 (omega arith) (λ y. ((λ m. omega (arith, (known_range id y).1)), λ m. omega (arith, (known_range id y).1))));
  bytes = omega (arith, seated_far d l id at first 18 (omega arith) (λ y. ((λ m. omega (arith, (known_range id y).1)), λ m. omega (arith, (known_range id y).1))), written_most id w);
}

-- how many bytes are written of a section
pub written_is : (e : List ℕ) → written_size (id_of e) (length e) ≡ cond (is_empty e) 0 (length e)
written_is e = ap (λ (b : Bool). cond (b && eqb (length e) 20) 0 (length e)) (sym (listed_id (id_of e) (version_of e))) ∙ ap (λ (b : Bool). cond b 0 (length e)) (go (body_of (id_of e) (version_of e)))
  where
    go : (k : Body) → (is_list_body k && eqb (length e) 20) ≡ is_empty_by k e
    go meta = refl
    go (cpu v) = refl
    go (mmu v) = refl
    go (list d) = refl
    go opaque = refl

-- what the directory d says of the parts l, whose starts have so many places
pub record Seating (l : List Part) (have : ℕ) (d : List ℕ) : Type 0 where
  pub long : length d ≡ directory_places
  pub others : get_or d 0 0 ≡ others_in (all_kept l)
  pub places : (i : ℕ) → 1 ≤ i → i ≤ 8 → get_or d i 0 ≡ seat_of (λ x. x.place) i (seats 16 directory_places have l)
  pub firsts : (i : ℕ) → 1 ≤ i → i ≤ 8 → get_or d (i + 8) 0 ≡ seat_of (λ x. x.first) i (seats 16 directory_places have l)
  pub sections : get_or d 17 0 ≡ weigh (λ e. length (tidy e)) (all_kept l)
  pub bytes : get_or d 18 0 ≡ weigh (λ e. cond (is_empty e) 0 (length e)) (all_kept l)

get_or-zeros : (n i : ℕ) → get_or (zeros n) i 0 ≡ 0
get_or-zeros n i = go (n) i
  where
    go : (n i : ℕ) → get_or (zeros n) i 0 ≡ 0
    go zero i = refl
    go (suc n) zero = refl
    go (suc n) (suc i) = go n i

pub seating_none : (have : ℕ) → Seating [] have (zeros directory_places)
seating_none have = record {
  long = refl;
  others = refl;
  places = λ i a b. get_or-zeros directory_places i;
  firsts = λ i a b. get_or-zeros directory_places (i + 8);
  sections = refl;
  bytes = refl;
}

module _ {l : List Part} {have : ℕ} {d : List ℕ} (v : Seating l have d) where
  kept_append : (x : Part) → all_kept (l ++ (x ∷ [])) ≡ all_kept l ++ kept_by x
  kept_append x = flat_append kept_by l (x ∷ []) ∙ ap (λ (m : List (List ℕ)). all_kept l ++ m) (append-nil (kept_by x))

  -- a part that is lost changes nothing
  pub seating_lost : (n : ℕ) (e : List ℕ) → Seating (l ++ (loses n e ∷ [])) have d
  seating_lost n e =
      let q : all_kept (l ++ (loses n e ∷ [])) ≡ all_kept l = kept_append (loses n e) ∙ append-nil (all_kept l) in
      let r : seats 16 directory_places have (l ++ (loses n e ∷ [])) ≡ seats 16 directory_places have l = seats_last l 16 directory_places have (loses n e) ∙ append-nil (seats 16 directory_places have l) in
      record {
        long = v.long;
        others = v.others ∙ sym (ap others_in q);
        places = λ i a b. v.places i a b ∙ sym (ap (seat_of (λ x. x.place) i) r);
        firsts = λ i a b. v.firsts i a b ∙ sym (ap (seat_of (λ x. x.first) i) r);
        sections = v.sections ∙ sym (ap (weigh (λ e. length (tidy e))) q);
        bytes = v.bytes ∙ sym (ap (weigh (λ e. cond (is_empty e) 0 (length e))) q);
      }

  -- a section that is kept
  module _ (e : List ℕ) (is : IsSection e) (new : is_known_section e ≡ true → Fresh slot_of (slot_of e) (all_kept l)) {id at first w : ℕ} (i : id ≡ id_of e) (a : at ≡ 16 + span l) (f : first ≡ directory_places + length (kept have (all_kept l))) (z : w ≡ length e) where
    abbrev size : ℕ
    size = written_size id w

    abbrev dir : List ℕ
    dir = seated id at first d

    seats_are : seats 16 directory_places have (l ++ (keeps e ∷ [])) ≡ seats 16 directory_places have l ++ (seat_at e at first ∷ [])
    seats_are = seats_last l 16 directory_places have (keeps e) ∙ cc (a, f)

    size_is : size ≡ cond (is_empty e) 0 (length e)
    size_is = cc (i, z) ∙ written_is e

    weighed : (g : List ℕ → ℕ) → weigh g (all_kept (l ++ (keeps e ∷ []))) ≡ weigh g (all_kept l) + g e
    weighed g = ap (weigh g) (kept_append (keeps e)) ∙ weigh-append g (all_kept l) (e ∷ []) ∙ omega arith

    looked : (g : Seat → ℕ) (j off x : ℕ) → 1 ≤ j → j ≤ 8 → off ≤ 8 → (get_or d (j + off) 0 ≡ seat_of g j (seats 16 directory_places have l)) → g (seat_at e at first) ≡ x
        → (known id ≡ true → j ≡ id → get_or dir (j + off) 0 ≡ x) → ((known id ≡ true → j ≢ id) → get_or dir (j + off) 0 ≡ get_or d (j + off) 0)
        → get_or (tallied size dir) (j + off) 0 ≡ seat_of g j (seats 16 directory_places have (l ++ (keeps e ∷ [])))
    looked g j off x b c o h q same far = tallied_far dir (long_seated d v.long id at first) size (j + off) (omega arith) ∙ go (eqb id j) refl (known id) refl ∙ sym (ap (seat_of g j) seats_are)
      where
        go : (t : Bool) → eqb id j ≡ t → (u : Bool) → known id ≡ u → get_or dir (j + off) 0 ≡ seat_of g j (seats 16 directory_places have l ++ (seat_at e at first ∷ []))
        go true t true u =
            let k : id ≡ j = eqb-true id j t in
            let fresh : Fresh slot_of (slot j) (all_kept l) = subst (λ (m : ℕ). Fresh slot_of (slot m) (all_kept l)) (sym i ∙ k) (new (ap known (sym i) ∙ u)) in
            same u (sym k) ∙ sym q ∙ sym (seat_new g j (seats 16 directory_places have l) (seat_at e at first) (no_seat j l 16 directory_places have fresh) (sym i ∙ k))
        go true t false u = let k : id ≡ j = eqb-true id j t in let y : known id ≡ true = ap known k ∙ in_range j b c in let r : ◌≡◌ {A = ℕ} 0 1 = cc in absurd (omega arith)
          where
            in_range : (j : ℕ) → 1 ≤ j → j ≤ 8 → known j ≡ true
            in_range j b c = rw (le-leb 1 j b, le-leb j 8 c)
        go false t u p = let k : id ≢ j = eqb-false id j t in far (λ _ m. k (sym m)) ∙ h ∙ sym (seat_old g j (seats 16 directory_places have l) (seat_at e at first) (λ m. k (i ∙ m)))

    pub seating_kept : Seating (l ++ (keeps e ∷ [])) have (tallied size dir)
    seating_kept = record {
      long = long_tallied dir (long_seated d v.long id at first) size;
      others =
          tallied_far dir (long_seated d v.long id at first) size 0 (omega arith)
          ∙ seated-others d v.long id at first
          ∙ omega (arith, v.others, weighed (λ e. cond (known (id_of e)) 0 1), ap {B = ℕ} (λ (m : ℕ). cond (known m) 0 1) i);
      places = λ j b c.
          let o : j + 0 ≡ j = omega arith in
          subst (λ (m : ℕ). get_or (tallied size dir) m 0 ≡ seat_of (λ x. x.place) j (seats 16 directory_places have (l ++ (keeps e ∷ [])))) o
          (looked (λ x. x.place) j 0 at b c (omega arith) (subst (λ (m : ℕ). get_or d m 0 ≡ seat_of (λ x. x.place) j (seats 16 directory_places have l)) (sym o) (v.places j b c)) refl
          (λ k m. ap (λ (n : ℕ). get_or dir n 0) (o ∙ m) ∙ seated_place d v.long id at first k)
          (λ k. seated_far d v.long id at first (j + 0) (omega arith) (λ y. ((λ m. k y (sym o ∙ m)), λ m. omega (arith, (known_range id y).0)))));
      firsts = λ j b c.
          looked (λ x. x.first) j 8 first b c (omega arith) (v.firsts j b c) refl
          (λ k m. ap (λ (n : ℕ). get_or dir (n + 8) 0) m ∙ seated-first d v.long id at first k)
          (λ k. seated_far d v.long id at first (j + 8) (omega arith) (λ y. ((λ m. omega (arith, (known_range id y).1)), λ m. k y (omega arith))));
      sections =
          tallied-sections dir (long_seated d v.long id at first) size
          ∙ omega (arith, seated_far d v.long id at first 17 (omega arith) (λ y. ((λ m. omega (arith, (known_range id y).1)), λ m. omega (arith, (known_range id y).1))), v.sections, weighed (λ e. length (tidy e)), ap {B = ℕ} (λ (n : ℕ). cond (eqb n 0) 0 1) size_is ∙ tidy_one e is);
      bytes =
          tallied-bytes dir (long_seated d v.long id at first) size
          ∙ omega (arith, seated_far d v.long id at first 18 (omega arith) (λ y. ((λ m. omega (arith, (known_range id y).1)), λ m. omega (arith, (known_range id y).1))), v.bytes, weighed (λ e. cond (is_empty e) 0 (length e)), size_is);
    }
