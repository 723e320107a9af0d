-- Where an entry goes among others: the laws of `find_in`.
-- Assumes nothing.
use mathlib.Core.Path.{◌≡◌, refl, sym, ◌∙◌, ap}
use mathlib.Core.Bool.{Bool, true, false}
use mathlib.Core.List.{List, [], ◌∷◌, ◌++◌, map}
use Prim.Native.Nat.{ℕ, zero, suc, ◌+◌, ◌≤◌, ◌<◌}
use native.Mathlib.Numerals.{add-one}
use native.Mathlib.Omega.{arith}
use lib.Dec.{leb, eqb}
use lib.ListN.{length, take, drop, get_or, drop_of_length-le}
use lib.Seq.{drop-cons}
use borrow.Author.Tests.{le-leb, lt-leb, eqb-true, eqb-false, leb-true, leb-false, eq-eqb, ne_eqb}
use Rattle.order.specs.Keyed.{insert, has, Asc, Every}
use Rattle.order.proofs.Folds.{every_imp}
use Rattle.order.proofs.Keys.{fresh_has, asc_up, up_every}
use Rattle.order.proofs.Inserts.{insert_nil, insert-le, insert_gt}
use Rattle.std.proofs.Common.{Result, Ok, Err}
use Rattle.lists.specs.Promises.{later, find_in, found_of, Finds}

pub free_is : {p q : ℕ} → ◌≡◌ {A = Result ℕ ℕ} (Err p) (Err q) → p ≡ q
free_is h = cc

pub there_is : {p q : ℕ} → ◌≡◌ {A = Result ℕ ℕ} (Ok p) (Ok q) → p ≡ q
there_is h = cc

pub there_free : {q p : ℕ} → ◌≡◌ {A = Result ℕ ℕ} (Ok q) (Err p) → ⊥
there_free h = let z : ◌≡◌ {A = ℕ} 0 1 = cc in omega arith

-- the outcomes tell the answer
pub found_once : (r q : Result ℕ ℕ) → Finds r q → r ≡ q
found_once (Ok i) (Ok j) h = let e : found_of true (Ok i) ≡ found_of true (Ok j) = h true in let z : i ≡ j = cc in ap Ok z
found_once (Ok i) (Err j) h = let e : found_of true (Ok i) ≡ found_of true (Err j) = h true in let z : ◌≡◌ {A = ℕ} 0 1 = cc in absurd (omega arith)
found_once (Err i) (Ok j) h = let e : found_of true (Err i) ≡ found_of true (Ok j) = h true in let z : ◌≡◌ {A = ℕ} 0 1 = cc in absurd (omega arith)
found_once (Err i) (Err j) h = let e : found_of false (Err i) ≡ found_of false (Err j) = h false in let z : i ≡ j = cc in ap Err z

pub finds : {r q : Result ℕ ℕ} → r ≡ q → Finds r q
finds e w = ap (found_of w) e

pub later_free : (f : Result ℕ ℕ) {p : ℕ} → later 1 f ≡ Err p → (q : ℕ) × (f ≡ Err q) × (p ≡ suc q)
later_free (Ok q) h = absurd (there_free h)
later_free (Err q) h = (q, refl, let e : 1 + q ≡ _ = free_is h in omega arith)

later-later : (i j : ℕ) (f : Result ℕ ℕ) → later i (later j f) ≡ later (i + j) f
later-later i j (Ok p) = ap Ok (omega arith)
later-later i j (Err p) = ap Err (omega arith)

-- ---- one element

module _ {E : Type 0} (key : E → ℕ) (k : ℕ) (y : E) (l : List E) where
  pub find-same : k ≡ key y → find_in key k (y ∷ l) ≡ Ok 0
  unfolding find_in
  find-same e = rw (eq-eqb k (key y) e, find_in)

  pub find_below : k < key y → find_in key k (y ∷ l) ≡ Err 0
  unfolding find_in
  find_below h = rw (ne_eqb k (key y) (λ e. omega arith), le-leb k (key y) (omega arith), find_in)

  pub find_above : key y < k → find_in key k (y ∷ l) ≡ later 1 (find_in key k l)
  unfolding find_in
  find_above h = rw (ne_eqb k (key y) (λ e. omega arith), lt-leb k (key y) h, find_in)

-- which of the three it is
pub data Against (k n : ℕ) : Type 0 where
  same : k ≡ n → Against k n
  below : k < n → Against k n
  above : n < k → Against k n

pub against : (k n : ℕ) → Against k n
against k n = go (eqb k n) refl (leb k n) refl
  where
    go : (a : Bool) → eqb k n ≡ a → (b : Bool) → leb k n ≡ b → Against k n
    go true e b f = same (eqb-true k n e)
    go false e true f = below (omega (arith, eqb-false k n e, leb-true k n f))
    go false e false f = above (leb-false k n f)

pub later-there : (f : Result ℕ ℕ) {p : ℕ} → later 1 f ≡ Ok p → (q : ℕ) × (f ≡ Ok q) × (p ≡ suc q)
later-there (Ok q) h = (q, refl, let e : 1 + q ≡ _ = there_is h in omega arith)
later-there (Err q) h = absurd (there_free (sym h))

-- ---- by the places of the elements

module _ {E : Type 0} (z : E) (key : E → ℕ) (k : ℕ) where
  pub find_free_at : (l : List E) (r : ℕ) → r ≤ length l → ((j : ℕ) → j < r → key (get_or l j z) < k) → (r < length l → k < key (get_or l r z)) → Err r ≡ find_in key k l
  unfolding find_in
  find_free_at [] zero h b a = refl
  find_free_at [] (suc r) h b a = absurd (omega arith)
  find_free_at (y ∷ l) zero h b a = sym (find_below key k y l (a (omega arith)))
  find_free_at (y ∷ l) (suc r) h b a =
      let e : Err r ≡ find_in key k l = find_free_at l r (omega arith) (λ j g. b (suc j) (omega arith)) (λ g. a (omega arith)) in
      ap Err (omega arith) ∙ ap (later 1) e ∙ sym (find_above key k y l (b 0 (omega arith)))

  pub find-there-at : (l : List E) (r : ℕ) → r < length l → ((j : ℕ) → j < r → key (get_or l j z) < k) → k ≡ key (get_or l r z) → Ok r ≡ find_in key k l
  find-there-at [] r h b e = absurd (omega arith)
  find-there-at (y ∷ l) zero h b e = sym (find-same key k y l e)
  find-there-at (y ∷ l) (suc r) h b e =
      let q : Ok r ≡ find_in key k l = find-there-at l r (omega arith) (λ j g. b (suc j) (omega arith)) e in
      ap Ok (omega arith) ∙ ap (later 1) q ∙ sym (find_above key k y l (b 0 (omega arith)))

-- ---- what an answer says

module _ {E : Type 0} (key : E → ℕ) (k : ℕ) where
  pub there_has : (l : List E) {p : ℕ} → find_in key k l ≡ Ok p → has key k l ≡ true
  unfolding has find_in
  there_has [] h = absurd (there_free (sym h))
  there_has (y ∷ l) h = elim (against k (key y)) [
    | same e ↦ rw (eq-eqb k (key y) e, has)
    | below g ↦ absurd (there_free (sym h ∙ find_below key k y l g))
    | above g ↦ let n : eqb k (key y) ≡ false = ne_eqb k (key y) (λ e. omega arith) in rw (n, has) (there_has l (later-there (find_in key k l) (sym (find_above key k y l g) ∙ h)).1)
  ]

  -- the element is inserted at the place
  pub free_insert : (x : E) (l : List E) {p : ℕ} → key x ≡ k → find_in key k l ≡ Err p → insert key x l ≡ take p l ++ (x ∷ drop p l)
  unfolding find_in
  free_insert x [] {p} e h = let z : ◌≡◌ {A = ℕ} 0 p = free_is h in rw (← z) (insert_nil key x)
  free_insert x (y ∷ l) {p} e h = elim (against k (key y)) [
    | same g ↦ absurd (there_free (sym (find-same key k y l g) ∙ h))
    | below g ↦ let z : ◌≡◌ {A = ℕ} 0 p = free_is (sym (find_below key k y l g) ∙ h) in rw (← z) (insert-le key x y l (omega arith))
    | above g ↦ let q = later_free (find_in key k l) (sym (find_above key k y l g) ∙ h) in rw q.2 (insert_gt key x y l (omega arith) ∙ ap (λ (m : List E). y ∷ m) (free_insert x l e q.1))
  ]

  pub free_le : (l : List E) {p : ℕ} → find_in key k l ≡ Err p → p ≤ length l
  unfolding find_in
  free_le [] h = omega (arith, free_is h)
  free_le (y ∷ l) h = elim (against k (key y)) [
    | same g ↦ absurd (there_free (sym (find-same key k y l g) ∙ h))
    | below g ↦ omega (arith, free_is (sym (find_below key k y l g) ∙ h))
    | above g ↦ let q = later_free (find_in key k l) (sym (find_above key k y l g) ∙ h) in omega (arith, q.2, free_le l q.1)
  ]

  -- in ascending order no element has the key
  pub free_has : (n : ℕ) (l : List E) {p : ℕ} → Asc key n l → find_in key k l ≡ Err p → has key k l ≡ false
  unfolding has find_in
  free_has n [] a h = refl
  free_has n (y ∷ l) a h = elim (against k (key y)) [
    | same g ↦ absurd (there_free (sym (find-same key k y l g) ∙ h))
    | below g ↦ fresh_has key k (y ∷ l) (λ e. omega arith, every_imp (λ z q e. omega arith) l (up_every key (suc (key y)) l (asc_up key (suc (key y)) l a.1)))
    | above g ↦ let q = later_free (find_in key k l) (sym (find_above key k y l g) ∙ h) in let n : eqb k (key y) ≡ false = ne_eqb k (key y) (λ e. omega arith) in rw (n, has) (free_has (suc (key y)) l a.1 q.1)
  ]

-- keys that are the same are found alike
pub find-map : {A B : Type 0} (f : A → B) (g : A → ℕ) (h : B → ℕ) (k : ℕ) (l : List A) → Every (λ x. h (f x) ≡ g x) l → find_in h k (map f l) ≡ find_in g k l
unfolding find_in
find-map f g h k [] e = refl
find-map f g h k (x ∷ l) e = elim (against k (g x)) [
  | same q ↦ find-same h k (f x) (map f l) (q ∙ sym e.0) ∙ sym (find-same g k x l q)
  | below q ↦ find_below h k (f x) (map f l) (omega (arith, e.0)) ∙ sym (find_below g k x l q)
  | above q ↦ find_above h k (f x) (map f l) (omega (arith, e.0)) ∙ ap (later 1) (find-map f g h k l e.1) ∙ sym (find_above g k x l q)
]

-- ---- element by element

pub record Finding (key : ℕ → ℕ) (k : ℕ) (l : List ℕ) (i : ℕ) : Type 0 where
  pub inside : i ≤ length l
  pub same : find_in key k l ≡ later i (find_in key k (drop i l))

module _ (key : ℕ → ℕ) (k : ℕ) (l : List ℕ) where
  module _ (i : ℕ) (v : Finding key k l i) where
    pub finding_end : length l ≤ i → Err (length l) ≡ find_in key k l
    unfolding find_in
    finding_end h = let e : i ≡ length l = omega (arith, v.inside) in sym (v.same ∙ rw (drop_of_length-le l h) (ap Err (omega (arith, e))))

    module _ (h : i < length l) where
      here : find_in key k l ≡ later i (find_in key k (get_or l i 0 ∷ drop (suc i) l))
      here = v.same ∙ ap (λ (m : List ℕ). later i (find_in key k m)) (drop-cons l i 0 h)

      pub finding_there : k ≡ key (get_or l i 0) → Ok i ≡ find_in key k l
      finding_there e = sym (here ∙ ap (later i) (find-same key k (get_or l i 0) (drop (suc i) l) e) ∙ ap Ok (omega arith))

      pub finding_free : k < key (get_or l i 0) → Err i ≡ find_in key k l
      finding_free e = sym (here ∙ ap (later i) (find_below key k (get_or l i 0) (drop (suc i) l) e) ∙ ap Err (omega arith))

      pub finding_next : key (get_or l i 0) < k → Finding key k l (i + 1)
      finding_next e = record {
        inside = omega arith;
        same = here ∙ ap (later i) (find_above key k (get_or l i 0) (drop (suc i) l) e) ∙ later-later i 1 (find_in key k (drop (suc i) l)) ∙ ap (λ (j : ℕ). later (i + 1) (find_in key k (drop j l))) (sym (add-one i));
      }
