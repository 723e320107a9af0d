-- The place of a key in a list in order, and the list with entries put in there, taken out or exchanged: what stays before the place, the new entries, what stays behind.
-- Assumes nothing.
use mathlib.Core.Path.{◌≡◌, refl, sym, ◌∙◌, ap}
use mathlib.Core.Bool.{Bool, not}
use mathlib.Core.List.{List, [], ◌∷◌, ◌++◌}
use Prim.Native.Nat.{ℕ, ◌+◌, ◌-◌, ◌≤◌, ◌<◌}
use native.Mathlib.Omega.{arith}
use lib.ListN.{take, drop, take-append-drop}
use lib.Seq.{drop-drop}
use lib.Dec.{eqb}
use borrow.Author.Tests.{eq-eqb, ne_eqb}
use Rattle.order.specs.Keyed.{Every, keep, insert, without}
use Rattle.order.proofs.Folds.{every_imp}
use Rattle.order.proofs.Inserts.{insert_nil, insert-le, insert_gt}
use Rattle.order.proofs.Keeps.{keep_append, keep_all, keep-none}

module _ {E : Type 0} (key : E → ℕ) where
  -- the key k in a list: q entries have lower keys, those from q to r (none or one) have this one, the others have higher keys
  pub record Place (k : ℕ) (l : List E) (q r : ℕ) : Type 0 where
    pub low : Every (λ y. key y < k) (take q l)
    pub it : Every (λ y. key y ≡ k) (take (r - q) (drop q l))
    pub high : Every (λ y. k < key y) (drop r l)
    pub order : q ≤ r

  -- other entries in place of those from q to r
  abbrev pub between : ℕ → ℕ → List E → List E → List E
  between q r new l = take q l ++ (new ++ drop r l)

module _ {E : Type 0} (key : E → ℕ) where
  -- past entries with lower keys
  pub insert_past : (x : E) (a b : List E) → Every (λ y. key y < key x) a → insert key x (a ++ b) ≡ a ++ insert key x b
  insert_past x [] b h = refl
  insert_past x (y ∷ a) b h = rw (insert_gt key x y (a ++ b) h.0) (ap (λ (l : List E). y ∷ l) (insert_past x a b h.1))

  insert-first : (x : E) (b : List E) → Every (λ y. key x < key y) b → insert key x b ≡ x ∷ b
  insert-first x [] h = insert_nil key x
  insert-first x (y ∷ b) h = insert-le key x y b (omega (arith, h.0))

  pub insert_between : (x : E) (a b : List E) → Every (λ y. key y < key x) a → Every (λ y. key x < key y) b → insert key x (a ++ b) ≡ a ++ (x ∷ b)
  insert_between x a b h k = insert_past x a b h ∙ ap (λ (l : List E). a ++ l) (insert-first x b k)

  -- a list by the place of a key
  cut_three : (q r : ℕ) (l : List E) → q ≤ r → l ≡ take q l ++ (take (r - q) (drop q l) ++ drop r l)
  cut_three q r l h =
      let e : q + (r - q) ≡ r = omega arith in
      sym (take-append-drop q l) ∙ ap (λ (m : List E). take q l ++ m) (sym (take-append-drop (r - q) (drop q l)) ∙ ap (λ (m : List E). take (r - q) (drop q l) ++ m) (drop-drop (r - q) q l ∙ ap (λ (n : ℕ). drop n l) e))

  -- one entry fewer
  pub without_place : (k : ℕ) (l : List E) (q r : ℕ) → Place key k l q r → without key k l ≡ take q l ++ drop r l
  without_place k l q r p =
      let f : E → Bool = λ y. not (eqb (key y) k) in
      let a : keep f (take q l) ≡ take q l = keep_all f (take q l) (every_imp (λ y h. ap not (ne_eqb (key y) k (λ e. omega arith))) (take q l) p.low) in
      let b : keep f (take (r - q) (drop q l)) ≡ [] = keep-none f (take (r - q) (drop q l)) (every_imp (λ y h. ap not (eq-eqb (key y) k h)) (take (r - q) (drop q l)) p.it) in
      let c : keep f (drop r l) ≡ drop r l = keep_all f (drop r l) (every_imp (λ y h. ap not (ne_eqb (key y) k (λ e. omega arith))) (drop r l) p.high) in
      ap (keep f) (cut_three q r l p.order) ∙ keep_append f (take q l) (take (r - q) (drop q l) ++ drop r l)
      ∙ ap (λ (m : List E). keep f (take q l) ++ m) (keep_append f (take (r - q) (drop q l)) (drop r l)) ∙ cc (a, b, c)

  -- one exchanged, or one more
  pub insert_place : (x : E) (k : ℕ) (l : List E) (q r : ℕ) → key x ≡ k → Place key k l q r → insert key x (take q l ++ drop r l) ≡ between key q r (x ∷ []) l
  insert_place x k l q r e p = insert_between x (take q l) (drop r l) (every_imp (λ y h. omega arith) (take q l) p.low) (every_imp (λ y h. omega arith) (drop r l) p.high)
