-- Laws of keyed lists by the places of their entries: what a search by halves wants.
-- Assumes nothing.
use mathlib.Core.Path.{◌≡◌, refl, sym, ◌∙◌, ap}
use mathlib.Core.Bool.{Bool, true, false}
use mathlib.Core.List.{List, [], ◌∷◌, ◌++◌}
use Prim.Native.Nat.{ℕ, zero, suc, ◌≤◌, ◌<◌}
use native.Mathlib.Omega.{arith}
use lib.Dec.{eqb}
use lib.ListN.{length, take, drop, get_or}
use borrow.Author.Tests.{eq-eqb}
use Rattle.order.specs.Keyed.{Every, insert, has}
use Rattle.order.proofs.Keys.{Up, up_every}
use Rattle.order.proofs.Inserts.{insert_nil, insert-le, insert_gt}

module _ {E : Type 0} (d : E) where
  pub every_at : (P : E → Type 0) (l : List E) → Every P l → (i : ℕ) → i < length l → P (get_or l i d)
  every_at P [] h i g = absurd (omega arith)
  every_at P (x ∷ l) h zero g = h.0
  every_at P (x ∷ l) h (suc i) g = every_at P l h.1 i (omega arith)

  pub at_every : (P : E → Type 0) (l : List E) → ((i : ℕ) → i < length l → P (get_or l i d)) → Every P l
  at_every P [] h = tt
  at_every P (x ∷ l) h = (h 0 (omega arith), at_every P l (λ i g. h (suc i) (omega arith)))

  module _ (key : E → ℕ) where
    -- keys ascend with the places
    pub up_at : (n : ℕ) (l : List E) → Up key n l → (i j : ℕ) → i ≤ j → j < length l → key (get_or l i d) ≤ key (get_or l j d)
    up_at n [] u i j h g = absurd (omega arith)
    up_at n (x ∷ l) u zero j h g = every_at (λ y. key x ≤ key y) (x ∷ l) (omega arith, up_every key (key x) l u.1) j g
    up_at n (x ∷ l) u (suc i) zero h g = absurd (omega arith)
    up_at n (x ∷ l) u (suc i) (suc j) h g = up_at (key x) l u.1 i j (omega arith) (omega arith)

    pub has-at : (k : ℕ) (l : List E) (i : ℕ) → i < length l → key (get_or l i d) ≡ k → has key k l ≡ true
    unfolding has
    has-at k [] i h e = absurd (omega arith)
    has-at k (x ∷ l) zero h e = rw (eq-eqb k (key x) (sym e), has)
    has-at k (x ∷ l) (suc i) h e = go (eqb k (key x)) (has-at k l i (omega arith) e)
      where
        go : (b : Bool) → has key k l ≡ true → ◌≡◌ {A = Bool} (elim b [ true ↦ true | false ↦ has key k l ]) true
        go true q = refl
        go false q = q

    -- the place that an entry is inserted at: all keys before it are lower, and the next one is not
    pub insert-at : (x : E) (l : List E) (r : ℕ) → r ≤ length l → ((i : ℕ) → i < r → key (get_or l i d) < key x)
        → (r < length l → key x ≤ key (get_or l r d)) → insert key x l ≡ take r l ++ x ∷ drop r l
    insert-at x [] zero h b a = insert_nil key x
    insert-at x [] (suc r) h b a = absurd (omega arith)
    insert-at x (y ∷ l) zero h b a = insert-le key x y l (a (omega arith))
    insert-at x (y ∷ l) (suc r) h b a =
        insert_gt key x y l (b 0 (omega arith)) ∙ ap (λ (m : List E). y ∷ m) (insert-at x l r (omega arith) (λ i g. b (suc i) (omega arith)) (λ g. a (omega arith)))
