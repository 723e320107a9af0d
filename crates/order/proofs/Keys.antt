-- Laws of `has`, `Fresh`, `Apart`, `Up` and `Asc`: which of them follows from which.
-- Assumes nothing.
use mathlib.Core.Path.{◌≡◌, refl}
use mathlib.Core.Logic.{◌≢◌, ◌⊎◌, inl, inr}
use mathlib.Core.Bool.{Bool, true, false, true≢false}
use mathlib.Core.List.{List, [], ◌∷◌, ◌++◌, map}
use Prim.Native.Nat.{ℕ, suc, ◌≤◌, ◌<◌}
use native.Mathlib.Omega.{arith}
use lib.Dec.{leb, eqb}
use borrow.Author.Tests.{leb-true, leb-false, eqb-false, ne_eqb}
use Rattle.order.specs.Keyed.{Every, has, Fresh, Apart, Asc}
use Rattle.order.proofs.Folds.{every_imp, every_map, map_every}

-- ascending, all keys at least `n`; a key may come again
abbrev pub Up : {E : Type 0} → (E → ℕ) → ℕ → List E → Type 0
Up key n [] = Unit {0}
Up key n (x ∷ l) = (n ≤ key x) × Up key (key x) l

-- which of two numbers is below the other
pub side : (m n : ℕ) → (m ≤ n) ⊎ (n < m)
side m n = go (leb m n) refl
  where
    go : (b : Bool) → leb m n ≡ b → (m ≤ n) ⊎ (n < m)
    go true e = inl (leb-true m n e)
    go false e = inr (leb-false m n e)

module _ {E : Type 0} (key : E → ℕ) where
  pub has_fresh : (k : ℕ) (l : List E) → has key k l ≡ false → Fresh key k l
  unfolding has
  has_fresh k [] h = tt
  has_fresh k (y ∷ l) h = go (eqb k (key y)) refl h (has_fresh k l)
    where
      go : (b : Bool) → eqb k (key y) ≡ b → ◌≡◌ {A = Bool} (elim b [ true ↦ true | false ↦ has key k l ]) false → (has key k l ≡ false → Fresh key k l) → (k ≢ key y) × Fresh key k l
      go true e q r = absurd (true≢false q)
      go false e q r = (eqb-false k (key y) e, r q)

  pub fresh_has : (k : ℕ) (l : List E) → Fresh key k l → has key k l ≡ false
  unfolding has
  fresh_has k [] h = refl
  fresh_has k (y ∷ l) h = rw (ne_eqb k (key y) h.0, has) (fresh_has k l h.1)

  -- what bounds all keys from below
  pub up_low : (m n : ℕ) (l : List E) → m ≤ n → Up key n l → Up key m l
  up_low m n [] h u = tt
  up_low m n (x ∷ l) h u = (omega (arith, u.0), u.1)

  pub up_every : (n : ℕ) (l : List E) → Up key n l → Every (λ y. n ≤ key y) l
  up_every n [] u = tt
  up_every n (x ∷ l) u = (u.0, up_every n l (up_low n (key x) l u.0 u.1))

  -- entries of one key before those that are not below it
  pub up_append : (c n : ℕ) (k l : List E) → Every (λ y. key y ≡ c) k → n ≤ c → Up key c l → Up key n (k ++ l)
  up_append c n [] l h g u = up_low n c l g u
  up_append c n (y ∷ k) l h g u = (omega (arith, h.0), up_append c (key y) k l h.1 (omega (arith, h.0)) u)

  -- strictly ascending is ascending with no key twice
  pub asc_up : (n : ℕ) (l : List E) → Asc key n l → Up key n l
  asc_up n [] a = tt
  asc_up n (x ∷ l) a = (a.0, up_low (key x) (suc (key x)) l (omega arith) (asc_up (suc (key x)) l a.1))

  pub asc_apart : (n : ℕ) (l : List E) → Asc key n l → Apart key l
  asc_apart n [] a = tt
  asc_apart n (x ∷ l) a = (
    every_imp (λ y h e. omega arith) l (up_every (suc (key x)) l (asc_up (suc (key x)) l a.1)),
    asc_apart (suc (key x)) l a.1,
  )

  pub up_asc : (n : ℕ) (l : List E) → Up key n l → Apart key l → Asc key n l
  up_asc n [] u d = tt
  up_asc n (x ∷ l) u d = (u.0, up_asc (suc (key x)) l (above l d.0 u.1) d.1)
    where
      above : (l : List E) → Fresh key (key x) l → Up key (key x) l → Up key (suc (key x)) l
      above [] f u = tt
      above (y ∷ l) f u = (omega (arith, f.0, u.0), u.1)

-- Keys that are the same are apart alike.
module _ {A B : Type 0} where
  pub apart_map : (key : B → ℕ) (f : A → B) (l : List A) → Apart (λ x. key (f x)) l → Apart key (map f l)
  apart_map key f [] h = tt
  apart_map key f (x ∷ l) h = (every_map _ f l h.0, apart_map key f l h.1)

  pub map_apart : (key : B → ℕ) (f : A → B) (l : List A) → Apart key (map f l) → Apart (λ x. key (f x)) l
  map_apart key f [] h = tt
  map_apart key f (x ∷ l) h = (map_every _ f l h.0, map_apart key f l h.1)

pub apart_same : {A B : Type 0} (f : A → ℕ) (g : B → ℕ) (l : List A) (m : List B) → map f l ≡ map g m → Apart f l → Apart g m
apart_same f g l m e h = map_apart (λ k. k) g m (rw e at (apart_map (λ k. k) f l h))
