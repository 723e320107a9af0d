-- The place of a refusal lies within the bytes that were read, so that code may add the start of a part to it.
-- Assumes nothing.
use mathlib.Core.Path.{◌≡◌, refl}
use mathlib.Core.List.{[], ◌∷◌}
use mathlib.Core.Bool.{Bool, true, false}
use Prim.Native.Nat.{ℕ, ◌+◌, ◌≤◌}
use native.Mathlib.Omega.{arith}
use Rattle.answer.specs.Outcome.{Outcome, taken, refused, Checks, checked, after, moved, shift}

abbrev pub Within : {A : Type 0} → Outcome A → ℕ → Type 0
Within (taken a) m = Unit {0}
Within (refused n p) m = p ≤ m

-- the places of checks, each known to be within once those before it passed
abbrev pub Bounded : Checks → ℕ → Type 0 → Type 0
Bounded [] m P = P
Bounded (c ∷ l) m P = (c.2 ≤ m) × (c.0 ≡ true → Bounded l m P)

pub within_more : {A : Type 0} (r : Outcome A) {m n : ℕ} → n ≤ m → Within r n → Within r m
within_more (taken a) h k = tt
within_more (refused a p) h k = omega arith

pub checked-within : {A : Type 0} (l : Checks) (a : Outcome A) (m : ℕ) → Bounded l m (Within a m) → Within (checked l a) m
checked-within [] a m h = h
checked-within (c ∷ l) a m h = go c.0 refl (checked-within l a m)
  where
    go : (b : Bool) → c.0 ≡ b → (Bounded l m (Within a m) → Within (checked l a) m) → Within (checked ((b, c.1, c.2) ∷ l) a) m
    go true e r = r (h.1 e)
    go false e r = h.0

pub after-within : {A B : Type 0} (r : Outcome A) (f : A → Outcome B) (m : ℕ) → Within r m → ((a : A) → r ≡ taken a → Within (f a) m) → Within (after r f) m
after-within (taken a) f m h k = k a refl
after-within (refused n p) f m h k = h

pub moved-within : {A : Type 0} (k : ℕ) (r : Outcome A) (m n : ℕ) → Within r n → k + n ≤ m → Within (moved k r) m
moved-within k (taken a) m n h i = tt
moved-within k (refused a p) m n h i = omega arith

pub shift-within : (k : ℕ) (r : Outcome ℕ) (m n : ℕ) → Within r n → k + n ≤ m → Within (shift k r) m
shift-within k (taken a) m n h i = tt
shift-within k (refused a p) m n h i = omega arith
