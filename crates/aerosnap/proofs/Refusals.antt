-- The number of every refusal: what holds of the numbers of the checks holds of that of the outcome.
-- Assumes nothing.
use mathlib.Core.List.{[], ◌∷◌}
use mathlib.Core.Bool.{Bool, true, false}
use Prim.Native.Nat.{ℕ}
use Rattle.answer.specs.Outcome.{Outcome, taken, refused, Checks, checked, after}
use Rattle.order.specs.Keyed.{Every}

module _ (P : ℕ → Type 0) where
  -- an outcome that is taken, or refused with a number of which P holds
  abbrev pub Refuses : {A : Type 0} → Outcome A → Type 0
  Refuses (taken a) = Unit {0}
  Refuses (refused n p) = P n

  pub checked_refuses : {A : Type 0} (l : Checks) (a : Outcome A) → Every (λ c. P c.1) l → Refuses a → Refuses (checked l a)
  checked_refuses [] a h k = k
  checked_refuses (c ∷ l) a h k = go c.0 (checked_refuses l a h.1 k)
    where
      go : (b : Bool) → Refuses (checked l a) → Refuses (checked ((b, c.1, c.2) ∷ l) a)
      go true r = r
      go false r = h.0

  pub after_refuses : {A B : Type 0} (r : Outcome A) (f : A → Outcome B) → Refuses r → ((a : A) → Refuses (f a)) → Refuses (after r f)
  after_refuses (taken a) f h k = k a
  after_refuses (refused n p) f h k = h

pub refuses_more : (P Q : ℕ → Type 0) → ((n : ℕ) → P n → Q n) → {A : Type 0} (o : Outcome A) → Refuses P o → Refuses Q o
refuses_more P Q h (taken a) k = tt
refuses_more P Q h (refused n p) k = h n k
