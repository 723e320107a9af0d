-- Checks in their order: a refusal is the first that fails, or comes from behind them all; so of a part at a place, and of a reading and what is made of it.
-- Assumes nothing.
use mathlib.Core.Path.{◌≡◌, refl, ap, ◌∙◌}
use mathlib.Core.Logic.{◌↔◌, ◌⊎◌, inl, inr}
use mathlib.Core.Bool.{Bool, true, false}
use mathlib.Core.List.{[], ◌∷◌}
use Prim.Native.Nat.{ℕ}
use Rattle.answer.specs.Outcome.{Outcome, taken, refused, Checks, checked, Pass, after, moved, shift, First, FirstOr, FaultAt}
use Rattle.answer.proofs.Checks.{pass-checked, fails}
use Rattle.answer.proofs.Outcomes.{taken_refused}

-- ---- checks, and what stands behind them

then_to : {A : Type 0} (l : Checks) (o : Outcome A) (n p : ℕ) → checked l o ≡ refused n p → FirstOr l n p (o ≡ refused n p)
then_to [] o n p e = inr (tt, e)
then_to {A} (c ∷ l) o n p e = go c.0 refl e (then_to l o n p)
  where
    later : c.0 ≡ true → FirstOr l n p (o ≡ refused n p) → FirstOr (c ∷ l) n p (o ≡ refused n p)
    later q (inl f) = inl (record { before = c ∷ f.before; behind = f.behind; split = ap (λ (m : Checks). c ∷ m) f.split; passed = (q, f.passed) })
    later q (inr (k, h)) = inr ((q, k), h)

    go : (b : Bool) → c.0 ≡ b → ◌≡◌ {A = Outcome A} (elim b [ true ↦ checked l o | false ↦ refused c.1 c.2 ]) (refused n p)
        → (checked l o ≡ refused n p → FirstOr l n p (o ≡ refused n p)) → FirstOr (c ∷ l) n p (o ≡ refused n p)
    go true q e r = later q (r e)
    go false q e r =
        let i : c.1 ≡ n = cc in
        let j : c.2 ≡ p = cc in
        inl (record { before = []; behind = l; split = ap (λ (d : Bool × ℕ × ℕ). d ∷ l) (λ k. (q k, i k, j k)); passed = tt })

then_from : {A : Type 0} (l : Checks) (o : Outcome A) (n p : ℕ) → FirstOr l n p (o ≡ refused n p) → checked l o ≡ refused n p
then_from l o n p (inl f) = ap (λ (m : Checks). checked m o) f.split ∙ fails f.before (false, n, p) f.behind o f.passed refl
then_from l o n p (inr (k, e)) = pass-checked l o k ∙ e

pub then-first : {A : Type 0} (l : Checks) (o : Outcome A) (n p : ℕ) → (checked l o ≡ refused n p) ↔ FirstOr l n p (o ≡ refused n p)
then-first l o n p = (then_to l o n p, then_from l o n p)

-- what stands behind them said in other words
pub or_else : {X Y : Type 0} (l : Checks) (n p : ℕ) → (Pass l → X → Y) → FirstOr l n p X → FirstOr l n p Y
or_else l n p h (inl f) = inl f
or_else l n p h (inr (k, x)) = inr (k, h k x)

-- ---- checks alone

pub checked-first : {A : Type 0} (l : Checks) (a : A) (n p : ℕ) → (checked l (taken a) ≡ refused n p) ↔ First l n p
checked-first l a n p = ((λ e. only (then_to l (taken a) n p e)), λ f. then_from l (taken a) n p (inl f))
  where
    only : FirstOr l n p (taken a ≡ refused n p) → First l n p
    only (inl f) = f
    only (inr (k, h)) = absurd (taken_refused h)

-- ---- a part at a place

pub moved-first : {A : Type 0} (k : ℕ) (o : Outcome A) (n p : ℕ) → (moved k o ≡ refused n p) ↔ FaultAt k o n p
moved-first k (taken a) n p = ((λ e. absurd (taken_refused e)), λ (q, e, i). absurd (taken_refused e))
moved-first k (refused m q) n p = ((λ e. (q, cc, cc)), λ (r, e, i). cc)

pub shift-first : (k : ℕ) (o : Outcome ℕ) (n p : ℕ) → (shift k o ≡ refused n p) ↔ FaultAt k o n p
shift-first k (taken a) n p = ((λ e. absurd (taken_refused e)), λ (q, e, i). absurd (taken_refused e))
shift-first k (refused m q) n p = ((λ e. (q, cc, cc)), λ (r, e, i). cc)

-- ---- a reading, and what comes behind it

pub after_refused : {A B : Type 0} (r : Outcome A) (f : A → Outcome B) (n p : ℕ) → after r f ≡ refused n p → (r ≡ refused n p) ⊎ ((a : A) × (r ≡ taken a) × (f a ≡ refused n p))
after_refused (taken a) f n p e = inr (a, refl, e)
after_refused (refused m q) f n p e = inl (cc)

-- nothing behind it refuses
pub after-only : {A B : Type 0} (r : Outcome A) (f : A → B) (n p : ℕ) → (after r (λ a. taken (f a)) ≡ refused n p) ↔ (r ≡ refused n p)
after-only {A} (taken a) f n p = ((λ e. absurd (taken_refused e)), λ e. absurd (taken_refused e))
after-only (refused m q) f n p = ((λ e. cc), λ e. cc)
