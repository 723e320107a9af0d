-- The laws of checks: rows that all pass, the first that fails, rows joined, places moved.
-- Assumes nothing.
use mathlib.Core.Path.{◌≡◌, refl, sym, ◌∙◌, ap}
use mathlib.Core.List.{[], ◌∷◌, ◌++◌}
use mathlib.Core.Bool.{Bool, true, false, ◌&&◌}
use Prim.Native.Nat.{ℕ, ◌+◌}
use native.Mathlib.Omega.{arith}
use Rattle.answer.specs.Outcome.{Outcome, taken, refused, Checks, checked, Pass, after, moved}
use Rattle.answer.specs.Calls.{asked}

-- ---- rows that all pass

pub pass-checked : {A : Type 0} (l : Checks) (a : Outcome A) → Pass l → checked l a ≡ a
pass-checked [] a h = refl
pass-checked (c ∷ l) a h = rw (h.0, checked) (pass-checked l a h.1)

pub checked-pass : {A : Type 0} (l : Checks) (a : Outcome A) (u : A) → checked l a ≡ taken u → Pass l × (a ≡ taken u)
checked-pass [] a u e = (tt, e)
checked-pass {A} (c ∷ l) a u e = go c.0 refl e (checked-pass l a u)
  where
    go : (b : Bool) → c.0 ≡ b → ◌≡◌ {A = Outcome A} (elim b [ true ↦ checked l a | false ↦ refused c.1 c.2 ]) (taken u)
        → (checked l a ≡ taken u → Pass l × (a ≡ taken u)) → Pass (c ∷ l) × (a ≡ taken u)
    go true q e r = let k = r e in ((q, k.0), k.1)
    go false q e r = let z : ◌≡◌ {A = ℕ} 0 1 = cc in absurd (omega arith)

-- ---- the first that fails

-- rows that pass, then one that fails, whatever follows
pub fails : {A : Type 0} (l : Checks) (c : Bool × ℕ × ℕ) (more : Checks) (next : Outcome A) → Pass l → c.0 ≡ false
    → checked (l ++ (c ∷ more)) next ≡ refused c.1 c.2
fails [] c more next h k = rw (k, checked)
fails (x ∷ l) c more next h k = rw (h.0, checked) (fails l c more next h.1 k)

-- a refusal is a row that fails after rows that pass, or it comes from behind them all
pub data Refused {A : Type 0} (a : Outcome A) (n p : ℕ) : Checks → Type 0 where
  row : {b : Bool} {l : Checks} → b ≡ false → Refused a n p ((b, n, p) ∷ l)
  later : {c : Bool × ℕ × ℕ} {l : Checks} → c.0 ≡ true → Refused a n p l → Refused a n p (c ∷ l)
  behind : a ≡ refused n p → Refused a n p []

pub checked_refused : {A : Type 0} (l : Checks) (a : Outcome A) (n p : ℕ) → checked l a ≡ refused n p → Refused a n p l
checked_refused [] a n p e = behind e
checked_refused {A} (c ∷ l) a n p e = go c.0 refl e (checked_refused l a n p)
  where
    go : (b : Bool) → c.0 ≡ b → ◌≡◌ {A = Outcome A} (elim b [ true ↦ checked l a | false ↦ refused c.1 c.2 ]) (refused n p)
        → (checked l a ≡ refused n p → Refused a n p l) → Refused a n p (c ∷ l)
    go true q e r = later q (r e)
    go false q e r = let i : c.1 ≡ n = cc in let j : c.2 ≡ p = cc in rw (← i, ← j) (row q)

-- ---- asked one after another

-- the rows that are left when those before them have passed: with what comes behind them they answer as the whole does
pub record Left {A : Type 0} (rows : Checks) (next whole : Outcome A) : Type 0 where
  pub same : checked rows next ≡ whole

pub left_all : {A : Type 0} (rows : Checks) (next : Outcome A) → Left rows next (checked rows next)
left_all rows next = record { same = refl }

module _ {A : Type 0} {b : Bool} {n p : ℕ} {rows : Checks} {next whole : Outcome A} (l : Left ((b, n, p) ∷ rows) next whole) where
  pub left_pass : b ≡ true → Left rows next whole
  left_pass h = record { same = sym (ap (λ (t : Bool). checked ((t, n, p) ∷ rows) next) h) ∙ l.same }

  pub left_fail : b ≡ false → refused n p ≡ whole
  left_fail h = sym (ap (λ (t : Bool). checked ((t, n, p) ∷ rows) next) h) ∙ l.same

-- ---- what comes behind

pub checked-after : {A B : Type 0} (l : Checks) (a : Outcome A) (f : A → Outcome B) → after (checked l a) f ≡ checked l (after a f)
checked-after [] a f = refl
checked-after (c ∷ l) a f = go c.0 (checked-after l a f)
  where
    go : (b : Bool) → after (checked l a) f ≡ checked l (after a f) → after (checked ((b, c.1, c.2) ∷ l) a) f ≡ checked ((b, c.1, c.2) ∷ l) (after a f)
    go true h = h
    go false h = refl

-- a refusal does not depend on what stands behind the checks, if that is taken
pub stops : {A B : Type 0} (l : Checks) (a : A) (x : Outcome B) {n p : ℕ} → checked l (taken a) ≡ refused n p → checked l x ≡ refused n p
stops {A} l a x e = sym (checked-after l (taken a) (λ _. x)) ∙ ap (λ (o : Outcome A). after o (λ _. x)) e

-- checks that are asked in a function of their own
pub checked-asked : {A : Type 0} (l : Checks) (a : Outcome A) → checked l a ≡ after (asked l) (λ _. a)
checked-asked l a = sym (checked-after l (taken tt) (λ _. a))

pub asked_stop : {A : Type 0} (l : Checks) (next : Outcome A) {n p : ℕ} → refused n p ≡ asked l → checked l next ≡ refused n p
asked_stop l next h = stops l tt next (sym h)

pub asked-pass : (l : Checks) → taken tt ≡ asked l → Pass l
asked-pass l h = (checked-pass l (taken tt) tt (sym h)).0

-- two tests in one row
pub and_true : (a b : Bool) → (a && b) ≡ true → (a ≡ true) × (b ≡ true)
and_true true b h = (refl, h)
and_true false b h = let z : ◌≡◌ {A = ℕ} 0 1 = cc in absurd (omega arith)

-- ---- rows joined

pub checked-append : {A : Type 0} (l m : Checks) (a : Outcome A) → checked (l ++ m) a ≡ checked l (checked m a)
checked-append [] m a = refl
checked-append {A} (c ∷ l) m a = go c.0 (checked-append l m a)
  where
    go : (b : Bool) → checked (l ++ m) a ≡ checked l (checked m a)
        → checked ((b, c.1, c.2) ∷ (l ++ m)) a ≡ checked ((b, c.1, c.2) ∷ l) (checked m a)
    go true h = h
    go false h = refl

pub pass-append : (l m : Checks) → Pass l → Pass m → Pass (l ++ m)
pass-append [] m h k = k
pass-append (c ∷ l) m h k = (h.0, pass-append l m h.1 k)

pub append-pass : (l m : Checks) → Pass (l ++ m) → Pass l × Pass m
append-pass [] m h = (tt, h)
append-pass (c ∷ l) m h = let k = append-pass l m h.1 in ((h.0, k.0), k.1)

-- a last row that never fails where those before it pass
pub last_fine : {A : Type 0} (l : Checks) (c : Bool × ℕ × ℕ) (next : Outcome A) → (Pass l → c.0 ≡ true) → checked (l ++ (c ∷ [])) next ≡ checked l next
last_fine [] c next h = rw (h tt, checked)
last_fine (x ∷ l) c next h = go x.0 refl (λ k. last_fine l c next k)
  where
    go : (b : Bool) → x.0 ≡ b → ((Pass l → c.0 ≡ true) → checked (l ++ (c ∷ [])) next ≡ checked l next)
        → checked ((b, x.1, x.2) ∷ (l ++ (c ∷ []))) next ≡ checked ((b, x.1, x.2) ∷ l) next
    go true q r = r (λ k. h (q, k))
    go false q r = refl

-- ---- places moved

-- the same rows, their places counted from k bytes earlier
abbrev pub moved_rows : ℕ → Checks → Checks
moved_rows k [] = []
moved_rows k (c ∷ l) = (c.0, c.1, k + c.2) ∷ moved_rows k l

pub moved-checked : {A : Type 0} (k : ℕ) (l : Checks) (a : Outcome A) → moved k (checked l a) ≡ checked (moved_rows k l) (moved k a)
moved-checked k [] a = refl
moved-checked k (c ∷ l) a = go c.0 (moved-checked k l a)
  where
    go : (b : Bool) → moved k (checked l a) ≡ checked (moved_rows k l) (moved k a)
        → moved k (checked ((b, c.1, c.2) ∷ l) a) ≡ checked ((b, c.1, k + c.2) ∷ moved_rows k l) (moved k a)
    go true h = h
    go false h = refl

pub moved-pass : (k : ℕ) (l : Checks) → Pass l → Pass (moved_rows k l)
moved-pass k [] h = tt
moved-pass k (c ∷ l) h = (h.0, moved-pass k l h.1)
