-- Checks asked of 0, 1, .. in turn: the one law for every walk over an index.
-- Assumes nothing.
use mathlib.Core.Path.{◌≡◌, sym, ◌∙◌}
use Prim.Native.Nat.{ℕ, zero, suc, ◌+◌, ◌≤◌, ◌<◌}
use native.Mathlib.Numerals.{add-one}
use native.Mathlib.Decide.{dec_lt}
use native.Mathlib.Omega.{arith}
use Rattle.answer.specs.Outcome.{Outcome, taken, refused, Checks, checked, Pass, each}
use Rattle.answer.specs.Calls.{asked}
use Rattle.answer.proofs.Checks.{pass-checked, checked-append, pass-append, append-pass, stops}

module _ (f : ℕ → Checks) where
  -- all pass exactly if each does
  pub each-pass : (n : ℕ) → ((i : ℕ) → i < n → Pass (f i)) → Pass (each f n)
  unfolding each
  each-pass zero h = tt
  each-pass (suc n) h = pass-append (each f n) (f n) (each-pass n (λ i l. h i (omega arith))) (h n (omega arith))

  pub pass-each : (n : ℕ) → Pass (each f n) → (i : ℕ) → i < n → Pass (f i)
  unfolding each
  pass-each zero h i l = absurd (omega arith)
  pass-each (suc n) h i l = go (dec_lt i n) (λ k. pass-each n (append-pass (each f n) (f n) h).0 i k)
    where
      go : Dec (i < n) → (i < n → Pass (f i)) → Pass (f i)
      go (yes k) r = r k
      go (no k) r = let e : i ≡ n = omega (arith, k) in rw e (append-pass (each f n) (f n) h).1

  -- a turn of a loop
  pub each_none : Pass (each f 0)
  unfolding each
  each_none = tt

  pub each_next : (i : ℕ) → Pass (each f i) → Pass (f i) → Pass (each f (i + 1))
  unfolding each
  each_next i h k = rw add-one (pass-append (each f i) (f i) h k)

  -- one of them fails after those before it passed
  pub each_stop : {A : Type 0} (i n : ℕ) (next : Outcome A) → i < n → Pass (each f i) → {k p : ℕ} → asked (f i) ≡ refused k p → checked (each f n) next ≡ refused k p
  unfolding each
  each_stop i zero next l h e = absurd (omega arith)
  each_stop {A} i (suc n) next l h {k} {p} e =
      checked-append (each f n) (f n) next ∙ go (dec_lt i n) (λ m. each_stop i n (checked (f n) next) m h e)
    where
      go : Dec (i < n) → (i < n → checked (each f n) (checked (f n) next) ≡ refused k p) → checked (each f n) (checked (f n) next) ≡ refused k p
      go (yes m) r = r m
      go (no m) r =
          let z : i ≡ n = omega (arith, m) in
          pass-checked (each f n) (checked (f n) next) (rw z at h) ∙ stops (f n) tt next (rw z at e)

  -- none of them failed
  pub each-done : (i n : ℕ) → n ≤ i → i ≤ n → Pass (each f i) → taken tt ≡ asked (each f n)
  each-done i n l m h = let z : i ≡ n = omega arith in sym (pass-checked (each f n) (taken tt) (rw z at h))
