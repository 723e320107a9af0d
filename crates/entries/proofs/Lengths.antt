-- How long entries are by their lengths alone: a fixed part, then a length and as many bytes, once or twice, no more than there are.
-- Assumes nothing.
use mathlib.Core.Path.{◌≡◌, sym, ◌∙◌, ap}
use mathlib.Core.List.{List}
use Prim.Native.Nat.{ℕ, ◌+◌, ◌≤◌, min}
use native.Mathlib.Decide.{dec_le}
use native.Mathlib.Omega.{arith}
use lib.ListN.{length, take, drop, length-take}
use Rattle.answer.specs.Outcome.{Checks}
use Rattle.wire.specs.Numbers.{le_at}
use Rattle.wire.proofs.Numbers.{le_at_here, le_at-drop}
use Rattle.format.specs.Format.{Asks, block, sized, pair, also, span}

module _ (b : List ℕ) where
  -- n bytes
  pub block_length : (n : ℕ) (ask : Asks) {r : ℕ} → r ≡ min n (length b) → r ≡ length (take (span (block n ask) b) b)
  unfolding span
  block_length n ask q = q ∙ sym (length-take n b)

  -- k bytes, a length of w bytes, and as many bytes
  module _ (k w : ℕ) (ask : Asks) (checks : ℕ → Checks) (more : Asks) where
    pub one-length : {n r : ℕ} → n ≡ le_at w b k → r ≡ min (k + w + n) (length b) → r ≡ length (take (span (pair (block k ask) (sized w checks more)) b) b)
    unfolding span
    one-length {n} p q = q ∙ sym (rw (le_at_here w b k, ← p) (length-take (k + (w + n)) b ∙ ap (λ (m : ℕ). min m (length b)) (omega arith)))

  -- four bytes, a length of four bytes and as many bytes, a length of w bytes and as many bytes
  module _ (w : ℕ) (ask : Asks) (first : ℕ → Checks) (one : Asks) (second : ℕ → Checks) (two : Asks) where
    pub two_lengths : {n e m r : ℕ} → n ≡ le_at 4 b 4 → e ≡ min (8 + n) (length b) → m ≡ le_at w b e → r ≡ min (e + w + m) (length b)
        → r ≡ length (take (span (pair (block 4 ask) (pair (sized 4 first one) (sized w second two))) b) b)
    unfolding span
    two_lengths {n} {e} {m} {r} p q u v =
        let f : le_at 4 (drop 4 b) 0 ≡ n = le_at_here 4 b 4 ∙ sym p in
        let g : le_at w (drop (4 + n) (drop 4 b)) 0 ≡ le_at w b (8 + n) = le_at_here w (drop 4 b) (4 + n) ∙ le_at-drop w b 4 (4 + n) ∙ ap (le_at w b) (omega arith) in
        v ∙ sym (rw (f, g) (length-take (4 + (4 + n + (w + le_at w b (8 + n)))) b ∙ go (dec_le (8 + n) (length b))))
      where
        go : Dec (8 + n ≤ length b) → min (4 + (4 + n + (w + le_at w b (8 + n)))) (length b) ≡ min (e + w + m) (length b)
        go (yes h) = let i : 8 + n ≡ e = omega arith in omega (arith, ap (le_at w b) i)
        go (no h) = omega arith

    -- more that is asked of the first changes no length
    pub two_lengths_also : (more : Asks) {n e m r : ℕ} → n ≡ le_at 4 b 4 → e ≡ min (8 + n) (length b) → m ≡ le_at w b e → r ≡ min (e + w + m) (length b)
        → r ≡ length (take (span (pair (block 4 ask) (pair (also (sized 4 first one) more) (sized w second two))) b) b)
    unfolding span
    two_lengths_also more p q u v = two_lengths p q u v
