-- A register that starts behind the end of a state reads as 0 and is not written, wherever it starts: at the end too.
-- Assumes nothing.
use mathlib.Core.Path.{◌≡◌, sym, ap, ◌∙◌}
use mathlib.Core.List.{List}
use Prim.Native.Nat.{ℕ, ◌≤◌, min}
use native.Mathlib.Decide.{dec_le}
use native.Mathlib.Omega.{arith}
use lib.ListN.{length}
use Rattle.wire.specs.Numbers.{le_at, bytes_of}
use Rattle.wire.specs.Parts.{put}
use Rattle.wire.proofs.Numbers.{le_at_past, length-bytes_of}
use Rattle.wire.proofs.Parts.{put_not}

pub read_short : (s : List ℕ) (k : ℕ) {r : ℕ} → r ≡ le_at 8 s (min k (length s)) → r ≡ le_at 8 s k
read_short s k h = h ∙ go (dec_le k (length s))
  where
    go : Dec (k ≤ length s) → le_at 8 s (min k (length s)) ≡ le_at 8 s k
    go (yes l) = let e : min k (length s) ≡ k = omega arith in ap (le_at 8 s) e
    go (no l) = le_at_past 8 s (min k (length s)) (omega arith) ∙ sym (le_at_past 8 s k (omega arith))

pub put_short : (s : List ℕ) (k x : ℕ) {new : List ℕ} → new ≡ put (min k (length s)) (bytes_of 8 x) s → new ≡ put k (bytes_of 8 x) s
put_short s k x h = h ∙ go (dec_le k (length s))
  where
    go : Dec (k ≤ length s) → put (min k (length s)) (bytes_of 8 x) s ≡ put k (bytes_of 8 x) s
    go (yes l) = let e : min k (length s) ≡ k = omega arith in ap (λ (j : ℕ). put j (bytes_of 8 x) s) e
    go (no l) = put_not (min k (length s)) (bytes_of 8 x) s (omega (arith, length-bytes_of 8 x)) ∙ sym (put_not k (bytes_of 8 x) s (omega (arith, length-bytes_of 8 x)))
