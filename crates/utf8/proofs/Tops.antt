-- The highest byte of a whole from those of two parts that cover it.
-- Assumes nothing.
use mathlib.Core.Path.{◌≡◌, ◌∙◌, ap}
use mathlib.Core.List.{List}
use Prim.Native.Nat.{ℕ, ◌+◌, ◌-◌, ◌≤◌, ◌<◌}
use native.Mathlib.Decide.{dec_lt}
use native.Mathlib.Omega.{arith}
use lib.ListN.{length, get_or, take, drop, length-drop}
use lib.Seq.{take_all, get_or-take, get_or-drop}
use Rattle.utf8.specs.Steps.{AtMost}

-- the first m bytes, and the last w
module _ (s : List ℕ) (m w : ℕ) (h : w ≤ length s) (k : length s ≤ m + w) {a b r : ℕ} where
  pub covered : AtMost (take m s) a → AtMost (take (length s - (length s - w)) (drop (length s - w) s)) b → (a ≤ r) × (b ≤ r) → AtMost s r
  covered p q g n = go (dec_lt n m)
    where
      go : Dec (n < m) → get_or s n 0 ≤ r
      go (yes i) = omega (arith, p n, get_or-take m s n 0 i, g.0)
      go (no i) =
          let e : length s - w + (n - (length s - w)) ≡ n = omega arith in
          let t : take (length s - (length s - w)) (drop (length s - w) s) ≡ drop (length s - w) s = take_all (length s - (length s - w)) (drop (length s - w) s) (omega (arith, length-drop (length s - w) s)) in
          let d : get_or (drop (length s - w) s) (n - (length s - w)) 0 ≡ get_or s n 0 = get_or-drop (length s - w) s (n - (length s - w)) 0 ∙ ap (λ (j : ℕ). get_or s j 0) e in
          omega (arith, ap (λ (l : List ℕ). get_or l (n - (length s - w)) 0) t, d, q (n - (length s - w)), g.1)
