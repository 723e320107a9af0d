-- The bytes of a list after others were written over a part of it: those before the part, those behind it, and the part itself.
-- Assumes nothing.
use mathlib.Core.Path.{◌≡◌, refl, sym, ap, ◌∙◌}
use mathlib.Core.List.{List, ◌++◌, append_assoc}
use Prim.Native.Nat.{ℕ, ◌+◌, ◌-◌, ◌≤◌, ◌<◌}
use native.Mathlib.Omega.{arith}
use lib.ListN.{length, take, drop, get_or, length-append, get_or-append}
use lib.Seq.{length-take-le, take_at, drop_at, get_or-take, get_or-drop, get_or-append-add}
use Rattle.wire.specs.Parts.{splice}

module _ (at : ℕ) (v s : List ℕ) (h : at + length v ≤ length s) where
  -- a byte before the field
  pub before : (k : ℕ) → k < at → get_or (splice at v s) k 0 ≡ get_or s k 0
  unfolding splice
  before k g =
      let n : length (take at s) ≡ at = length-take-le at s (omega arith) in
      ap (λ (l : List ℕ). get_or l k 0) (append_assoc (take at s) v (drop (at + length v) s)) ∙ get_or-append (take at s) (v ++ drop (at + length v) s) 0 k (omega arith) ∙ get_or-take at s k 0 g

  -- a byte behind it
  pub behind : (k : ℕ) → at + length v ≤ k → get_or (splice at v s) k 0 ≡ get_or s k 0
  unfolding splice
  behind k g =
      let j = k - (at + length v) in
      let n : length (take at s ++ v) + j ≡ k = ap (λ (m : ℕ). m + j) (length-append (take at s) v ∙ ap (λ (m : ℕ). m + length v) (length-take-le at s (omega arith))) ∙ omega arith in
      let m : at + length v + j ≡ k = omega arith in
      ap (λ (i : ℕ). get_or (take at s ++ v ++ drop (at + length v) s) i 0) (sym n) ∙ get_or-append-add (take at s ++ v) (drop (at + length v) s) j 0 ∙ get_or-drop (at + length v) s j 0 ∙ ap (λ (i : ℕ). get_or s i 0) m

  -- the field itself
  pub read_back : take (length v) (drop at (splice at v s)) ≡ v
  unfolding splice
  read_back =
      let n : length (take at s) ≡ at = length-take-le at s (omega arith) in
      ap (λ (l : List ℕ). take (length v) (drop at l)) (append_assoc (take at s) v (drop (at + length v) s)) ∙ ap (λ (l : List ℕ). take (length v) l) (drop_at (take at s) (v ++ drop (at + length v) s) at n) ∙ take_at v (drop (at + length v) s) (length v) refl
