-- Fixed bytes compared: byte by byte in the definition, as one number in the code.
-- Assumes nothing.
use mathlib.Core.Path.{◌≡◌, refl, sym, ◌∙◌, ap}
use mathlib.Core.Bool.{Bool, true, false, ◌&&◌}
use mathlib.Core.List.{List, [], ◌∷◌, ◌++◌}
use Prim.Native.Nat.{ℕ, zero, suc, ◌+◌, ◌≤◌, ◌<◌}
use native.Mathlib.Omega.{arith}
use lib.Dec.{eqb}
use borrow.Author.Tests.{eq-eqb, eqb-true, eqb-false}
use lib.ListN.{length, take, drop, take-append-drop}
use lib.Seq.{drop-drop}
use Rattle.wire.specs.Numbers.{Bytes, le, le_at, bytes_of}
use Rattle.wire.specs.Parts.{same}
use Rattle.wire.proofs.Numbers.{bytes_of-le, bytes_of-le_at}

pub same_true : (l m : List ℕ) → same l m ≡ true → l ≡ m
same_true [] [] h = refl
same_true [] (y ∷ m) h = let z : ◌≡◌ {A = ℕ} 0 1 = cc in absurd (omega arith)
same_true (x ∷ l) [] h = let z : ◌≡◌ {A = ℕ} 0 1 = cc in absurd (omega arith)
same_true (x ∷ l) (y ∷ m) h = go (eqb x y) refl h (same_true l m)
  where
    go : (b : Bool) → eqb x y ≡ b → (b && same l m) ≡ true → (same l m ≡ true → l ≡ m) → x ∷ l ≡ y ∷ m
    go true e q r = cc (eqb-true x y e, r q)
    go false e q r = let z : ◌≡◌ {A = ℕ} 0 1 = cc in absurd (omega arith)

pub same_refl : (l : List ℕ) → same l l ≡ true
same_refl [] = refl
same_refl (x ∷ l) = rw (eq-eqb x x refl) (same_refl l)

-- fixed bytes, one by one
abbrev pub Below : List ℕ → Type 0
Below [] = Unit {0}
Below (x ∷ l) = (x < 256) × Below l

below_bytes : (l : List ℕ) → Below l → Bytes l
below_bytes [] h i = omega arith
below_bytes (x ∷ l) h zero = h.0
below_bytes (x ∷ l) h (suc i) = below_bytes l h.1 i

-- bytes at a place are fixed ones exactly if the number that is read there is the one that those say
pub same_number : (n : ℕ) (s : List ℕ) (at : ℕ) (x : List ℕ) → Bytes s → Below x → at + n ≤ length s → length x ≡ n → {a : ℕ} → a ≡ le_at n s at
    → same (take n (drop at s)) x ≡ eqb a (le x)
unfolding le_at
same_number n s at x b c h l a = go (eqb (le (take n (drop at s))) (le x)) refl (same (take n (drop at s)) x) refl ∙ ap (λ (y : ℕ). eqb y (le x)) (sym a)
  where
    go : (t : Bool) → eqb (le (take n (drop at s))) (le x) ≡ t → (u : Bool) → same (take n (drop at s)) x ≡ u → u ≡ t
    go true p u q =
        let e : take n (drop at s) ≡ x =
        sym (bytes_of-le_at n s at b h) ∙ ap (bytes_of n) (eqb-true _ _ p) ∙ ap (λ (k : ℕ). bytes_of k (le x)) (sym l) ∙ bytes_of-le x (below_bytes x c) in
        sym q ∙ ap (λ (y : List ℕ). same y x) e ∙ same_refl x
    go false p true q = absurd (eqb-false _ _ p (ap le (same_true _ _ q)))
    go false p false q = refl

-- what stands at a place, and what follows it
pub peeled : (n at : ℕ) (s x : List ℕ) → take n (drop at s) ≡ x → drop at s ≡ x ++ drop (at + n) s
peeled n at s x h = sym (take-append-drop n (drop at s)) ∙ cc (h, drop-drop n at s)
