-- Loops that fill an array, or write one over a state: once for every kind of element and every number of them.
-- Assumes nothing.
use mathlib.Core.Path.{◌≡◌, refl, ap, ◌∙◌}
use mathlib.Core.List.{List, [], ◌∷◌, ◌++◌}
use Prim.Native.Nat.{ℕ, ◌+◌, ◌<◌}
use native.Mathlib.Numerals.{add-one}
use lib.ListN.{length, take, set}
use lib.Seq.{take-suc-set}
use Rattle.registers.specs.Registers.{gather, in_turn}

-- the first i elements of an array are f's
module _ {A : Type 0} (f : ℕ → A) where
  pub filled_none : (a : List A) → take 0 a ≡ gather f 0
  unfolding gather
  filled_none a = refl

  pub filled_next : (i : ℕ) (a : List A) (x : A) → take i a ≡ gather f i → i < length a → x ≡ f i → take (i + 1) (set a i x) ≡ gather f (i + 1)
  unfolding gather
  filled_next i a x v h g = rw add-one (take-suc-set a i x h ∙ ap (λ (m : List A). m ++ (x ∷ [])) v ∙ ap (λ (y : A). gather f i ++ (y ∷ [])) g)

-- i elements are written over a state, by f
module _ (f : ℕ → List ℕ → List ℕ) where
  pub turned_none : (s : List ℕ) → s ≡ in_turn f 0 s
  unfolding in_turn
  turned_none s = refl

  pub turned_next : (i : ℕ) (old : List ℕ) {now new : List ℕ} → now ≡ in_turn f i old → new ≡ f i now → new ≡ in_turn f (i + 1) old
  unfolding in_turn
  turned_next i old v g = rw add-one (g ∙ ap (f i) v)
