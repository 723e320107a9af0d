-- Laws of `join`, `split` and `parts`: entries that say their own length are read back from their bytes.
-- Assumes nothing.
use mathlib.Core.Path.{◌≡◌, refl, sym, ◌∙◌, ap}
use mathlib.Core.List.{List, [], ◌∷◌, ◌++◌, append_assoc}
use Prim.Native.Nat.{ℕ, zero, suc, ◌+◌, ◌≤◌}
use native.Mathlib.Omega.{arith}
use lib.ListN.{length, drop}
use lib.Seq.{take-append_seam, drop-append_seam}
use Rattle.order.specs.Keyed.{weigh, Every}
use Rattle.order.specs.Entries.{join, first, split}
use Rattle.order.proofs.Folds.{flat_append, length-flat}

-- the entries up to the end of `b`, at most `n`, where `width b` is the length of the entry that `b` begins with
unfoldable pub parts : (List ℕ → ℕ) → ℕ → List ℕ → List (List ℕ)
parts width zero b = []
parts width (suc n) [] = []
parts width (suc n) (c ∷ b) = first width (c ∷ b) ∷ parts width n (drop (width (c ∷ b)) (c ∷ b))

-- `width` sees nothing past an entry
pub record SelfDelimiting (width : List ℕ → ℕ) (Is : List ℕ → Type 0) : Type 0 where
  pub measured : (e rest : List ℕ) → Is e → width (e ++ rest) ≡ length e

pub join-append : (l m : List (List ℕ)) → join (l ++ m) ≡ join l ++ join m
join-append = flat_append (λ e. e)

pub length-join : (l : List (List ℕ)) → length (join l) ≡ weigh length l
length-join = length-flat (λ e. e)

pub length-split : (width : List ℕ → ℕ) (n : ℕ) (b : List ℕ) → length (split width n b) ≡ n
unfolding split
length-split width zero b = refl
length-split width (suc n) b = ap suc (length-split width n (drop (width b) b))

module _ {width : List ℕ → ℕ} {Is : List ℕ → Type 0} (K : SelfDelimiting width Is) where
  pub first-append : (e rest : List ℕ) → Is e → first width (e ++ rest) ≡ e
  first-append e rest h = rw (K.measured e rest h) (take-append_seam e rest)

  pub drop-width : (e rest : List ℕ) → Is e → drop (width (e ++ rest)) (e ++ rest) ≡ rest
  drop-width e rest h = rw (K.measured e rest h) (drop-append_seam e rest)

  pub split-join : (l : List (List ℕ)) (rest : List ℕ) → Every Is l → split width (length l) (join l ++ rest) ≡ l
  unfolding split
  split-join [] rest h = refl
  split-join (e ∷ l) rest h = rw append_assoc (cc (first-append e (join l ++ rest) h.0, drop-width e (join l ++ rest) h.0, split-join l rest h.1))

  -- as many entries with the same bytes are the same
  pub join_inj_count : (l m : List (List ℕ)) → Every Is l → Every Is m → length l ≡ length m → join l ≡ join m → l ≡ m
  join_inj_count l m h k n e = cc (split-join l [] h, split-join m [] k)

  module _ (some : (e : List ℕ) → Is e → 1 ≤ length e) where
    pub parts_join : (l : List (List ℕ)) (n : ℕ) → Every Is l → length l ≤ n → parts width n (join l) ≡ l
    unfolding parts
    parts_join [] zero h q = refl
    parts_join [] (suc n) h q = refl
    parts_join (e ∷ l) zero h q = absurd (omega arith)
    parts_join ([] ∷ l) (suc n) h q = absurd (omega (arith, some [] h.0))
    parts_join ((c ∷ e) ∷ l) (suc n) h q = cc (first-append (c ∷ e) (join l) h.0, drop-width (c ∷ e) (join l) h.0, parts_join l n h.1 (omega arith))

    -- entries that are not empty and have the same bytes are the same
    pub join_inj : (l m : List (List ℕ)) → Every Is l → Every Is m → join l ≡ join m → l ≡ m
    join_inj l m h k e =
        let n : ℕ = length l + length m in
        sym (parts_join l n h (omega arith)) ∙ ap (parts width n) e ∙ parts_join m n k (omega arith)
