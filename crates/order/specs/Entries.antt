-- Entries that stand one after another in a list of bytes, each of which says its own length.
-- Assumes nothing.
use Rattle.std.specs.Prelude.{List, [], ◌∷◌, ℕ, zero, suc, ◌+◌, length, take, drop}
use Rattle.order.specs.Keyed.{flat}

-- the bytes of the entries, one after another
abbrev pub join : List (List ℕ) → List ℕ
join = flat (λ e. e)

-- where they start, the first of them at `at`
abbrev pub starts_from : ℕ → List (List ℕ) → List ℕ
starts_from at [] = []
starts_from at (e ∷ l) = at ∷ starts_from (at + length e) l

-- In what follows `width b` is the length of the entry that `b` begins with.
module _ (width : List ℕ → ℕ) where
  -- that entry
  abbrev pub first : List ℕ → List ℕ
  first b = take (width b) b

  -- `n` entries from the front of `b`
  unfoldable pub split : ℕ → List ℕ → List (List ℕ)
  split zero b = []
  split (suc n) b = first b ∷ split n (drop (width b) b)
