-- For contracts of private functions: what the walk over the queues of a region knows.
-- Assumes nothing.
use Rattle.std.specs.Prelude.{ℕ, ◌+◌, ◌*◌, ◌<◌, ◌≤◌, ◌⊎◌, List, length}
use Rattle.region.specs.Region.{count_of, offset_of, end_of}
use Rattle.region.specs.Valid.{Queue, Apart}

-- no ring before the i-th ends behind top
abbrev pub Below : List ℕ → ℕ → ℕ → Type 0
Below b i top = (j : ℕ) → j < i → end_of b j ≤ top

-- ring j, or each ring before the i-th, has no byte from `from` up to end
abbrev pub Beside : List ℕ → ℕ → ℕ → ℕ → Type 0
Beside b j from end = (end_of b j ≤ from) ⊎ (end ≤ offset_of b j)

abbrev pub Clear : List ℕ → ℕ → ℕ → ℕ → Type 0
Clear b i from end = (j : ℕ) → j < i → Beside b j from end

-- descriptor i is there; the descriptors and the rings before the i-th have ended by top
pub record Reached (b : List ℕ) (i top : ℕ) : Type 0 where
  pub there : 32 + 16 * i ≤ length b
  pub behind : 16 + 16 * count_of b ≤ top
  pub below : Below b i top

-- queue i is right, its ring meets no earlier one, and it too has ended by end
pub record Further (b : List ℕ) (i top end : ℕ) : Type 0 where
  pub queue : Queue b i
  pub clear : Clear b i (offset_of b i) (end_of b i)
  pub covers : (top ≤ end) × (end_of b i ≤ end)

-- the first n queues are right, and no two of their rings have a byte in common
pub record Right (b : List ℕ) (n : ℕ) : Type 0 where
  pub queues : (i : ℕ) → i < n → Queue b i
  pub apart : (i j : ℕ) → j < i → i < n → Apart b i j
