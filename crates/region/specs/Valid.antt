-- What a region is, with no word of how or in which order it is checked.
-- Assumes nothing.
use Rattle.std.specs.Prelude.{◌≡◌, ℕ, ◌+◌, ◌*◌, ◌%◌, ◌^◌, ◌<◌, ◌≤◌, ◌⊎◌, List, length}
use Rattle.wire.specs.Numbers.{le_at}
use Rattle.region.specs.declared.Ring.{Ring}
use Rattle.region.specs.Region.{ahead, count_of, offset_of, capacity_of, end_of, ring_at, queues_most}

-- a ring's header, its descriptor's capacity being cap
pub record Consistent (r : Ring) (cap : ℕ) : Type 0 where
  pub head4 : r.head % 4 ≡ 0
  pub reserve4 : r.reserve % 4 ≡ 0
  pub commit4 : r.commit % 4 ≡ 0
  pub near : ahead r.head r.commit + ahead r.commit r.reserve ≤ cap
  pub same : r.capacity ≡ cap

-- a power of two from 64 to 65,536
pub record Power (cap : ℕ) : Type 0 where
  pub exponent : ℕ
  pub least : 6 ≤ exponent
  pub most : exponent ≤ 16
  pub is : cap ≡ 2 ^ exponent

-- descriptor i and its ring
pub record Queue (b : List ℕ) (i : ℕ) : Type 0 where
  pub four : offset_of b i % 4 ≡ 0
  pub behind : 16 + 16 * count_of b ≤ offset_of b i
  pub inside : end_of b i ≤ length b
  pub capacity : Power (capacity_of b i)
  pub spare : le_at 4 b (28 + 16 * i) ≡ 0
  pub cursors : Consistent (ring_at b (offset_of b i)) (capacity_of b i)

-- two rings with no byte in common
abbrev pub Apart : List ℕ → ℕ → ℕ → Type 0
Apart b i j = (end_of b j ≤ offset_of b i) ⊎ (end_of b i ≤ offset_of b j)

pub record Valid (b : List ℕ) : Type 0 where
  pub long : 16 ≤ length b
  pub magic : le_at 4 b 0 ≡ 0x43504941
  pub version : le_at 4 b 4 ≡ 1
  pub total : le_at 4 b 8 ≡ length b
  pub few : count_of b ≤ queues_most
  pub table : 16 + 16 * count_of b ≤ length b
  pub queues : (i : ℕ) → i < count_of b → Queue b i
  pub apart : (i j : ℕ) → j < i → i < count_of b → Apart b i j
