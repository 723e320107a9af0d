-- For contracts of private functions: what the code of the calls asks once the region is found sound.
-- Assumes nothing.
use Rattle.std.specs.Prelude.{◌≡◌, ℕ, ◌+◌, ◌%◌, ◌≤◌, List, length}
use Rattle.region.specs.declared.Ring.{Ring}
use Rattle.answer.specs.Outcome.{Outcome, taken, checked}
use Rattle.region.specs.Region.{offset_of, ring_at, queue_checks}
use Rattle.region.specs.Valid.{Consistent}
use Rattle.rings.specs.Records.{need}

-- the ring of header r stands whole at o of the region
pub record RingStands (b : List ℕ) (o : ℕ) (r : Ring) : Type 0 where
  pub is : r ≡ ring_at b o
  pub fits : o + 16 + r.capacity ≤ length b
  pub cursors : Consistent r r.capacity

-- the ring that is asked for: where it stands, and its header
abbrev pub found : ℕ → Ring → Outcome (ℕ × Ring)
found o r = taken (o, r)

abbrev pub ring_call : List ℕ → ℕ → Outcome (ℕ × Ring)
ring_call b q = checked (queue_checks b q) (found (offset_of b q) (ring_at b (offset_of b q)))

-- a record of n payload bytes at the cursor start has room in the ring
pub record Fillable (b : List ℕ) (o cap start n : ℕ) : Type 0 where
  pub fits : o + 16 + cap ≤ length b
  pub four : start % 4 ≡ 0
  pub room : need cap start n ≤ cap
