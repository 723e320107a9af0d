-- The calls on a queue of a region: what each is refused for, and what it stores and answers.
-- b are the region's bytes, o is where a ring's header starts; its data starts 16 bytes later.
-- Assumes nothing.
use Rattle.std.specs.Prelude.{◌≡◌, Result, Ok, Err, ℕ, ◌+◌, ◌*◌, ◌%◌, cond, List, [], ◌∷◌, length, ◌==◌, nat_le, nat_lt}
use Rattle.answer.specs.declared.Answer.{Answer}
use Rattle.answer.specs.declared.Fault.{Fault}
use Rattle.answer.specs.Calls.{fault_of}
use Rattle.answer.specs.Numbers.{BIG, FULL, EMPTY, RECORD, TURN}
use Rattle.answer.specs.Outcome.{Outcome, taken, refused, Checks, checked}
use Rattle.wire.specs.Numbers.{le_at, bytes_of}
use Rattle.wire.specs.Parts.{splice}
use Rattle.region.specs.declared.Ring.{Ring}
use Rattle.region.specs.Region.{ahead, offset_of, ring_at, queue_checks}
use Rattle.rings.specs.declared.Pair.{Pair}
use Rattle.rings.specs.declared.Record.{Record}
use Rattle.rings.specs.Records.{advanced, record_size, rest, skip, need, marker, ring_record}

-- ---- what a call does to its region

-- bytes stored, each run of them at its place, one after another
abbrev pub Stores : Type 0
Stores = List (ℕ × List ℕ)

-- the region after them, and how many bytes they are
abbrev pub stored : Stores → List ℕ → List ℕ
stored [] b = b
stored (s ∷ l) b = stored l (splice s.0 s.1 b)

abbrev pub count : Stores → ℕ
count [] = 0
count (s ∷ l) = length s.1 + count l

-- the region after a call that answers an A beside: a refusal leaves all as it was
abbrev pub region_after : {A : Type 0} → Outcome (Stores × A) → List ℕ → List ℕ
region_after (taken x) b = stored x.0 b
region_after (refused n p) b = b

-- its number and place: the bytes stored, or the refusal's; and the numbers beside them, 0 in a refusal
abbrev pub as_answer : Outcome (Stores × Unit {0}) → Answer
as_answer (taken x) = record { number = 0; place = count x.0 }
as_answer (refused n p) = record { number = n; place = p }

abbrev pub as_pair : Outcome (Stores × (ℕ × ℕ)) → Pair
as_pair (taken x) = record { number = 0; place = count x.0; start = x.1.0; end = x.1.1 }
as_pair (refused n p) = record { number = n; place = p; start = 0; end = 0 }

abbrev pub as_record : Outcome (Stores × (ℕ × ℕ)) → Record
as_record (taken x) = record { number = 0; place = count x.0; payload_place = x.1.0; payload_length = x.1.1 }
as_record (refused n p) = record { number = n; place = p; payload_place = 0; payload_length = 0 }

-- the same of what the code has before it answers: what is taken, or a fault
abbrev pub pair_of : Result Pair Fault → Pair
pair_of (Ok x) = x
pair_of (Err f) = as_pair (fault_of f)

abbrev pub record_answer : Result Record Fault → Record
record_answer (Ok x) = x
record_answer (Err f) = as_record (fault_of f)

-- the promise of a call: the answer r shows its outcome o, and the region that held `old` holds `new`
pub record Leaves {A R : Type 0} (shows : Outcome (Stores × A) → R) (o : Outcome (Stores × A)) (old : List ℕ) (r : R) (new : List ℕ) : Type 0 where
  pub answers : r ≡ shows o
  pub leaves : new ≡ region_after o old

-- the region's own faults first, then the call on the ring of the queue that is asked for
abbrev pub on_queue : {A : Type 0} → List ℕ → ℕ → (ℕ → Outcome A) → Outcome A
on_queue b q call = checked (queue_checks b q) (call (offset_of b q))

-- ---- reserve: room for a record of n payload bytes, as a start and an end

abbrev pub reserve_checks : Ring → ℕ → Checks
reserve_checks r n =
    (nat_le (2 * record_size n) r.capacity, BIG, 0)
    ∷ (nat_le (ahead r.head r.reserve + need r.capacity r.reserve n) r.capacity, FULL, 0)
    ∷ []

abbrev pub reserve_in : List ℕ → ℕ → ℕ → Outcome (Stores × (ℕ × ℕ))
reserve_in b o n =
    let r : Ring = ring_at b o in
    let end : ℕ = advanced r.reserve (need r.capacity r.reserve n) in
    checked (reserve_checks r n) (taken ((o + 4, bytes_of 4 end) ∷ [], (r.reserve, end)))

unfoldable pub reserve_call : List ℕ → ℕ → ℕ → Outcome (Stores × (ℕ × ℕ))
reserve_call b q n = on_queue b q (λ o. reserve_in b o n)

-- ---- fill: the payload m into a pair within the reserved bytes, with room for exactly that record

abbrev pub fill_checks : Ring → ℕ → ℕ → ℕ → Checks
fill_checks r start end n =
    ((start % 4 == 0), TURN, 0)
    ∷ ((end % 4 == 0), TURN, 0)
    ∷ (nat_le (ahead r.commit start + ahead start end) (ahead r.commit r.reserve), TURN, 0)
    ∷ ((ahead start end == need r.capacity start n), TURN, 0)
    ∷ []

-- the marker of a skip, if there is one, and the record
unfoldable pub fill_stores : ℕ → ℕ → ℕ → List ℕ → Stores
fill_stores o cap start m =
    let s : ℕ = skip cap start (length m) in
    let it : ℕ × List ℕ = (o + 16 + (start + s) % cap, ring_record m) in
    cond (s == 0) (it ∷ []) ((o + 16 + start % cap, bytes_of 4 marker) ∷ (it ∷ []))

abbrev pub fill_in : List ℕ → ℕ → ℕ → ℕ → List ℕ → Outcome (Stores × Unit {0})
fill_in b o start end m =
    let r : Ring = ring_at b o in
    checked (fill_checks r start end (length m)) (taken (fill_stores o r.capacity start m, tt))

unfoldable pub fill_call : List ℕ → ℕ → ℕ → ℕ → List ℕ → Outcome (Stores × Unit {0})
fill_call b q start end m = on_queue b q (λ o. fill_in b o start end m)

-- ---- commit: the records up to end become the taker's

abbrev pub commit_checks : Ring → ℕ → ℕ → Checks
commit_checks r start end =
    ((start % 4 == 0), TURN, 0)
    ∷ ((end % 4 == 0), TURN, 0)
    ∷ ((start == r.commit), TURN, 0)
    ∷ (nat_le (ahead r.commit end) (ahead r.commit r.reserve), TURN, 0)
    ∷ []

abbrev pub commit_in : List ℕ → ℕ → ℕ → ℕ → Outcome (Stores × Unit {0})
commit_in b o start end = checked (commit_checks (ring_at b o) start end) (taken ((o + 8, bytes_of 4 end) ∷ [], tt))

unfoldable pub commit_call : List ℕ → ℕ → ℕ → ℕ → Outcome (Stores × Unit {0})
commit_call b q start end = on_queue b q (λ o. commit_in b o start end)

-- ---- take: the place and length of the next payload, and head past it and any skip

-- what a taker at cursor p skips: all to the end of the data where a marker stands
unfoldable pub skip_at : List ℕ → ℕ → ℕ → ℕ → ℕ
skip_at b o cap p = cond (le_at 4 b (o + 16 + p % cap) == marker) (rest cap p) 0

-- a record of n payload bytes, s skipped bytes behind head
abbrev pub take_checks : Ring → ℕ → ℕ → Checks
take_checks r s n =
    (nat_lt 0 (ahead r.head r.commit), EMPTY, 0)
    ∷ (nat_lt s (ahead r.head r.commit), RECORD, 0)
    ∷ (nat_le (s + record_size n) (ahead r.head r.commit), RECORD, 0)
    ∷ (nat_le (record_size n) (rest r.capacity (r.head + s)), RECORD, 0)
    ∷ []

-- the record at place at, s skipped bytes behind head
abbrev pub take_from : List ℕ → ℕ → ℕ → ℕ → Outcome (Stores × (ℕ × ℕ))
take_from b o s at =
    let r : Ring = ring_at b o in
    let n : ℕ = le_at 4 b at in
    checked (take_checks r s n) (taken ((o, bytes_of 4 (advanced r.head (s + record_size n))) ∷ [], (at + 4, n)))

unfoldable pub take_in : List ℕ → ℕ → Outcome (Stores × (ℕ × ℕ))
take_in b o =
    let r : Ring = ring_at b o in
    let s : ℕ = skip_at b o r.capacity r.head in
    take_from b o s (o + 16 + (r.head + s) % r.capacity)

unfoldable pub take_call : List ℕ → ℕ → Outcome (Stores × (ℕ × ℕ))
take_call b q = on_queue b q (λ o. take_in b o)
