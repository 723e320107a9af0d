-- A ring that is empty at first and used only by its calls: what its taker finds, wherever a producer stops.
-- Assumes nothing.
use Rattle.std.specs.Prelude.{◌≡◌, ℕ, ◌+◌, ◌-◌, ◌%◌, ◌<◌, List, [], ◌∷◌, ◌++◌, length, take, drop, ◌≢◌, slice_index}
use Rattle.answer.specs.Numbers.{EMPTY}
use Rattle.answer.specs.Outcome.{taken, refused}
use Rattle.wire.specs.Numbers.{Bytes}
use Rattle.region.specs.Region.{ahead, count_of, offset_of, capacity_of, ring_at}
use Rattle.region.specs.Valid.{Valid}
use Rattle.rings.specs.Calls.{Stores, stored, region_after, reserve_call, fill_call, commit_call, take_call}

-- ---- messages and pairs

abbrev pub Message : Type 0
Message = List ℕ

abbrev pub MessageList : Type 0
MessageList = List Message

-- what a pair of cursors holds: nothing that is sure, in room for a payload of so many bytes; or a message, whole
pub data Slot : Type 0 where
  raw : ℕ → Slot
  full : Message → Slot

-- the payload's bytes
abbrev pub len_of : Slot → ℕ
len_of (raw n) = n
len_of (full m) = length m

-- a pair that is open: reserved, as answered, and not yet committed
pub record OpenPair : Type 0 where
  pub start : ℕ
  pub end : ℕ
  pub slot : Slot

abbrev pub OpenPairs : Type 0
OpenPairs = List OpenPair

-- the pair with something else in it
abbrev pub with : OpenPair → Slot → OpenPair
with p s = record { start = p.start; end = p.end; slot = s }

-- ---- what a stop leaves

-- c differs from b at most in the bytes from cursor start up to end, of the ring at o with capacity cap
pub record OnlyWithin (b c : List ℕ) (o cap start end : ℕ) : Type 0 where
  pub long : length c ≡ length b
  pub else_same : (j : ℕ) → ((i : ℕ) → i < ahead start end → j ≢ o + 16 + (start + i) % cap) → slice_index c j ≡ slice_index b j

-- a fill of queue q that is stopped: any bytes within its pair
abbrev pub Stray : ℕ → List ℕ → List ℕ → ℕ → ℕ → Type 0
Stray q b c start end = OnlyWithin b c (offset_of b q) (capacity_of b q) start end

-- c is b after any call on queue i, with whatever arguments, or after a fill there that was stopped
pub data Called (i : ℕ) (b : List ℕ) : List ℕ → Type 0 where
  by_reserve : (n : ℕ) → Called i b (region_after (reserve_call b i n) b)
  by_fill : (start end : ℕ) (m : Message) → Called i b (region_after (fill_call b i start end m) b)
  by_commit : (start end : ℕ) → end < 4294967296 → Called i b (region_after (commit_call b i start end) b)
  by_take : Called i b (region_after (take_call b i) b)
  by_stop : {c : List ℕ} {start end : ℕ} → i < count_of b → Stray i b c start end → Called i b c

-- the first k bytes of what is stored, in the order in which they are
abbrev pub firstly : ℕ → Stores → Stores
firstly k [] = []
firstly k (s ∷ l) = (s.0, take k s.1) ∷ firstly (k - length s.1) l

-- ---- the way of use

-- all three cursors of the ring are one
abbrev pub Empty : List ℕ → ℕ → Type 0
Empty b q = let r = ring_at b (offset_of b q) in (r.commit ≡ r.head) × (r.reserve ≡ r.head)

-- One step in the use of queue q, by a producer, the taker or a stop: from the region's bytes b, the messages ms that are committed and not yet taken and the
-- pairs ps that are open, to those behind them; last, how many takes it is. A refused call changes no byte, so it is no step.
pub data Step (q : ℕ) : List ℕ → MessageList → OpenPairs → List ℕ → MessageList → OpenPairs → ℕ → Type 0 where
  -- a producer reserves room for n bytes
  reserves : {b : List ℕ} {ms : MessageList} {ps : OpenPairs} {s : Stores} {start end : ℕ}
      → (n : ℕ) → reserve_call b q n ≡ taken (s, (start, end)) → Step q b ms ps (stored s b) ms (ps ++ record { start = start; end = end; slot = raw n } ∷ []) 0
  -- a producer fills its pair, whichever of the open ones it is
  fills : {b : List ℕ} {ms : MessageList} (xs : OpenPairs) (p : OpenPair) (ys : OpenPairs) {s : Stores}
      → (m : Message) → fill_call b q p.start p.end m ≡ taken (s, tt) → Step q b ms (xs ++ p ∷ ys) (stored s b) ms (xs ++ with p (full m) ∷ ys) 0
  -- a fill is stopped
  stops : {b c : List ℕ} {ms : MessageList} (xs : OpenPairs) (p : OpenPair) (ys : OpenPairs)
      → Stray q b c p.start p.end → Step q b ms (xs ++ p ∷ ys) c ms (xs ++ with p (raw (len_of p.slot)) ∷ ys) 0
  -- the first open pair is committed, once it is filled
  commits : {b : List ℕ} {ms : MessageList} {p : OpenPair} {ps : OpenPairs} {s : Stores} {m : Message}
      → p.slot ≡ full m → commit_call b q p.start p.end ≡ taken (s, tt) → Step q b ms (p ∷ ps) (stored s b) (ms ++ m ∷ []) ps 0
  -- the taker takes
  takes : {b : List ℕ} {ms : MessageList} {ps : OpenPairs} {s : Stores} {at n : ℕ} → take_call b q ≡ taken (s, (at, n)) → Step q b ms ps (stored s b) (drop 1 ms) ps 1
  -- another queue is used, in any way
  others : {b c : List ℕ} {ms : MessageList} {ps : OpenPairs} (i : ℕ) → Bytes b → (q ≢ i) → Called i b c → Step q b ms ps c ms ps 0

-- b are bytes that a region can come to, with the messages ms committed on queue q and not yet taken, and the pairs ps open. Any number of producers and one
-- taker, each store at its own time.
pub data Used (q : ℕ) : List ℕ → MessageList → OpenPairs → Type 0 where
  -- a ring that is empty at first, its cursors anywhere
  begins : {b : List ℕ} → Bytes b → Valid b → q < count_of b → Empty b q → Used q b [] []
  steps : {b c : List ℕ} {ms ns : MessageList} {ps qs : OpenPairs} {k : ℕ} → Used q b ms ps → Step q b ms ps c ns qs k → Used q c ns qs

-- a course of the use: any steps from one such state to another, with k takes among them
pub data Course (q : ℕ) : List ℕ → MessageList → OpenPairs → List ℕ → MessageList → OpenPairs → ℕ → Type 0 where
  at_rest : {b : List ℕ} {ms : MessageList} {ps : OpenPairs} → Course q b ms ps b ms ps 0
  step : {b c d : List ℕ} {ms ns os : MessageList} {ps qs rs : OpenPairs} {j k : ℕ} → Step q b ms ps c ns qs j → Course q c ns qs d os rs k → Course q b ms ps d os rs (j + k)

-- c is what a producer of the message m leaves of b if it stops, the pairs ps being open: a cursor is one store, old or new; a stopped fill leaves any bytes
-- within its pair
pub data Stopped (q : ℕ) (m : Message) (b : List ℕ) : OpenPairs → List ℕ → Type 0 where
  unreserved : {ps : OpenPairs} → Stopped q m b ps b
  reserved : {ps : OpenPairs} {s : Stores} {start end : ℕ} → reserve_call b q (length m) ≡ taken (s, (start, end)) → Stopped q m b ps (stored s b)
  filling : {c : List ℕ} (xs : OpenPairs) (p : OpenPair) (ys : OpenPairs) → Stray q b c p.start p.end → Stopped q m b (xs ++ p ∷ ys) c
  filled : (xs : OpenPairs) (p : OpenPair) (ys : OpenPairs) {s : Stores} → fill_call b q p.start p.end m ≡ taken (s, tt) → Stopped q m b (xs ++ p ∷ ys) (stored s b)
  committed : {p : OpenPair} {ps : OpenPairs} {s : Stores} → p.slot ≡ full m → commit_call b q p.start p.end ≡ taken (s, tt) → Stopped q m b (p ∷ ps) (stored s b)

-- ---- what the taker finds

-- the next take answers the place and the length of m's bytes, which stand there when it has answered
pub record Next (q : ℕ) (b : List ℕ) (m : Message) : Type 0 where
  pub stores : Stores
  pub place : ℕ
  pub found : take_call b q ≡ taken (stores, (place, length m))
  pub payload : take (length m) (drop place (stored stores b)) ≡ m

-- these messages, one with each take, and then none
abbrev pub Drains : ℕ → List ℕ → MessageList → Type 0
Drains q b [] = take_call b q ≡ refused EMPTY 0
Drains q b (m ∷ ms) = Next q b m × Drains q (region_after (take_call b q) b) ms
