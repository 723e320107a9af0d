-- Request 1 of document 02, the rings: demands 1 and 2 of the calls on a region, what the taker finds wherever a producer stops, and messages through a ring.
-- They are statements only; proofs/ has their proofs. What a region is stands in crates/region/specs (Valid), the calls in crates/rings/specs (Calls), the way
-- of use beside them (Use). The region after a call is `changed` of the call, by its promise (`Leaves`).
-- Assumes nothing.
use Rattle.std.specs.Prelude.{◌≡◌, ◌≢◌, ◌↔◌, ◌⊎◌, true, List, [], ◌∷◌, ◌++◌, ℕ, ◌+◌, ◌%◌, ◌≤◌, ◌<◌, length, take, drop, get_or}
use Rattle.answer.specs.declared.Answer.{Answer}
use Rattle.answer.specs.Numbers.{REGION, BIG, FULL, EMPTY, RECORD, TURN, is_among}
use Rattle.answer.specs.Outcome.{Outcome, taken, refused, Checks, Pass, First}
use Rattle.answer.specs.Calls.{asked, verdict, Writes}
use Rattle.wire.specs.Numbers.{le_at, bytes_of, Bytes}
use Rattle.region.specs.declared.Ring.{Ring}
use Rattle.region.specs.declared.Cursors.{Cursors}
use Rattle.region.specs.Region.{count_of, offset_of, end_of, ring_at, region_checks, queue_checks}
use Rattle.region.specs.Valid.{Valid}
use Rattle.region.specs.Report.{as_cursors, report_call}
use Rattle.rings.specs.Records.{advanced, record_size, need}
use Rattle.rings.specs.Calls.{Stores, stored, count, as_answer, as_pair, as_record, Leaves, reserve_checks, reserve_call, fill_checks, fill_stores, fill_call, commit_checks, commit_call, skip_at, take_checks, take_call}
use Rattle.rings.specs.Use as use-of
use Rattle.rings.specs.Use.{OpenPair, OpenPairs, full, len_of, Stray, Called, firstly, Used, Course, Stopped, Next, Drains}
use Rattle.kinds.specs.declared.Message.{Message}
use Rattle.kinds.specs.Kinds.{paper, cells}
use Rattle.messages.specs.Reading as messages
use Rattle.messages.specs.Writing.{write_message}
use Rattle.demands.specs.Demand2.{Within, data_of}

-- ---- demand 1: a call takes every region, and answers or refuses with one of its own numbers; a refusal leaves every byte of the region

-- a call that changes its region: f shows its outcome in an answer, of which these are the number and the place; own are the numbers that it gives beside REGION
pub record RingCall {A R : Type 0} (f : Outcome (Stores × A) → R) (number place : R → ℕ) (own : List ℕ) (call : List ℕ → Outcome (Stores × A)) : Type 0 where
  pub stays : (b new : List ℕ) (r : R) → Leaves f (call b) b r new → number r ≢ 0 → (is_among (REGION ∷ own) (number r) ≡ true) × (new ≡ b)
  -- taken, its place counts the bytes stored, and the region holds these and else what it held
  pub stores : (b new : List ℕ) (r : R) → Leaves f (call b) b r new → number r ≡ 0
      → (s : Stores) × (a : A) × (call b ≡ taken (s, a)) × (place r ≡ count s) × (new ≡ stored s b)
  pub once : (b new now : List ℕ) (r s : R) → Leaves f (call b) b r new → Leaves f (call b) b s now → (r ≡ s) × (new ≡ now)

-- a call that only looks: its number is 0 exactly if P holds of the region, and else REGION
pub record Looks (number : ℕ) (P : Type 0) : Type 0 where
  pub zero : (number ≡ 0) ↔ P
  pub else : number ≢ 0 → number ≡ REGION

pub record RegionCalls : Type 0 where
  pub check : (b : List ℕ) (r : Answer) → r ≡ verdict (asked (region_checks b)) → Looks r.number (Valid b)
  pub report : (b : List ℕ) (q : ℕ) (r : Cursors) → r ≡ as_cursors (report_call b q) → Looks r.number (Valid b × (q < count_of b))
  pub reserve : (q n : ℕ) → RingCall as_pair (λ r. r.number) (λ r. r.place) (BIG ∷ FULL ∷ []) (λ b. reserve_call b q n)
  pub fill : (q start end : ℕ) (m : List ℕ) → RingCall as_answer (λ r. r.number) (λ r. r.place) (TURN ∷ []) (λ b. fill_call b q start end m)
  pub commit : (q start end : ℕ) → RingCall as_answer (λ r. r.number) (λ r. r.place) (TURN ∷ []) (λ b. commit_call b q start end)
  pub take : (q : ℕ) → RingCall as_record (λ r. r.number) (λ r. r.place) (EMPTY ∷ RECORD ∷ []) (λ b. take_call b q)

-- ---- demand 2: a region is taken exactly if it follows the rules; a call refuses exactly if one of its checks fails, and names the first

-- a call on queue q comes to a exactly if the region follows the rules and has the queue, and the call's own checks pass
pub record Exactly {A : Type 0} (call : Outcome A) (b : List ℕ) (q : ℕ) (rows : Checks) (a : A) : Type 0 where
  pub takes : (x : A) → (call ≡ taken x) ↔ (Valid b × (q < count_of b) × Pass rows × (a ≡ x))
  pub refuses : (n p : ℕ) → (call ≡ refused n p) ↔ First (queue_checks b q ++ rows) n p

abbrev pub ring : List ℕ → ℕ → Ring
ring b q = ring_at b (offset_of b q)

pub record RegionRules : Type 0 where
  pub region : (b : List ℕ) → (asked (region_checks b) ≡ taken tt) ↔ Valid b
  pub region_refuses : (b : List ℕ) (n p : ℕ) → (asked (region_checks b) ≡ refused n p) ↔ First (region_checks b) n p
  pub report : (b : List ℕ) (q : ℕ) → Exactly (report_call b q) b q [] (ring b q)
  -- reserve stores the reserve cursor and answers it before and after
  pub reserve : (b : List ℕ) (q n : ℕ) → let r = ring b q in let end = advanced r.reserve (need r.capacity r.reserve n) in
      Exactly (reserve_call b q n) b q (reserve_checks r n) ((offset_of b q + 4, bytes_of 4 end) ∷ [], (r.reserve, end))
  pub fill : (b : List ℕ) (q start end : ℕ) (m : List ℕ) → let r = ring b q in
      Exactly (fill_call b q start end m) b q (fill_checks r start end (length m)) (fill_stores (offset_of b q) r.capacity start m, tt)
  pub commit : (b : List ℕ) (q start end : ℕ) → Exactly (commit_call b q start end) b q (commit_checks (ring b q) start end) ((offset_of b q + 8, bytes_of 4 end) ∷ [], tt)
  -- take stores head behind the record and any skip, and answers where the payload stands and its length
  pub take : (b : List ℕ) (q : ℕ) → let r = ring b q in let s = skip_at b (offset_of b q) r.capacity r.head in let at = offset_of b q + 16 + (r.head + s) % r.capacity in
      Exactly (take_call b q) b q (take_checks r s (le_at 4 b at)) ((offset_of b q, bytes_of 4 (advanced r.head (s + record_size (le_at 4 b at)))) ∷ [], (at + 4, le_at 4 b at))

-- ---- a ring that is empty at first and used only by these calls, each pair handed on as answered and filled before its commit (`Used`)

pub record NoneOrAll : Type 0 where
  -- the taker finds the committed messages, whole, in their order, and then nothing
  pub comes : {q : ℕ} {b : List ℕ} {ms : use-of.MessageList} {ps : OpenPairs} → Used q b ms ps → Drains q b ms
  -- a producer that stops after any store leaves the taker with a ring that has either none of its message or all of it
  pub none_or_all : {q : ℕ} {m : use-of.Message} {b c : List ℕ} {ms : use-of.MessageList} {ps : OpenPairs}
      → Used q b ms ps → Stopped q m b ps c → Drains q c ms ⊎ Drains q c (ms ++ m ∷ [])
  -- and others go on as before
  pub goes_on : {q : ℕ} {m : use-of.Message} {b c : List ℕ} {ms : use-of.MessageList} {ps : OpenPairs}
      → Used q b ms ps → Stopped q m b ps c → (now : OpenPairs) × (Used q c ms now ⊎ Used q c (ms ++ m ∷ []) now)
  -- a committed message is taken after as many takes as records stand before it, whatever else happens in between
  pub in-turn : {q : ℕ} {m : use-of.Message} {b c : List ℕ} (before behind : use-of.MessageList) {ns : use-of.MessageList} {ps qs : OpenPairs}
      → Used q b (before ++ m ∷ behind) ps → Course q b (before ++ m ∷ behind) ps c ns qs (length before) → Next q c m

-- pairs that are handed on
pub record Handing : Type 0 where
  -- fill takes a pair as it was answered, for as many bytes as were asked for
  pub fill_takes : {q : ℕ} {b : List ℕ} {ms : use-of.MessageList} (xs : OpenPairs) (p : OpenPair) (ys : OpenPairs) → Used q b ms (xs ++ p ∷ ys)
      → (m : use-of.Message) → length m ≡ len_of p.slot → (s : Stores) × (fill_call b q p.start p.end m ≡ taken (s, tt))
  -- commit takes the first open pair, once it is filled, and a later one waits for its turn
  pub commit_takes : {q : ℕ} {m : use-of.Message} {b : List ℕ} {ms : use-of.MessageList} {p : OpenPair} {ps : OpenPairs} → Used q b ms (p ∷ ps)
      → p.slot ≡ full m → (s : Stores) × (commit_call b q p.start p.end ≡ taken (s, tt))
  pub commit_waits : {q : ℕ} {b : List ℕ} {ms : use-of.MessageList} (first : OpenPair) (xs : OpenPairs) (p : OpenPair) (ys : OpenPairs) → Used q b ms (first ∷ xs ++ p ∷ ys)
      → commit_call b q p.start p.end ≡ refused TURN 0
  -- after any number of the bytes that a fill stores, those outside its pair are what they were: such as a stopped fill leaves
  pub fill_within : (b : List ℕ) (q start end : ℕ) (m : use-of.Message) {s : Stores} → fill_call b q start end m ≡ taken (s, tt) → (k : ℕ) → Stray q b (stored (firstly k s) b) start end

-- a call on queue i, whichever it is and whatever it is given, or a fill there that is stopped
pub record OtherQueues : Type 0 where
  pub follows : {i : ℕ} {b c : List ℕ} → Bytes b → Valid b → Called i b c → Valid c
  pub untouched : {i q : ℕ} {b c : List ℕ} → Bytes b → Valid b → q < count_of b → (q ≡ i → ⊥) → Called i b c
      → (j : ℕ) → offset_of b q ≤ j → j < end_of b q → get_or c j 0 ≡ get_or b j 0

-- ---- messages through a ring: what `aipc::write` wrote, filled, committed and taken, reads back as the same message

-- the bytes that a take answers, in the region as it leaves it
abbrev pub taken_bytes : {q : ℕ} {b : List ℕ} {w : use-of.Message} → Next q b w → List ℕ
taken_bytes {b = b} {w = w} n = take (length w) (drop n.place (stored n.stores b))

pub record Through : Type 0 where
  pub message : (k : Message) (d old new : List ℕ) (r : Answer) → Within (cells (paper k)) → Writes (write_message k d (length old)) old r new → r.number ≡ 0
      → {q : ℕ} {b c : List ℕ} (before behind : use-of.MessageList) {ns : use-of.MessageList} {ps qs : OpenPairs}
      → Used q b (before ++ take r.place new ∷ behind) ps → Course q b (before ++ take r.place new ∷ behind) ps c ns qs (length before)
      → (n : Next q c (take r.place new)) × (x : messages.MessageAndData)
      × (messages.read_message (taken_bytes n) ≡ taken x) × (x.message ≡ k) × (data_of x (taken_bytes n) ≡ d)

pub record Rings : Type 0 where
  pub calls : RegionCalls
  pub rules : RegionRules
  pub none_or_all : NoneOrAll
  pub handing : Handing
  pub others : OtherQueues
  pub through : Through
