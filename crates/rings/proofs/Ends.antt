-- The ends of a call: refused, with nothing stored, or taken, with its stores. Assumes nothing.
use Rattle.std.proofs.Common.{◌≡◌, ℕ, true, ◌+◌, ◌%◌, ◌<◌, ◌≤◌, List, [], ◌∷◌, length, sym, subst, refl, ap, ◌∙◌, arith}
use Rattle.answer.specs.Outcome.{Outcome, taken, refused, checked, after, Pass}
use Rattle.answer.specs.Calls.{asked}
use Rattle.answer.proofs.Checks.{asked-pass, pass-checked, checked-pass, stops, asked_stop}
use Rattle.answer.proofs.Outcomes.{taken_is}
use Rattle.wire.specs.Numbers.{bytes_of}
use Rattle.wire.specs.Parts.{put}
use Rattle.wire.proofs.Numbers.{length-bytes_of}
use Rattle.wire.proofs.Parts.{put-fits}
use Rattle.region.specs.declared.Ring.{Ring}
use Rattle.region.specs.Region.{count_of, offset_of, ring_at, is_capacity, queue_checks}
use Rattle.region.specs.Valid.{Valid, Queue, Consistent}
use Rattle.region.proofs.Taken.{pass_queues, queue_pass, power_capacity}
use Rattle.rings.specs.Records.{advanced, record_size, need}
use Rattle.rings.specs.declared.Pair.{Pair}
use Rattle.rings.specs.declared.Record.{Record}
use Rattle.wire.specs.Numbers.{le_at}
use Rattle.rings.specs.Calls.{as_pair, as_answer, as_record, reserve_checks, commit_checks, take_checks}
use Rattle.rings.specs.Calls.{Stores, stored, count, region_after, Leaves, on_queue, reserve_in, reserve_call, fill_in, fill_call, commit_in, commit_call, skip_at, take_from, take_in, take_call}
use Rattle.rings.proofs.Capacity.{Capacity, wraps}
use Rattle.rings.specs.Steps.{RingStands, found, ring_call}

module _ {A : Type 0} {R : Type 0} (f : Outcome (Stores × A) → R) (b : List ℕ) {o : Outcome (Stores × A)} {r : R} where
  pub end_refused : {n p : ℕ} → o ≡ refused n p → r ≡ f (refused n p) → Leaves f o b r b
  end_refused e h = record { answers = h ∙ sym (ap f e); leaves = sym (ap (λ (x : Outcome (Stores × A)). region_after x b) e) }

  pub end_taken : {s : Stores} {a : A} {new : List ℕ} → o ≡ taken (s, a) → r ≡ f (taken (s, a)) → new ≡ stored s b → Leaves f o b r new
  end_taken e h k = record { answers = h ∙ sym (ap f e); leaves = k ∙ sym (ap (λ (x : Outcome (Stores × A)). region_after x b) e) }

-- a cursor is one store of 4 bytes
pub cursor_count : (a x : ℕ) → count ((a, bytes_of 4 x) ∷ []) ≡ 4
cursor_count a x = let l = length-bytes_of 4 x in omega arith

pub cursor_stored : (a x : ℕ) (b : List ℕ) {new : List ℕ} → a + 4 ≤ length b → new ≡ put a (bytes_of 4 x) b → new ≡ stored ((a, bytes_of 4 x) ∷ []) b
cursor_stored a x b h e = let l = length-bytes_of 4 x in e ∙ put-fits a (bytes_of 4 x) b (omega arith)

own : {r : Ring} {cap : ℕ} → Consistent r cap → Consistent r r.capacity
own c =
    let e = c.same in
    let n = c.near in
    record { head4 = c.head4; reserve4 = c.reserve4; commit4 = c.commit4; near = omega arith; same = refl }

-- the ring of a queue stands in the region
pub queue_stands : {b : List ℕ} {i : ℕ} → Queue b i → RingStands b (offset_of b i) (ring_at b (offset_of b i))
queue_stands q = record { is = refl; fits = rw q.cursors.same q.inside; cursors = own q.cursors }

pub queue_sized : {b : List ℕ} {i : ℕ} → Queue b i → is_capacity (ring_at b (offset_of b i)).capacity ≡ true
queue_sized q = rw q.cursors.same (power_capacity q.capacity)

pub asked_sized : (b : List ℕ) (q : ℕ) → taken tt ≡ asked (queue_checks b q) → is_capacity (ring_at b (offset_of b q)).capacity ≡ true
asked_sized b q h = let v = pass_queues b q (asked-pass (queue_checks b q) h) in queue_sized (v.0.queues q v.1)

-- a ring that is refused
pub ring_refused : {A : Type 0} (b : List ℕ) (q : ℕ) (g : A → Outcome (ℕ × Ring)) (o : Outcome A) {n p : ℕ} → o ≡ refused n p → refused n p ≡ asked (queue_checks b q) → after o g ≡ ring_call b q
ring_refused {A} b q g o e h = ap (λ (x : Outcome A). after x g) e ∙ sym (asked_stop (queue_checks b q) (found (offset_of b q) (ring_at b (offset_of b q))) h)

-- the ring that is asked for
module _ (b : List ℕ) (q : ℕ) {o : ℕ} {r : Ring} (h : found o r ≡ ring_call b q) where
  passed : Pass (queue_checks b q) × (found (offset_of b q) (ring_at b (offset_of b q)) ≡ found o r)
  passed = checked-pass (queue_checks b q) (found (offset_of b q) (ring_at b (offset_of b q))) (o, r) (sym h)

  same_ring : ◌≡◌ {A = ℕ × Ring} (offset_of b q, ring_at b (offset_of b q)) (o, r)
  same_ring = taken_is passed.1

  found_at : offset_of b q ≡ o
  found_at = ap (λ (x : ℕ × Ring). x.0) same_ring

  pub found_stands : RingStands b o r
  found_stands =
      let v = pass_queues b q passed.0 in
      subst (λ (x : ℕ × Ring). RingStands b x.0 x.1) same_ring (queue_stands (v.0.queues q v.1))

-- a call on that ring is the call on the queue
module _ {A : Type 0} {R : Type 0} (f : Outcome (Stores × A) → R) (b : List ℕ) (q : ℕ) (call : ℕ → Outcome (Stores × A)) {r : R} where
  pub queue_refused : {n p : ℕ} → refused n p ≡ ring_call b q → r ≡ f (refused n p) → Leaves f (on_queue b q call) b r b
  queue_refused h e = end_refused f b (stops (queue_checks b q) (offset_of b q, ring_at b (offset_of b q)) (call (offset_of b q)) (sym h)) e

  pub queue_taken : {o : ℕ} {ring : Ring} {new : List ℕ} → found o ring ≡ ring_call b q → Leaves f (call o) b r new → Leaves f (on_queue b q call) b r new
  queue_taken {o} {ring} {new} h l =
      let e : on_queue b q call ≡ call o = pass-checked (queue_checks b q) (call (offset_of b q)) (passed b q h).0 ∙ ap call (found_at b q h) in
      rw e l

-- ---- the calls on a ring r that was read from o: refused, or taken with their stores

module _ {b : List ℕ} {o : ℕ} {r : Ring} (s : RingStands b o r) where
  pub reserve_stops : (n : ℕ) {x : Pair} {k p : ℕ} → refused k p ≡ asked (reserve_checks r n) → x ≡ as_pair (refused k p) → Leaves as_pair (reserve_in b o n) b x b
  reserve_stops n h e = end_refused as_pair b (asked_stop (reserve_checks (ring_at b o) n) _ (rw s.is at h)) e

  pub reserve_ends : (n : ℕ) {start end : ℕ} {new : List ℕ} → taken tt ≡ asked (reserve_checks r n) → start ≡ r.reserve → end ≡ advanced r.reserve (need r.capacity r.reserve n)
      → new ≡ put (o + 4) (bytes_of 4 end) b → Leaves as_pair (reserve_in b o n) b (record { number = 0; place = 4; start = start; end = end }) new
  reserve_ends n {start} {end} h i j k =
      let f = s.fits in
      let i' = rw s.is at i in
      let j' = rw s.is at j in
      end_taken as_pair b (pass-checked (reserve_checks (ring_at b o) n) _ (asked-pass (reserve_checks (ring_at b o) n) (rw s.is at h))) (rw (cursor_count, i', j'))
      (cursor_stored _ _ b (omega arith) (rw j' at k))

  module _ (start end : ℕ) where
    pub commit_ends : {new : List ℕ} → taken tt ≡ asked (commit_checks r start end) → new ≡ put (o + 8) (bytes_of 4 end) b
        → Leaves as_answer (commit_in b o start end) b (record { number = 0; place = 4 }) new
    commit_ends h k =
        let f = s.fits in
        end_taken as_answer b (pass-checked (commit_checks (ring_at b o) start end) _ (asked-pass (commit_checks (ring_at b o) start end) (rw s.is at h))) (rw (cursor_count)) (cursor_stored _ end b (omega arith) k)

  -- the record of n payload bytes behind the skip k, which stands at from
  module _ (c : Capacity r.capacity) {k n from : ℕ} (e : k ≡ skip_at b o r.capacity r.head) (v : from ≡ o + 16 + advanced r.head k % r.capacity) (l : n ≡ le_at 4 b from) where
    take_so : take_from b o k from ≡ take_in b o
    unfolding take_in
    take_so =
        let e' : k ≡ skip_at b o (ring_at b o).capacity (ring_at b o).head = rw s.is at e in
        let g : from ≡ o + 16 + ((ring_at b o).head + k) % (ring_at b o).capacity = rw s.is at (rw (wraps c) at v) in
        rw (g, ← e')

    pub take_stops : {x : Record} {m p : ℕ} → refused m p ≡ asked (take_checks r k n) → x ≡ as_record (refused m p) → Leaves as_record (take_in b o) b x b
    take_stops h i =
        let h' = rw (s.is, l) at h in
        rw (← take_so) (end_refused as_record b (asked_stop (take_checks (ring_at b o) k (le_at 4 b from)) _ h') i)

    pub take_ends : {head : ℕ} {new : List ℕ} → taken tt ≡ asked (take_checks r k n) → head ≡ advanced r.head (k + record_size n) → new ≡ put o (bytes_of 4 head) b
        → Leaves as_record (take_in b o) b (record { number = 0; place = 4; payload_place = from + 4; payload_length = n }) new
    take_ends h i j =
        let f = s.fits in
        let h' = rw (s.is, l) at h in
        let i' = rw (s.is, l) at i in
        rw (← take_so)
        (end_taken as_record b (pass-checked (take_checks (ring_at b o) k (le_at 4 b from)) _ (asked-pass (take_checks (ring_at b o) k (le_at 4 b from)) h')) (rw (cursor_count, l))
        (cursor_stored _ _ b (omega arith) (rw i' at j)))

-- ---- the region's checks pass, so a call is that on the ring

module _ {b : List ℕ} {q : ℕ} (v : Valid b) (l : q < count_of b) where
  called : {A : Type 0} (next : Outcome A) → checked (queue_checks b q) next ≡ next
  called next = pass-checked (queue_checks b q) next (queue_pass b q v l)

  pub reserve_called : (n : ℕ) → reserve_call b q n ≡ reserve_in b (offset_of b q) n
  unfolding reserve_call
  reserve_called n = called (reserve_in b (offset_of b q) n)

  pub fill_called : (start end : ℕ) (m : List ℕ) → fill_call b q start end m ≡ fill_in b (offset_of b q) start end m
  unfolding fill_call
  fill_called start end m = called (fill_in b (offset_of b q) start end m)

  pub commit_called : (start end : ℕ) → commit_call b q start end ≡ commit_in b (offset_of b q) start end
  unfolding commit_call
  commit_called start end = called (commit_in b (offset_of b q) start end)

  pub take_called : take_call b q ≡ take_in b (offset_of b q)
  unfolding take_call
  take_called = called (take_in b (offset_of b q))
