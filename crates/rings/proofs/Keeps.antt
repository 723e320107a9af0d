-- Any call that is taken, however it is used, leaves its ring's cursors as they should be, so a whole region stays whole; and it touches no other ring.
-- Assumes nothing.
use Rattle.std.proofs.Common.{◌≡◌, ℕ, ◌+◌, ◌-◌, ◌*◌, ◌%◌, ◌<◌, ◌≤◌, Bool, true, false, cond, eqb, List, [], ◌∷◌, length, get_or, sym, refl, ap, ◌∙◌, ⊎_elim, arith}
use Rattle.answer.specs.Outcome.{Outcome, taken, refused, Pass, checked}
use Rattle.answer.proofs.Checks.{checked-pass}
use Rattle.answer.proofs.Outcomes.{taken_is}
use Rattle.wire.specs.Numbers.{le_at, bytes_of, Bytes}
use Rattle.wire.specs.Parts.{splice}
use Rattle.wire.proofs.Numbers.{le_at_bound}
use Rattle.region.specs.declared.Ring.{Ring}
use Rattle.region.specs.Region.{ahead, count_of, offset_of, capacity_of, end_of, ring_at, queue_checks}
use Rattle.region.specs.Valid.{Consistent, Queue, Valid}
use Rattle.region.proofs.Taken.{pass_queues}
use Rattle.rings.specs.Records.{advanced, record_size, rest, need, marker}
use Rattle.rings.specs.Calls.{Stores, stored, region_after, reserve_checks, reserve_in, reserve_call, fill_checks, fill_stores, fill_in, fill_call, commit_checks, commit_in, commit_call, take_checks, take_in, take_call, skip_at}
use Rattle.rings.specs.Use.{OnlyWithin, firstly, Called, by_reserve, by_fill, by_commit, by_take, by_stop}
use Rattle.rings.proofs.Capacity.{Capacity, capacity-of, rest4}
use Rattle.rings.proofs.Cases.{pass_reserve, pass_commit, pass_fill, pass-take}
use Rattle.wire.proofs.Splices.{le_at-same, stored_here, stored_below, stored_above}
use Rattle.rings.proofs.Places.{need4}
use Rattle.rings.proofs.Inner.{Inner, fill_whole, fill_begun}
use Rattle.rings.proofs.Frame.{Framed, rings_apart, frame_valid, stored-framed, inner_framed}
use Rattle.rings.proofs.Ends.{reserve_called, fill_called, commit_called, take_called}

-- c is b after something happened outside queue q: the header, the descriptors and the ring of q are as they were, and the region is whole
pub record Elsewhere (q : ℕ) (b c : List ℕ) : Type 0 where
  pub long : length c ≡ length b
  pub tables : (j : ℕ) → j < 16 + 16 * count_of b → get_or c j 0 ≡ get_or b j 0
  pub ring : (j : ℕ) → offset_of b q ≤ j → j < end_of b q → get_or c j 0 ≡ get_or b j 0
  pub valid : Valid c

-- ---- distances

-- they add up where their sum is below 2^32
ahead-add : (a b c : ℕ) → a < 4294967296 → b < 4294967296 → c < 4294967296 → ahead a b + ahead b c < 4294967296 → ahead a c ≡ ahead a b + ahead b c
unfolding ahead
ahead-add a b c ha hb hc h = omega arith

ahead-moved : (a b n : ℕ) → a < 4294967296 → b < 4294967296 → ahead a b + n < 4294967296 → ahead a (advanced b n) ≡ ahead a b + n
unfolding ahead
ahead-moved a b n ha hb h = omega arith

-- a cursor between two others
ahead_between : (a b c : ℕ) → a < 4294967296 → b < 4294967296 → c < 4294967296 → ahead a b ≤ ahead a c → ahead b c ≡ ahead a c - ahead a b
unfolding ahead
ahead_between a b c ha hb hc h = omega arith

-- moved on towards another
ahead_from : (a b n : ℕ) → a < 4294967296 → b < 4294967296 → n ≤ ahead a b → ahead (advanced a n) b ≡ ahead a b - n
unfolding ahead
ahead_from a b n ha hb h = omega arith

-- ---- cursors

-- of a ring that was read from bytes
record Small (r : Ring) : Type 0 where
  pub head : r.head < 4294967296
  pub reserve : r.reserve < 4294967296
  pub commit : r.commit < 4294967296

module _ (r : Ring) (cap : ℕ) (k : Capacity cap) (c : Consistent r cap) (s : Small r) where
  reserve_keeps : (n : ℕ) → Pass (reserve_checks r n)
      → Consistent (record { head = r.head; reserve = advanced r.reserve (need r.capacity r.reserve n); commit = r.commit; capacity = r.capacity }) cap
  reserve_keeps n h =
      let y = pass_reserve r n h in
      let e = c.same in
      let most = k.most in
      let near = c.near in
      let m : ℕ = need r.capacity r.reserve n in
      let a : ahead r.head r.reserve ≡ ahead r.head r.commit + ahead r.commit r.reserve =
      ahead-add r.head r.commit r.reserve s.head s.commit s.reserve (omega arith) in
      let y₁ : ahead r.head r.reserve + m ≤ r.capacity = y.1 in
      let d : ahead r.commit (advanced r.reserve m) ≡ ahead r.commit r.reserve + m = ahead-moved r.commit r.reserve m s.commit s.reserve (omega arith) in
      let k₁ : Capacity r.capacity = rw e k in
      record {
        head4 = c.head4;
        reserve4 = omega (arith, need4 k₁ r.reserve n c.reserve4);
        commit4 = c.commit4;
        near = rw d (omega arith);
        same = e;
      }

  commit_keeps : (start end : ℕ) → end < 4294967296 → Pass (commit_checks r start end) → Consistent (record { head = r.head; reserve = r.reserve; commit = end; capacity = r.capacity }) cap
  commit_keeps start end l h =
      let y = pass_commit r start end h in
      let y₁ = y.3 in
      let most = k.most in
      let near = c.near in
      let a : ahead r.head end ≡ ahead r.head r.commit + ahead r.commit end = ahead-add r.head r.commit end s.head s.commit l (omega arith) in
      let b : ahead end r.reserve ≡ ahead r.commit r.reserve - ahead r.commit end = ahead_between r.commit end r.reserve s.commit l s.reserve y₁ in
      record { head4 = c.head4; reserve4 = c.reserve4; commit4 = y.1; near = rw (a, b) (omega arith); same = c.same }

  -- head moves on by some bytes up to commit, a multiple of 4
  take_keeps : (n : ℕ) → n % 4 ≡ 0 → n ≤ ahead r.head r.commit → Consistent (record { head = advanced r.head n; reserve = r.reserve; commit = r.commit; capacity = r.capacity }) cap
  take_keeps n f h =
      let near = c.near in
      let h4 = c.head4 in
      record {
        head4 = omega arith;
        reserve4 = c.reserve4;
        commit4 = c.commit4;
        near = rw (ahead_from r.head r.commit n s.head s.commit h) (omega arith);
        same = c.same;
      }

skip_at4 : (b : List ℕ) (o : ℕ) {cap : ℕ} (x : ℕ) → Capacity cap → x % 4 ≡ 0 → skip_at b o cap x % 4 ≡ 0
unfolding skip_at
skip_at4 b o {cap} x k h = go (eqb (le_at 4 b (o + 16 + x % cap)) marker)
  where
    go : (t : Bool) → cond t (rest cap x) 0 % 4 ≡ 0
    go true = rest4 k x h
    go false = refl

-- ---- a call on queue i of a region changes its ring alone and leaves its header right

pub record Kept-in (b c : List ℕ) (i : ℕ) : Type 0 where
  pub framed : Framed b c (offset_of b i) (capacity_of b i)
  pub cursors : Consistent (ring_at c (offset_of b i)) (capacity_of b i)

module _ {b : List ℕ} {i : ℕ} (bytes : Bytes b) (v : Valid b) (l : i < count_of b) where
  ring : Queue b i
  ring = v.queues i l

  small : Small (ring_at b (offset_of b i))
  small = record { head = le_at_bound 4 b (offset_of b i) bytes; reserve = le_at_bound 4 b (offset_of b i + 4) bytes; commit = le_at_bound 4 b (offset_of b i + 8) bytes }

  -- a cursor is stored at a, and the ring is r then
  stored-in : (a x : ℕ) (r : Ring) → offset_of b i ≤ a → a + 4 ≤ offset_of b i + 12 → ring_at (splice a (bytes_of 4 x) b) (offset_of b i) ≡ r → Consistent r (capacity_of b i) → Kept-in b (splice a (bytes_of 4 x) b) i
  stored-in a x r g u e k = record { framed = (stored-framed b (offset_of b i) (capacity_of b i) ring.inside a x g u).0; cursors = rw e k }

  pub reserve_kept : (n : ℕ) {s : Stores} {p : ℕ × ℕ} → reserve_call b i n ≡ taken (s, p) → Kept-in b (stored s b) i
  reserve_kept n {s} {p} y =
      let o : ℕ = offset_of b i in
      let f = ring.inside in
      let r : Ring = ring_at b o in
      let z = checked-pass (reserve_checks r n) _ (s, p) (sym (reserve_called v l n) ∙ y) in
      let x : ℕ = advanced r.reserve (need r.capacity r.reserve n) in
      let e : s ≡ (o + 4, bytes_of 4 x) ∷ [] = sym (ap (λ (t : Stores × (ℕ × ℕ)). t.0) (taken_is z.1)) in
      rw e
      (stored-in (o + 4) x (record { head = r.head; reserve = x; commit = r.commit; capacity = r.capacity }) (omega arith) (omega arith)
      (rw (stored_below 4 x (o + 4) b (omega arith) 4 o (omega arith), stored_here 4 x (o + 4) b (omega arith) (omega arith), stored_above 4 x (o + 4) b (omega arith) 4 (o + 8) (omega arith) (omega arith), stored_above 4 x (o + 4) b (omega arith) 4 (o + 12) (omega arith) (omega arith)))
      (reserve_keeps r (capacity_of b i) (capacity-of ring.capacity) ring.cursors small n z.0))

  pub commit_kept : (start end : ℕ) → end < 4294967296 → {s : Stores} → commit_call b i start end ≡ taken (s, tt) → Kept-in b (stored s b) i
  commit_kept start end h {s} y =
      let o : ℕ = offset_of b i in
      let f = ring.inside in
      let r : Ring = ring_at b o in
      let z = checked-pass (commit_checks r start end) _ (s, tt) (sym (commit_called v l start end) ∙ y) in
      let e : s ≡ (o + 8, bytes_of 4 end) ∷ [] = sym (ap (λ (t : Stores × Unit {0}). t.0) (taken_is z.1)) in
      rw e
      (stored-in (o + 8) end (record { head = r.head; reserve = r.reserve; commit = end; capacity = r.capacity }) (omega arith) (omega arith)
      (rw (stored_below 4 end (o + 8) b (omega arith) 4 o (omega arith), stored_below 4 end (o + 8) b (omega arith) 4 (o + 4) (omega arith), stored_here 4 end (o + 8) b (omega arith) h, stored_above 4 end (o + 8) b (omega arith) 4 (o + 12) (omega arith) (omega arith)))
      (commit_keeps r (capacity_of b i) (capacity-of ring.capacity) ring.cursors small start end h z.0))

  pub take-kept : {s : Stores} {p : ℕ × ℕ} → take_call b i ≡ taken (s, p) → Kept-in b (stored s b) i
  unfolding take_in
  take-kept {s} {p} y =
      let o : ℕ = offset_of b i in
      let f = ring.inside in
      let r : Ring = ring_at b o in
      let k : Capacity r.capacity = rw ring.cursors.same (capacity-of ring.capacity) in
      let sk : ℕ = skip_at b o r.capacity r.head in
      let n : ℕ = le_at 4 b (o + 16 + (r.head + sk) % r.capacity) in
      let z = checked-pass (take_checks r sk n) _ (s, p) (sym (take_called v l) ∙ y) in
      let x : ℕ = advanced r.head (sk + record_size n) in
      let e : s ≡ (o, bytes_of 4 x) ∷ [] = sym (ap (λ (t : Stores × (ℕ × ℕ)). t.0) (taken_is z.1)) in
      let g = skip_at4 b o r.head k ring.cursors.head4 in
      rw e
      (stored-in o x (record { head = x; reserve = r.reserve; commit = r.commit; capacity = r.capacity }) (omega arith) (omega arith)
      (rw (stored_here 4 x o b (omega arith) (omega arith), stored_above 4 x o b (omega arith) 4 (o + 4) (omega arith) (omega arith), stored_above 4 x o b (omega arith) 4 (o + 8) (omega arith) (omega arith), stored_above 4 x o b (omega arith) 4 (o + 12) (omega arith) (omega arith)))
      (take_keeps r (capacity_of b i) (capacity-of ring.capacity) ring.cursors small (sk + record_size n) (omega arith) (pass-take r sk n z.0).1))

-- bytes within a pair, whatever they are
module _ {b : List ℕ} {i : ℕ} (v : Valid b) (l : i < count_of b) where
  pub within-kept : {c : List ℕ} {start end : ℕ} → OnlyWithin b c (offset_of b i) (capacity_of b i) start end → Kept-in b c i
  within-kept {c} {start} {end} w =
      let q = v.queues i l in
      let f = q.inside in
      let o : ℕ = offset_of b i in
      let n : Inner b c o (capacity_of b i) start (ahead start end) = record { long = w.long; else_same = w.else_same } in
      let num : (a : ℕ) → o ≤ a → a + 4 ≤ o + 16 → le_at 4 c a ≡ le_at 4 b a = λ a g u. le_at-same 4 a b c (omega arith) w.long (λ x y. w.else_same (a + x) (λ j t e. omega arith)) in
      let e : ring_at c o ≡ ring_at b o = rw (num o (omega arith) (omega arith), num (o + 4) (omega arith) (omega arith), num (o + 8) (omega arith) (omega arith), num (o + 12) (omega arith) (omega arith)) in
      record { framed = (inner_framed b o (capacity_of b i) f (capacity-of q.capacity) n).0; cursors = rw e q.cursors }

  -- a fill that is taken: what it stores, and that its pair is as long as that needs
  fill_says : (start end : ℕ) (m : List ℕ) {s : Stores} → fill_call b i start end m ≡ taken (s, tt)
      → (s ≡ fill_stores (offset_of b i) (capacity_of b i) start m) × (ahead start end ≡ need (capacity_of b i) start (length m)) × (start % 4 ≡ 0) × (need (capacity_of b i) start (length m) ≤ capacity_of b i)
  fill_says start end m {s} y =
      let q = v.queues i l in
      let r : Ring = ring_at b (offset_of b i) in
      let z = checked-pass (fill_checks r start end (length m)) _ (s, tt) (sym (fill_called v l start end m) ∙ y) in
      let p = pass_fill r start end (length m) z.0 in
      let near = q.cursors.near in
      let p₂ = p.2 in
      let d : ahead start end ≡ need (capacity_of b i) start (length m) = rw q.cursors.same at p.3 in
      (rw q.cursors.same at (sym (ap (λ (t : Stores × Unit {0}). t.0) (taken_is z.1))), d, p.0, omega arith)

  -- it stores nothing outside its pair, nor does a fill that is stopped after any byte
  pub fill_within : (start end : ℕ) (m : List ℕ) {s : Stores} → fill_call b i start end m ≡ taken (s, tt) → OnlyWithin b (stored s b) (offset_of b i) (capacity_of b i) start end
  fill_within start end m y =
      let q = v.queues i l in
      let f = fill_says start end m y in
      let w = (fill_whole (capacity-of q.capacity) b (offset_of b i) start m q.inside f.2 f.3).0 in
      rw f.0 (record { long = w.long; else_same = rw f.1 w.else_same })

  pub fill_partly : (start end : ℕ) (m : List ℕ) {s : Stores} → fill_call b i start end m ≡ taken (s, tt) → (k : ℕ) → OnlyWithin b (stored (firstly k s) b) (offset_of b i) (capacity_of b i) start end
  fill_partly start end m y k =
      let q = v.queues i l in
      let f = fill_says start end m y in
      let w = fill_begun (capacity-of q.capacity) b (offset_of b i) start m q.inside f.2 f.3 k in
      rw f.0 (record { long = w.long; else_same = rw f.1 w.else_same })

  -- the region stays whole
  pub kept_valid : {c : List ℕ} → Kept-in b c i → Valid c
  kept_valid k = frame_valid v l k.framed k.cursors

  -- and to another queue it happened elsewhere
  pub kept_elsewhere : {c : List ℕ} {q : ℕ} → q < count_of b → (q ≡ i → ⊥) → Kept-in b c i → Elsewhere q b c
  kept_elsewhere {c} {q} u ne k =
      let a = rings_apart v q i u l ne in
      let w = k.framed in
      let h = (v.queues i l).behind in
      record {
        long = w.long;
        tables = λ j g. w.below j (omega arith);
        ring = λ j g t. ⊎_elim (λ e. w.above j (omega arith)) (λ e. w.below j (omega arith)) a;
        valid = kept_valid k;
      }

-- ---- whatever is called

-- a call that is taken was asked of a whole region, for a queue that it has
module _ {A : Type 0} (b : List ℕ) (i : ℕ) where
  pub asked-whole : (next : Outcome A) {a : A} → checked (queue_checks b i) next ≡ taken a → Valid b × (i < count_of b)
  asked-whole next {a} y = pass_queues b i (checked-pass (queue_checks b i) next a y).0

  -- so what is left of the region is what the call kept in its ring, or the region as it was
  either_way : (P : List ℕ → Type 0) (o : Outcome (Stores × A)) → P b → ((s : Stores) (a : A) → o ≡ taken (s, a) → P (stored s b)) → P (region_after o b)
  either_way P (taken x) h f = f x.0 x.1 refl
  either_way P (refused n p) h f = h

module _ {i : ℕ} {b : List ℕ} (bytes : Bytes b) where
  reserve_own : (n : ℕ) {s : Stores} {p : ℕ × ℕ} → reserve_call b i n ≡ taken (s, p) → (i < count_of b) × Kept-in b (stored s b) i
  unfolding reserve_call
  reserve_own n y = let w = asked-whole b i (reserve_in b (offset_of b i) n) y in (w.1, reserve_kept bytes w.0 w.1 n y)

  fill_own : (start end : ℕ) (m : List ℕ) {s : Stores} → fill_call b i start end m ≡ taken (s, tt) → (i < count_of b) × Kept-in b (stored s b) i
  unfolding fill_call
  fill_own start end m y = let w = asked-whole b i (fill_in b (offset_of b i) start end m) y in (w.1, within-kept w.0 w.1 (fill_within w.0 w.1 start end m y))

  commit_own : (start end : ℕ) → end < 4294967296 → {s : Stores} → commit_call b i start end ≡ taken (s, tt) → (i < count_of b) × Kept-in b (stored s b) i
  unfolding commit_call
  commit_own start end h y = let w = asked-whole b i (commit_in b (offset_of b i) start end) y in (w.1, commit_kept bytes w.0 w.1 start end h y)

  take_own : {s : Stores} {p : ℕ × ℕ} → take_call b i ≡ taken (s, p) → (i < count_of b) × Kept-in b (stored s b) i
  unfolding take_call
  take_own y = let w = asked-whole b i (take_in b (offset_of b i)) y in (w.1, take-kept bytes w.0 w.1 y)

  -- what holds of the region as it was, and of one in which the ring of i alone changed
  called_case : (P : List ℕ → Type 0) → Valid b → P b → ((c : List ℕ) → i < count_of b → Kept-in b c i → P c) → {c : List ℕ} → Called i b c → P c
  called_case P v h f (by_reserve n) = either_way b i P (reserve_call b i n) h (λ s a y. let w = reserve_own n y in f (stored s b) w.0 w.1)
  called_case P v h f (by_fill start end m) = either_way b i P (fill_call b i start end m) h (λ s a y. let w = fill_own start end m y in f (stored s b) w.0 w.1)
  called_case P v h f (by_commit start end l) = either_way b i P (commit_call b i start end) h (λ s a y. let w = commit_own start end l y in f (stored s b) w.0 w.1)
  called_case P v h f by_take = either_way b i P (take_call b i) h (λ s a y. let w = take_own y in f (stored s b) w.0 w.1)
  called_case P v h f (by_stop {c = c} l w) = f c l (within-kept v l w)

  pub called_valid : {c : List ℕ} → Valid b → Called i b c → Valid c
  called_valid v k = called_case Valid v v (λ c l w. kept_valid v l w) k

  pub called_elsewhere : {c : List ℕ} {q : ℕ} → Valid b → q < count_of b → (q ≡ i → ⊥) → Called i b c → Elsewhere q b c
  called_elsewhere {c} {q} v u ne k =
      called_case (λ c. Elsewhere q b c) v (record { long = refl; tables = λ j g. refl; ring = λ j g t. refl; valid = v }) (λ c l w. kept_elsewhere v l u ne w) k

pub fill_stores_within : (b : List ℕ) (q start end : ℕ) (m : List ℕ) {s : Stores} → fill_call b q start end m ≡ taken (s, tt) → (k : ℕ) → OnlyWithin b (stored (firstly k s) b) (offset_of b q) (capacity_of b q) start end
unfolding fill_call
fill_stores_within b q start end m y k = let w = asked-whole b q (fill_in b (offset_of b q) start end m) y in fill_partly w.0 w.1 start end m y k
