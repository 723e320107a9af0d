-- A change within one ring, after which its header is right, leaves a whole region whole. Assumes nothing.
use Rattle.std.proofs.Common.{◌≡◌, ℕ, ◌+◌, ◌*◌, ◌<◌, ◌≤◌, List, length, get_or, sym, ◌∙◌, inl, inr, ⊎_elim, arith}
use native.Mathlib.Decide.{dec_lt, ℕ_discrete}
use Rattle.wire.specs.Numbers.{le_at, bytes_of}
use Rattle.wire.specs.Parts.{splice}
use Rattle.region.specs.Region.{count_of, offset_of, capacity_of, ring_at}
use Rattle.region.specs.Valid.{Consistent, Queue, Apart, Valid}
use Rattle.wire.proofs.Splices.{le_at-same, stored_long, stored_byte_below, stored_byte_above, stored_above}
use Rattle.rings.proofs.Capacity.{Capacity, inside}
use Rattle.rings.proofs.Inner.{Inner}

-- c differs from b at most in the ring at o, of capacity cap
pub record Framed (b c : List ℕ) (o cap : ℕ) : Type 0 where
  pub long : length c ≡ length b
  pub below : (j : ℕ) → j < o → get_or c j 0 ≡ get_or b j 0
  pub above : (j : ℕ) → o + 16 + cap ≤ j → get_or c j 0 ≡ get_or b j 0

-- two rings of a region have no byte in common
pub rings_apart : {b : List ℕ} → Valid b → (i j : ℕ) → i < count_of b → j < count_of b → (i ≡ j → ⊥) → Apart b i j
rings_apart {b} v i j l u ne = go (dec_lt j i)
  where
    go : Dec (j < i) → Apart b i j
    go (yes p) = v.apart i j p l
    go (no p) = ⊎_elim (λ e. inr e) (λ e. inl e) (v.apart j i (omega (arith, p, ne)) u)

module _ {b c : List ℕ} {q : ℕ} (v : Valid b) (l : q < count_of b) (w : Framed b c (offset_of b q) (capacity_of b q)) where
  num : (a : ℕ) → a + 4 ≤ 16 + 16 * count_of b → le_at 4 c a ≡ le_at 4 b a
  num a h =
      let t = v.table in
      le_at-same 4 a b c (omega arith) w.long (λ k g. w.below (a + k) (omega (arith, (v.queues q l).behind)))

  pub frame-count : count_of c ≡ count_of b
  frame-count = num 12 (omega arith)

  pub frame_offset : (j : ℕ) → j < count_of b → offset_of c j ≡ offset_of b j
  frame_offset j h = num (20 + 16 * j) (omega arith)

  pub frame_capacity : (j : ℕ) → j < count_of b → capacity_of c j ≡ capacity_of b j
  frame_capacity j h = num (24 + 16 * j) (omega arith)

  -- another ring's header stays
  ring-same : (j : ℕ) → j < count_of b → Apart b j q → ring_at c (offset_of b j) ≡ ring_at b (offset_of b j)
  ring-same j h a =
      let o : ℕ = offset_of b j in
      rw (word o (omega arith) (omega arith), word (o + 4) (omega arith) (omega arith), word (o + 8) (omega arith) (omega arith), word (o + 12) (omega arith) (omega arith))
    where
      byte : (x : ℕ) → offset_of b j ≤ x → x < offset_of b j + 16 → get_or c x 0 ≡ get_or b x 0
      byte x g u = ⊎_elim (λ e. w.above x (omega arith)) (λ e. w.below x (omega arith)) a

      word : (x : ℕ) → offset_of b j ≤ x → x + 4 ≤ offset_of b j + 16 → le_at 4 c x ≡ le_at 4 b x
      word x g u = le_at-same 4 x b c (omega (arith, (v.queues j h).inside)) w.long (λ k y. byte (x + k) (omega arith) (omega arith))

  module _ (s : Consistent (ring_at c (offset_of b q)) (capacity_of b q)) where
    cursors_same : (j : ℕ) → j < count_of b → Consistent (ring_at c (offset_of b j)) (capacity_of b j)
    cursors_same j h = go (ℕ_discrete j q)
      where
        go : Dec (j ≡ q) → Consistent (ring_at c (offset_of b j)) (capacity_of b j)
        go (yes e) = rw e s
        go (no e) = rw (ring-same j h (rings_apart v j q h l e)) (v.queues j h).cursors

    queue_same : (j : ℕ) → j < count_of b → Queue c j
    queue_same j h =
        let y = v.queues j h in
        let long = w.long in
        let u = y.inside in
        record {
          four = rw (frame_offset j h) y.four;
          behind = rw (frame_offset j h, frame-count) y.behind;
          inside = rw (frame_offset j h, frame_capacity j h) (omega arith);
          capacity = rw (frame_capacity j h) y.capacity;
          spare = num (28 + 16 * j) (omega arith) ∙ y.spare;
          cursors = rw (frame_offset j h, frame_capacity j h) (cursors_same j h);
        }

    pub frame_valid : Valid c
    frame_valid =
        let long = w.long in
        let v₀ = v.long in
        let v₁ = v.few in
        let v₂ = v.table in
        let n = frame-count in
        record {
          long = omega arith;
          magic = num 0 (omega arith) ∙ v.magic;
          version = num 4 (omega arith) ∙ v.version;
          total = num 8 (omega arith) ∙ v.total ∙ sym long;
          few = omega arith;
          table = omega arith;
          queues = λ i h. queue_same i (omega arith);
          apart = λ i j k h. rw (frame_offset i (omega arith), frame_offset j (omega arith), frame_capacity i (omega arith), frame_capacity j (omega arith)) (v.apart i j k (omega arith));
        }

-- which bytes a step changes
module _ (b : List ℕ) (o cap : ℕ) (fits : o + 16 + cap ≤ length b) where
  pub stored-framed : (a x : ℕ) → o ≤ a → a + 4 ≤ o + 12 → Framed b (splice a (bytes_of 4 x) b) o cap × (le_at 4 (splice a (bytes_of 4 x) b) (o + 12) ≡ le_at 4 b (o + 12))
  stored-framed a x l u = (
    record {
      long = stored_long 4 x a b (omega arith);
      below = λ j h. stored_byte_below 4 x a b (omega arith) j (omega arith);
      above = λ j h. stored_byte_above 4 x a b (omega arith) j (omega arith);
    },
    stored_above 4 x a b (omega arith) 4 (o + 12) (omega arith) (omega arith),
  )

  pub inner_framed : {c : List ℕ} {p n : ℕ} → Capacity cap → Inner b c o cap p n → Framed b c o cap × (le_at 4 c (o + 12) ≡ le_at 4 b (o + 12))
  inner_framed {c} {p} {n} k w = (
    record {
      long = w.long;
      below = λ j h. w.else_same j (λ i g e. omega arith);
      above = λ j h. w.else_same j (λ i g e. omega (arith, inside k (p + i)));
    },
    le_at-same 4 (o + 12) b c (omega arith) w.long (λ x g. w.else_same (o + 12 + x) (λ i u e. omega arith)),
  )
