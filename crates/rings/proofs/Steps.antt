-- Each call on a ring that holds some messages and reservations: what it answers, and what the ring holds after it. Assumes nothing.
use Rattle.std.proofs.Common.{◌≡◌, ℕ, ◌+◌, ◌-◌, ◌*◌, ◌%◌, ◌<◌, ◌≤◌, cond, eqb, List, [], ◌∷◌, ◌++◌, length, sym, refl, ap, ◌∙◌, append_assoc, mod-lt, arith, eq-eqb, ne_eqb}
use Rattle.answer.specs.Numbers.{EMPTY}
use Rattle.answer.specs.Outcome.{taken, refused, Pass}
use Rattle.answer.proofs.Checks.{pass-checked, asked_stop}
use Rattle.wire.specs.Numbers.{le_at, bytes_of}
use Rattle.wire.specs.Parts.{splice}
use Rattle.region.specs.declared.Ring.{Ring}
use Rattle.region.specs.Region.{ahead, ring_at}
use Rattle.region.specs.Valid.{Consistent}
use Rattle.rings.specs.Records.{record_size, rest, skip, need, marker}
use Rattle.rings.specs.Calls.{Stores, stored, commit_checks, take_checks, take_from, take_in, skip_at}
use Rattle.rings.specs.Use.{Slot, raw, full, len_of}
use Rattle.rings.proofs.Capacity.{Capacity, wraps, inside}
use Rattle.rings.proofs.Cases.{commit_pass, take-pass, take-empty}
use Rattle.wire.proofs.Splices.{part, part_same, stored_long, stored_byte_above, stored_here, stored_below, stored_above}
use Rattle.rings.proofs.Places.{skips, Skips, stays, jumps, need4, record_fits, ahead_of, moved_of}
use Rattle.rings.proofs.Queue.{fulls, end_from, Laid, There, Same, Holds, end_from_append, end_from_up, end_from_four, there-same}

-- ---- a cursor is stored: nothing else of the ring moves

module _ {b : List ℕ} {o cap p : ℕ} {ms : List (List ℕ)} {ss : List Slot} (h : Holds b o cap p ms ss) where
  -- the distances, and that the ring is sound
  commit_up : p ≤ end_from cap p (fulls ms)
  commit_up = end_from_up cap p (fulls ms)

  reserve_up : end_from cap p (fulls ms) ≤ end_from cap p (fulls ms ++ ss)
  reserve_up = rw (end_from_append cap p (fulls ms) ss) (end_from_up cap (end_from cap p (fulls ms)) ss)

  pub used : ahead (le_at 4 b o) (le_at 4 b (o + 4)) ≡ end_from cap p (fulls ms ++ ss) - p
  used =
      let k = h.capacity in
      let r = h.room in
      rw (h.head-there, h.reserve_there) (ahead_of p (end_from cap p (fulls ms ++ ss)) (omega (arith, commit_up, reserve_up)) (omega arith))

  pub waiting : ahead (le_at 4 b o) (le_at 4 b (o + 8)) ≡ end_from cap p (fulls ms) - p
  waiting =
      let k = h.capacity in
      let r = h.room in
      rw (h.head-there, h.commit_there) (ahead_of p (end_from cap p (fulls ms)) commit_up (omega (arith, reserve_up)))

  pub reserved : ahead (le_at 4 b (o + 8)) (le_at 4 b (o + 4)) ≡ end_from cap p (fulls ms ++ ss) - end_from cap p (fulls ms)
  reserved =
      let k = h.capacity in
      let r = h.room in
      rw (h.commit_there, h.reserve_there) (ahead_of (end_from cap p (fulls ms)) (end_from cap p (fulls ms ++ ss)) reserve_up (omega (arith, commit_up)))

  pub cursors_held : Consistent (ring_at b o) cap
  cursors_held =
      let r = h.room in
      let four = h.four in
      record {
        head4 = rw h.head-there (omega arith);
        reserve4 = rw h.reserve_there (omega (arith, end_from_four h.capacity p (fulls ms ++ ss) four));
        commit4 = rw h.commit_there (omega (arith, end_from_four h.capacity p (fulls ms) four));
        near = rw (waiting, reserved) (omega (arith, commit_up, reserve_up));
        same = h.capacity_there;
      }

-- ---- a cursor is stored

module _ (b : List ℕ) (o cap a x : ℕ) (fits : o + 16 + cap ≤ length b) (low : o ≤ a) (high : a + 4 ≤ o + 16) where
  cursor_long : length (splice a (bytes_of 4 x) b) ≡ length b
  cursor_long = stored_long 4 x a b (omega arith)

  cursor_data : (p e : ℕ) → Same b (splice a (bytes_of 4 x) b) o cap p e
  cursor_data p e y g l = stored_byte_above 4 x a b (omega arith) (o + 16 + y % cap) (omega arith)

  cursor_here : x < 4294967296 → le_at 4 (splice a (bytes_of 4 x) b) a ≡ x
  cursor_here h = stored_here 4 x a b (omega arith) h

  cursor_below : (j : ℕ) → j + 4 ≤ a → le_at 4 (splice a (bytes_of 4 x) b) j ≡ le_at 4 b j
  cursor_below j g = stored_below 4 x a b (omega arith) 4 j g

  cursor_above : (j : ℕ) → a + 4 ≤ j → j + 4 ≤ o + 16 → le_at 4 (splice a (bytes_of 4 x) b) j ≡ le_at 4 b j
  cursor_above j g i = stored_above 4 x a b (omega arith) 4 j g (omega arith)

-- ---- reserve

module _ (b : List ℕ) (o cap : ℕ) where
  there-append : (p : ℕ) (xs ys : List Slot) → There b o cap p xs → There b o cap (end_from cap p xs) ys → There b o cap p (xs ++ ys)
  there-append p [] ys h g = g
  there-append p (x ∷ xs) ys h g = (h.0, h.1, there-append (p + need cap p (len_of x)) xs ys h.2 g)

  pub there_tail : (p : ℕ) (xs ys : List Slot) → There b o cap p (xs ++ ys) → There b o cap (end_from cap p xs) ys
  there_tail p [] ys h = h
  there_tail p (x ∷ xs) ys h = there_tail (p + need cap p (len_of x)) xs ys h.2

module _ {b : List ℕ} {o cap p : ℕ} {ms : List (List ℕ)} {ss : List Slot} (h : Holds b o cap p ms ss) where
  pub reserve_holds : (n : ℕ) → 2 * record_size n ≤ cap → end_from cap p (fulls ms ++ ss) + need cap (end_from cap p (fulls ms ++ ss)) n ≤ p + cap
      → Holds (splice (o + 4) (bytes_of 4 ((end_from cap p (fulls ms ++ ss) + need cap (end_from cap p (fulls ms ++ ss)) n) % 4294967296)) b) o cap p ms (ss ++ raw n ∷ [])
  reserve_holds n big room =
      let r : ℕ = end_from cap p (fulls ms ++ ss) in
      let x : ℕ = (r + need cap r n) % 4294967296 in
      let f = h.fits in
      let e : end_from cap p (fulls ms ++ (ss ++ raw n ∷ [])) ≡ r + need cap r n = rw (← append_assoc, end_from_append cap p (fulls ms ++ ss) (raw n ∷ [])) in
      let l = cursor_long b o cap (o + 4) x f (omega arith) (omega arith) in
      record {
        capacity = h.capacity;
        capacity_there = cursor_above b o cap (o + 4) x f (omega arith) (omega arith) (o + 12) (omega arith) (omega arith) ∙ h.capacity_there;
        fits = omega arith;
        four = h.four;
        head-there = cursor_below b o cap (o + 4) x f (omega arith) (omega arith) o (omega arith) ∙ h.head-there;
        commit_there = cursor_above b o cap (o + 4) x f (omega arith) (omega arith) (o + 8) (omega arith) (omega arith) ∙ h.commit_there;
        reserve_there = rw e (cursor_here b o cap (o + 4) x f (omega arith) (omega arith) (mod-lt _ (omega arith)));
        room = rw e room;
        there = rw (← append_assoc)
            (there-append (splice (o + 4) (bytes_of 4 x) b) o cap p (fulls ms ++ ss) (raw n ∷ [])
            (there-same h.capacity b (splice (o + 4) (bytes_of 4 x) b) o f l p (fulls ms ++ ss) h.four (cursor_data b o cap (o + 4) x f (omega arith) (omega arith) p _) h.there)
            (big, tt, tt));
      }

-- ---- commit

pub fulls_append : (xs ys : List (List ℕ)) → fulls (xs ++ ys) ≡ fulls xs ++ fulls ys
fulls_append [] ys = refl
fulls_append (x ∷ xs) ys = ap (λ (l : List Slot). full x ∷ l) (fulls_append xs ys)

module _ {b : List ℕ} {o cap p : ℕ} {ms : List (List ℕ)} {m : List ℕ} {ss : List Slot} (h : Holds b o cap p ms (full m ∷ ss)) where
  pub commit_holds : Holds (splice (o + 8) (bytes_of 4 ((end_from cap p (fulls ms) + need cap (end_from cap p (fulls ms)) (length m)) % 4294967296)) b) o cap p (ms ++ m ∷ []) ss
  commit_holds =
      let q : ℕ = end_from cap p (fulls ms) in
      let x : ℕ = (q + need cap q (length m)) % 4294967296 in
      let f = h.fits in
      let a : fulls (ms ++ m ∷ []) ++ ss ≡ fulls ms ++ (full m ∷ ss) = rw (fulls_append ms (m ∷ []), append_assoc) in
      let e : end_from cap p (fulls (ms ++ m ∷ [])) ≡ q + need cap q (length m) = rw (fulls_append ms (m ∷ []), end_from_append cap p (fulls ms) (full m ∷ [])) in
      let l = cursor_long b o cap (o + 8) x f (omega arith) (omega arith) in
      record {
        capacity = h.capacity;
        capacity_there = cursor_above b o cap (o + 8) x f (omega arith) (omega arith) (o + 12) (omega arith) (omega arith) ∙ h.capacity_there;
        fits = omega arith;
        four = h.four;
        head-there = cursor_below b o cap (o + 8) x f (omega arith) (omega arith) o (omega arith) ∙ h.head-there;
        commit_there = rw e (cursor_here b o cap (o + 8) x f (omega arith) (omega arith) (mod-lt _ (omega arith)));
        reserve_there = rw a (cursor_below b o cap (o + 8) x f (omega arith) (omega arith) (o + 4) (omega arith) ∙ h.reserve_there);
        room = rw a h.room;
        there = rw a (there-same h.capacity b (splice (o + 8) (bytes_of 4 x) b) o f l p (fulls ms ++ (full m ∷ ss)) h.four (cursor_data b o cap (o + 8) x f (omega arith) (omega arith) p _) h.there);
      }

  -- the pair of the first reservation is taken
  pub commit_taken : Pass (commit_checks (ring_at b o) (end_from cap p (fulls ms) % 4294967296) ((end_from cap p (fulls ms) + need cap (end_from cap p (fulls ms)) (length m)) % 4294967296))
  commit_taken =
      let k = h.capacity in
      let r = h.room in
      let q : ℕ = end_from cap p (fulls ms) in
      let z : ℕ = end_from cap p (fulls ms ++ (full m ∷ ss)) in
      let u₀ : p ≤ q = end_from_up cap p (fulls ms) in
      let u₁ : z ≡ end_from cap (q + need cap q (length m)) ss = end_from_append cap p (fulls ms) (full m ∷ ss) in
      let u₂ : q + need cap q (length m) ≤ end_from cap (q + need cap q (length m)) ss = end_from_up cap (q + need cap q (length m)) ss in
      let f₀ : q % 4 ≡ 0 = end_from_four k p (fulls ms) h.four in
      let f₁ : (q + need cap q (length m)) % 4 ≡ 0 = need4 k q (length m) f₀ in
      let d : ahead (q % 4294967296) ((q + need cap q (length m)) % 4294967296) ≡ q + need cap q (length m) - q = ahead_of q (q + need cap q (length m)) (omega arith) (omega arith) in
      commit_pass (ring_at b o) (q % 4294967296) ((q + need cap q (length m)) % 4294967296) (omega arith) (omega arith) (sym h.commit_there)
      (rw (reserved h, h.commit_there, d) (omega arith))

-- ---- take

module _ {cap : ℕ} (k : Capacity cap) where
  pub wraps-add : (p s : ℕ) → (p % 4294967296 + s) % cap ≡ (p + s) % cap
  wraps-add p s =
      let e : (p % 4294967296 + s) % 4294967296 ≡ (p + s) % 4294967296 = omega arith in
      sym (wraps k (p % 4294967296 + s)) ∙ ap (λ (i : ℕ). i % cap) e ∙ wraps k (p + s)

  -- the taker sees the skip that the producer made
  seen_skip : (b : List ℕ) (o p : ℕ) (m : List ℕ) → 2 * record_size (length m) ≤ cap → Laid b o cap p m → skip_at b o cap (p % 4294967296) ≡ skip cap p (length m)
  unfolding skip_at
  seen_skip b o p m big h = rw (wraps k p) (go (skips k p (length m)))
    where
      go : Skips k p (length m) → cond (eqb (le_at 4 b (o + 16 + p % cap)) marker) (rest cap p) 0 ≡ skip cap p (length m)
      go (stays e g) =
          let z : p + skip cap p (length m) ≡ p = omega arith in
          let w : le_at 4 b (o + 16 + p % cap) ≡ length m = rw z at h.count in
          let most = k.most in
          rw (ne_eqb (le_at 4 b (o + 16 + p % cap)) marker (λ v. omega arith), e)
      go (jumps e g) =
          let i = inside k p in
          rw (eq-eqb (le_at 4 b (o + 16 + p % cap)) marker (h.marker (omega arith)), e)

-- what a take of the message m at position p comes to
abbrev pub taken_at : ℕ → ℕ → ℕ → List ℕ → Stores × (ℕ × ℕ)
taken_at o cap p m = ((o, bytes_of 4 ((p + need cap p (length m)) % 4294967296)) ∷ [], (o + 16 + (p + skip cap p (length m)) % cap + 4, length m))

take_at : (b : List ℕ) (o s at : ℕ) → s ≡ skip_at b o (ring_at b o).capacity (ring_at b o).head → at ≡ o + 16 + ((ring_at b o).head + s) % (ring_at b o).capacity → take_in b o ≡ take_from b o s at
unfolding take_in
take_at b o s at e f = rw (f, e)

module _ {b : List ℕ} {o cap p : ℕ} {ss : List Slot} where
  pub take_none : Holds b o cap p [] ss → take_in b o ≡ refused EMPTY 0
  take_none h =
      let r : Ring = ring_at b o in
      let s : ℕ = skip_at b o r.capacity r.head in
      let at : ℕ = o + 16 + (r.head + s) % r.capacity in
      take_at b o s at refl refl ∙ asked_stop (take_checks r s (le_at 4 b at)) _ (take-empty r s (le_at 4 b at) (rw (waiting h) (omega arith)))

  pub take-first : {m : List ℕ} {ms : List (List ℕ)} → Holds b o cap p (m ∷ ms) ss → take_in b o ≡ taken (taken_at o cap p m)
  take-first {m} {ms} h =
      let k = h.capacity in
      let n : ℕ = length m in
      let s : ℕ = skip cap p n in
      let at : ℕ = o + 16 + (p + s) % cap in
      let big = h.there.0 in
      let laid = h.there.1 in
      let u = end_from_up cap (p + need cap p n) (fulls ms) in
      let w = waiting h in
      let sk : s ≡ skip_at b o (ring_at b o).capacity (ring_at b o).head = rw (h.capacity_there, h.head-there) (sym (seen_skip k b o p m big laid)) in
      let pl : at ≡ o + 16 + ((ring_at b o).head + s) % (ring_at b o).capacity = rw (h.capacity_there, h.head-there, wraps-add k p s) in
      let fit = record_fits k p n (omega arith) in
      let pass : Pass (take_checks (ring_at b o) s (le_at 4 b at)) =
      rw laid.count
      (take-pass (ring_at b o) s n (rw w (omega arith)) (rw w (omega arith)) (rw w (omega arith))
      (rw (h.capacity_there, h.head-there, wraps-add k p s) (omega arith))) in
      take_at b o s at sk pl ∙ pass-checked (take_checks (ring_at b o) s (le_at 4 b at)) _ pass
      ∙ rw (laid.count, h.head-there, moved_of p (s + record_size n))

  pub take-holds : {m : List ℕ} {ms : List (List ℕ)} → Holds b o cap p (m ∷ ms) ss
      → Holds (splice o (bytes_of 4 ((p + need cap p (length m)) % 4294967296)) b) o cap (p + need cap p (length m)) ms ss
  take-holds {m} {ms} h =
      let q : ℕ = p + need cap p (length m) in
      let x : ℕ = q % 4294967296 in
      let f = h.fits in
      let l = cursor_long b o cap o x f (omega arith) (omega arith) in
      record {
        capacity = h.capacity;
        capacity_there = cursor_above b o cap o x f (omega arith) (omega arith) (o + 12) (omega arith) (omega arith) ∙ h.capacity_there;
        fits = omega arith;
        four = need4 h.capacity p (length m) h.four;
        head-there = cursor_here b o cap o x f (omega arith) (omega arith) (mod-lt _ (omega arith));
        commit_there = cursor_above b o cap o x f (omega arith) (omega arith) (o + 8) (omega arith) (omega arith) ∙ h.commit_there;
        reserve_there = cursor_above b o cap o x f (omega arith) (omega arith) (o + 4) (omega arith) (omega arith) ∙ h.reserve_there;
        room = let r = h.room in omega arith;
        there = there-same h.capacity b (splice o (bytes_of 4 x) b) o f l q (fulls ms ++ ss) (need4 h.capacity p (length m) h.four) (cursor_data b o cap o x f (omega arith) (omega arith) q _) h.there.2;
      }

  -- the payload stands where the take said, also when head has moved
  pub take-payload : {m : List ℕ} {ms : List (List ℕ)} → Holds b o cap p (m ∷ ms) ss → part (length m) (taken_at o cap p m).1.0 (stored (taken_at o cap p m).0 b) ≡ m
  take-payload {m} {ms} h =
      let x : ℕ = (p + need cap p (length m)) % 4294967296 in
      let at : ℕ = o + 16 + (p + skip cap p (length m)) % cap + 4 in
      let f = h.fits in
      let big = h.there.0 in
      let fit = record_fits h.capacity p (length m) (omega arith) in
      part_same (length m) at b (splice o (bytes_of 4 x) b) (omega arith) (cursor_long b o cap o x f (omega arith) (omega arith))
      (λ i g. stored_byte_above 4 x o b (omega arith) (at + i) (omega arith))
      ∙ h.there.1.payload
