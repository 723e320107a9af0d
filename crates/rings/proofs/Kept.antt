-- What every step of the use of a ring keeps: the ring at o holds the messages and the reservations, and each open pair is the cursors of its reservation.
-- Assumes nothing.
use Rattle.std.proofs.Common.{◌≡◌, ℕ, ◌+◌, ◌-◌, ◌*◌, ◌%◌, ◌<◌, ◌≤◌, List, [], ◌∷◌, ◌++◌, length, get_or, sym, refl, ap, ◌∙◌, append_assoc, mod-eq_of_lt, arith}
use Rattle.answer.specs.Numbers.{TURN}
use Rattle.answer.specs.Outcome.{taken, refused, Pass}
use Rattle.answer.specs.Calls.{asked}
use Rattle.answer.proofs.Checks.{checked-pass}
use Rattle.answer.proofs.Outcomes.{taken_is, taken_refused}
use Rattle.wire.specs.Numbers.{le_at, bytes_of, Bytes}
use Rattle.wire.proofs.Numbers.{le_at_bound}
use Rattle.region.specs.Region.{ahead, ring_at}
use Rattle.rings.specs.Records.{advanced, record_size, skip, need}
use Rattle.rings.specs.Calls.{Stores, stored, reserve_checks, reserve_in, fill_checks, fill_stores, fill_in, commit_checks, commit_in, take_in}
use Rattle.rings.specs.Use.{Slot, raw, full, len_of, OpenPair, with, OnlyWithin}
use Rattle.rings.proofs.Capacity.{Capacity, inside}
use Rattle.rings.proofs.Cases.{pass_reserve, fill_pass, pass_fill, commit_other}
use Rattle.wire.proofs.Splices.{le_at-same}
use Rattle.rings.proofs.Places.{ahead_of, moved_of, skip-wraps, need4, need-fits, need_size, size_need}
use Rattle.rings.proofs.Queue.{fulls, end_from, Here, Holds, end_from_append, end_from_up, end_from_four, there-same}
use Rattle.rings.proofs.Steps.{fulls_append, used, reserved, reserve_holds, commit_holds, commit_taken, take_none, take-first, take-holds, there_tail}
use Rattle.rings.proofs.Inner.{Inner, inner_wraps, change_holds, fill_whole, stores_wrap}

abbrev pub slots : List OpenPair → List Slot
slots [] = []
slots (q ∷ qs) = q.slot ∷ slots qs

-- each pair is the cursors of its slot, from position p on
abbrev pub Paired : ℕ → ℕ → List OpenPair → Type 0
Paired cap p [] = Unit {0}
Paired cap p (q ∷ qs) =
    (q.start ≡ p % 4294967296) × (q.end ≡ (p + need cap p (len_of q.slot)) % 4294967296) × Paired cap (p + need cap p (len_of q.slot)) qs

-- what every step keeps
pub record Kept (o : ℕ) (b : List ℕ) (ms : List (List ℕ)) (ps : List OpenPair) : Type 0 where
  pub cap : ℕ
  pub p : ℕ
  pub holds : Holds b o cap p ms (slots ps)
  pub paired : Paired cap (end_from cap p (fulls ms)) ps

slots_append : (xs ys : List OpenPair) → slots (xs ++ ys) ≡ slots xs ++ slots ys
slots_append [] ys = refl
slots_append (x ∷ xs) ys = ap (λ (l : List Slot). x.slot ∷ l) (slots_append xs ys)

paired_append : (cap p : ℕ) (xs ys : List OpenPair) → Paired cap p xs → Paired cap (end_from cap p (slots xs)) ys → Paired cap p (xs ++ ys)
paired_append cap p [] ys h g = g
paired_append cap p (x ∷ xs) ys h g = (h.0, h.1, paired_append cap (p + need cap p (len_of x.slot)) xs ys h.2 g)

paired_tail : (cap p : ℕ) (xs ys : List OpenPair) → Paired cap p (xs ++ ys) → Paired cap (end_from cap p (slots xs)) ys
paired_tail cap p [] ys h = h
paired_tail cap p (x ∷ xs) ys h = paired_tail cap (p + need cap p (len_of x.slot)) xs ys h.2

paired_swap : (cap p : ℕ) (xs : List OpenPair) (q : OpenPair) (s : Slot) (ys : List OpenPair) → record_size (len_of q.slot) ≡ record_size (len_of s) → Paired cap p (xs ++ q ∷ ys) → Paired cap p (xs ++ with q s ∷ ys)
paired_swap cap p [] q s ys e h = let z = size_need cap p (len_of q.slot) (len_of s) e in (h.0, rw (← z) h.1, rw (← z) h.2)
paired_swap cap p (x ∷ xs) q s ys e h = (h.0, h.1, paired_swap cap (p + need cap p (len_of x.slot)) xs q s ys e h.2)

-- a cursor of the ring at o is stored, and nothing else
pub record One (o : ℕ) (s : Stores) : Type 0 where
  pub at : ℕ
  pub value : ℕ
  pub low : o ≤ at
  pub high : at + 4 ≤ o + 12
  pub is : s ≡ (at, bytes_of 4 value) ∷ []

-- ---- the steps

pub kept_begin : {o : ℕ} {b : List ℕ} → Bytes b → o + 16 + (ring_at b o).capacity ≤ length b → Capacity (ring_at b o).capacity → (ring_at b o).head % 4 ≡ 0
    → (ring_at b o).commit ≡ (ring_at b o).head → (ring_at b o).reserve ≡ (ring_at b o).head → Kept o b [] []
kept_begin {o} {b} bytes fits k four e f =
    let w : le_at 4 b o % 4294967296 ≡ le_at 4 b o = mod-eq_of_lt (le_at_bound 4 b o bytes) in
    record {
      cap = (ring_at b o).capacity;
      p = (ring_at b o).head;
      holds = record {
        capacity = k;
        capacity_there = refl;
        fits = fits;
        four = four;
        head-there = sym w;
        commit_there = e ∙ sym w;
        reserve_there = f ∙ sym w;
        room = omega arith;
        there = tt;
      };
      paired = tt;
    }

-- what reserve answers, in positions
reserve_says : {b : List ℕ} {o cap p : ℕ} {ms : List (List ℕ)} {ss : List Slot} → Holds b o cap p ms ss → (n : ℕ) → Pass (reserve_checks (ring_at b o) n)
    → (2 * record_size n ≤ cap) × (end_from cap p (fulls ms ++ ss) + need cap (end_from cap p (fulls ms ++ ss)) n ≤ p + cap)
    × (advanced (ring_at b o).reserve (need (ring_at b o).capacity (ring_at b o).reserve n) ≡ (end_from cap p (fulls ms ++ ss) + need cap (end_from cap p (fulls ms ++ ss)) n) % 4294967296)
reserve_says {b} {o} {cap} {p} {ms} {ss} h n y =
    let r : ℕ = end_from cap p (fulls ms ++ ss) in
    let k = h.capacity in
    let z = pass_reserve (ring_at b o) n y in
    let z₀ : 2 * record_size n ≤ cap = rw h.capacity_there at z.0 in
    let sw : skip (ring_at b o).capacity (ring_at b o).reserve n ≡ skip cap r n = rw (h.capacity_there, h.reserve_there) (skip-wraps k r n) in
    let z₁ : ahead (le_at 4 b o) (le_at 4 b (o + 4)) + need cap r n ≤ cap = rw (sw, h.capacity_there) at z.1 in
    let u = used h in
    let up : p ≤ r = end_from_up cap p (fulls ms ++ ss) in
    (z₀, omega arith, rw (sw, h.reserve_there, moved_of r (need cap r n)))

pub kept_reserves : {o : ℕ} {b : List ℕ} {ms : List (List ℕ)} {ps : List OpenPair} → Kept o b ms ps → (n : ℕ) {s : Stores} {start end : ℕ} → reserve_in b o n ≡ taken (s, (start, end))
    → One o s × Kept o (stored s b) ms (ps ++ record { start = start; end = end; slot = raw n } ∷ [])
kept_reserves {o} {b} {ms} {ps} k n {s} {start} {end} y =
    let cap : ℕ = k.cap in
    let p : ℕ = k.p in
    let r : ℕ = end_from cap p (fulls ms ++ slots ps) in
    let c = checked-pass (reserve_checks (ring_at b o) n) _ (s, (start, end)) y in
    let w = reserve_says k.holds n c.0 in
    let t = taken_is c.1 in
    let x : ℕ = (r + need cap r n) % 4294967296 in
    let e₀ : s ≡ (o + 4, bytes_of 4 x) ∷ [] = rw w.2 at (sym (ap (λ (z : Stores × (ℕ × ℕ)). z.0) t)) in
    let e₁ : start ≡ r % 4294967296 = sym (ap (λ (z : Stores × (ℕ × ℕ)). z.1.0) t) ∙ k.holds.reserve_there in
    let e₂ : end ≡ x = sym (ap (λ (z : Stores × (ℕ × ℕ)). z.1.1) t) ∙ w.2 in
    let e : end_from cap (end_from cap p (fulls ms)) (slots ps) ≡ r = sym (end_from_append cap p (fulls ms) (slots ps)) in (
      record { at = o + 4; value = x; low = omega arith; high = omega arith; is = e₀ },
      rw (e₀, e₁, e₂)
          (record {
            cap = cap;
            p = p;
            holds = rw (slots_append ps _) (reserve_holds k.holds n w.0 w.1);
            paired = paired_append cap (end_from cap p (fulls ms)) ps _ k.paired (rw e (refl, refl, tt));
          }),
    )

-- ---- a pair that is handed on

-- the position at which the slot behind the messages ms and the pairs xs starts
unfoldable pub spot : ℕ → ℕ → List (List ℕ) → List OpenPair → ℕ
spot cap p ms xs = end_from cap p (fulls ms ++ slots xs)

module _ {o cap p : ℕ} {b : List ℕ} {ms : List (List ℕ)} (xs : List OpenPair) (q : OpenPair) (ys : List OpenPair)
    (h : Holds b o cap p ms (slots xs ++ q.slot ∷ slots ys)) (g : Paired cap (end_from cap p (fulls ms)) (xs ++ q ∷ ys)) where
  spot_so : end_from cap (end_from cap p (fulls ms)) (slots xs) ≡ spot cap p ms xs
  unfolding spot
  spot_so = sym (end_from_append cap p (fulls ms) (slots xs))

  starts : q.start ≡ spot cap p ms xs % 4294967296
  starts = rw (spot_so) at (paired_tail cap (end_from cap p (fulls ms)) xs (q ∷ ys) g).0

  ends : q.end ≡ (spot cap p ms xs + need cap (spot cap p ms xs) (len_of q.slot)) % 4294967296
  ends = rw (spot_so) at (paired_tail cap (end_from cap p (fulls ms)) xs (q ∷ ys) g).1

  half : 2 * record_size (len_of q.slot) ≤ cap
  half =
      let a : fulls ms ++ (slots xs ++ q.slot ∷ slots ys) ≡ (fulls ms ++ slots xs) ++ q.slot ∷ slots ys = rw append_assoc in
      (there_tail b o cap p (fulls ms ++ slots xs) (q.slot ∷ slots ys) (rw a at h.there)).0

  spot_four : spot cap p ms xs % 4 ≡ 0
  unfolding spot
  spot_four = end_from_four h.capacity p (fulls ms ++ slots xs) h.four

  spot_up : end_from cap p (fulls ms) ≤ spot cap p ms xs
  spot_up = rw (← spot_so) (end_from_up cap (end_from cap p (fulls ms)) (slots xs))

  spot_end : spot cap p ms xs + need cap (spot cap p ms xs) (len_of q.slot) ≤ end_from cap p (fulls ms ++ (slots xs ++ q.slot ∷ slots ys))
  unfolding spot
  spot_end =
      let a : fulls ms ++ (slots xs ++ q.slot ∷ slots ys) ≡ (fulls ms ++ slots xs) ++ q.slot ∷ slots ys = rw append_assoc in
      rw (a, end_from_append cap p (fulls ms ++ slots xs) (q.slot ∷ slots ys)) (end_from_up cap _ (slots ys))

  apart_so : ahead q.start q.end ≡ need cap (spot cap p ms xs) (len_of q.slot)
  apart_so =
      let c = h.capacity in
      let at : ℕ = spot cap p ms xs in
      let n = need-fits c at (len_of q.slot) half in
      let most = c.most in
      let z : at + need cap at (len_of q.slot) - at ≡ need cap at (len_of q.slot) = omega arith in
      rw (starts, ends) (ahead_of at (at + need cap at (len_of q.slot)) (omega arith) (omega arith) ∙ z)

  pub fill_taken : (n : ℕ) → record_size n ≡ record_size (len_of q.slot) → Pass (fill_checks (ring_at b o) q.start q.end n)
  fill_taken n e =
      let c = h.capacity in
      let most = c.most in
      let r = h.room in
      let at : ℕ = spot cap p ms xs in
      let w₀ = spot_up in
      let w₁ = spot_end in
      let f = spot_four in
      let u : p ≤ end_from cap p (fulls ms) = end_from_up cap p (fulls ms) in
      let f₁ : (at + need cap at (len_of q.slot)) % 4 ≡ 0 = need4 c at (len_of q.slot) f in
      let d : ahead (end_from cap p (fulls ms) % 4294967296) (at % 4294967296) ≡ at - end_from cap p (fulls ms) =
      ahead_of (end_from cap p (fulls ms)) at (omega arith) (omega arith) in
      fill_pass (ring_at b o) q.start q.end n
      (rw starts (omega arith))
      (rw ends (omega arith))
      (rw (reserved h, apart_so, starts, h.commit_there, d) (omega arith))
      (apart_so ∙ sym (size_need cap at n (len_of q.slot) e) ∙ rw (starts, h.capacity_there, skip-wraps c at n))

  -- a fill that is taken is one of the pair's size
  same_size : (n : ℕ) → Pass (fill_checks (ring_at b o) q.start q.end n) → record_size (len_of q.slot) ≡ record_size n
  same_size n y =
      let c = h.capacity in
      let at : ℕ = spot cap p ms xs in
      let z : need (ring_at b o).capacity q.start n ≡ need cap at n = rw (starts, h.capacity_there, skip-wraps c at n) in
      need_size c at (len_of q.slot) n (sym apart_so ∙ (pass_fill (ring_at b o) q.start q.end n y).3 ∙ z)

  -- its bytes change, and with them what is in it
  kept_change : {c : List ℕ} (s : Slot) → record_size (len_of q.slot) ≡ record_size (len_of s) → Inner b c o cap (spot cap p ms xs) (need cap (spot cap p ms xs) (len_of q.slot))
      → Here c o cap (spot cap p ms xs) s → Kept o c ms (xs ++ with q s ∷ ys)
  unfolding spot
  kept_change s e w t = record {
    cap = cap;
    p = p;
    holds = rw (slots_append xs (with q s ∷ ys)) (change_holds (slots xs) q.slot s (slots ys) e h w t);
    paired = paired_swap cap (end_from cap p (fulls ms)) xs q s ys e g;
  }

  kept_filled : (m : List ℕ) {s : Stores} → fill_in b o q.start q.end m ≡ taken (s, tt)
      → Inner b (stored s b) o cap (spot cap p ms xs) (need cap (spot cap p ms xs) (length m)) × Kept o (stored s b) ms (xs ++ with q (full m) ∷ ys)
  kept_filled m {s} y =
      let c = h.capacity in
      let at : ℕ = spot cap p ms xs in
      let v = checked-pass (fill_checks (ring_at b o) q.start q.end (length m)) _ (s, tt) y in
      let e = same_size (length m) v.0 in
      let t : s ≡ fill_stores o (ring_at b o).capacity q.start m = sym (ap (λ (z : Stores × Unit {0}). z.0) (taken_is v.1)) in
      let s₁ : s ≡ fill_stores o cap at m = t ∙ rw (h.capacity_there, starts) (stores_wrap c o at m) in
      let f : 2 * record_size (length m) ≤ cap = let hf = half in omega arith in
      let w = fill_whole c b o at m h.fits spot_four (need-fits c at (length m) f) in
      rw s₁ (w.0, kept_change (full m) e (rw (← size_need cap at (len_of q.slot) (length m) e) at w.0) w.1)

  kept_stopped : {c : List ℕ} → OnlyWithin b c o cap q.start q.end → Kept o c ms (xs ++ with q (raw (len_of q.slot)) ∷ ys)
  kept_stopped {c} w =
      let at : ℕ = spot cap p ms xs in
      let w₀ : Inner b c o cap q.start (ahead q.start q.end) = record { long = w.long; else_same = w.else_same } in
      let w₁ : Inner b c o cap (at % 4294967296) (need cap at (len_of q.slot)) = rw (apart_so, starts) at w₀ in
      kept_change (raw (len_of q.slot)) refl (inner_wraps h.capacity b c o at (need cap at (len_of q.slot)) w₁) tt

-- the same, of what is kept
pub record Filling (o : ℕ) (b new : List ℕ) (ms : List (List ℕ)) (ps : List OpenPair) : Type 0 where
  pub cap : ℕ
  pub from : ℕ
  pub bytes : ℕ
  pub capacity_there : le_at 4 b (o + 12) ≡ cap
  pub inner : Inner b new o cap from bytes
  pub kept : Kept o new ms ps

module _ {o : ℕ} {b : List ℕ} {ms : List (List ℕ)} (xs : List OpenPair) (q : OpenPair) (ys : List OpenPair) (k : Kept o b ms (xs ++ q ∷ ys)) where
  whole : Holds b o k.cap k.p ms (slots xs ++ q.slot ∷ slots ys)
  whole = rw (slots_append xs (q ∷ ys)) at k.holds

  pub kept_fills : (m : List ℕ) {s : Stores} → fill_in b o q.start q.end m ≡ taken (s, tt) → Filling o b (stored s b) ms (xs ++ with q (full m) ∷ ys)
  kept_fills m y =
      let w = kept_filled xs q ys whole k.paired m y in
      record { cap = k.cap; from = spot k.cap k.p ms xs; bytes = need k.cap (spot k.cap k.p ms xs) (length m); capacity_there = k.holds.capacity_there; inner = w.0; kept = w.1 }

  pub kept_stops : {c : List ℕ} {cap : ℕ} → le_at 4 b (o + 12) ≡ cap → OnlyWithin b c o cap q.start q.end → Filling o b c ms (xs ++ with q (raw (len_of q.slot)) ∷ ys)
  kept_stops {c} {cap} e w =
      let z : cap ≡ k.cap = sym e ∙ k.holds.capacity_there in
      let w₁ : OnlyWithin b c o k.cap q.start q.end = rw z at w in
      record {
        cap = k.cap;
        from = q.start;
        bytes = ahead q.start q.end;
        capacity_there = k.holds.capacity_there;
        inner = record { long = w₁.long; else_same = w₁.else_same };
        kept = kept_stopped xs q ys whole k.paired w₁;
      }

  -- fill takes the pair that is handed on to it, for as many bytes as were asked for
  pub fill_passes : (m : List ℕ) → length m ≡ len_of q.slot → Pass (fill_checks (ring_at b o) q.start q.end (length m))
  fill_passes m e = fill_taken xs q ys whole k.paired (length m) (ap (λ (n : ℕ). record_size n) e)

-- a pair behind another starts behind the commit cursor, by less than a turn of the ring
pub later_commit : {o : ℕ} {b : List ℕ} {ms : List (List ℕ)} (first : OpenPair) (xs : List OpenPair) (q : OpenPair) (ys : List OpenPair) → Kept o b ms (first ∷ xs ++ q ∷ ys)
    → refused TURN 0 ≡ asked (commit_checks (ring_at b o) q.start q.end)
later_commit {o} {b} {ms} first xs q ys k =
    let cap : ℕ = k.cap in
    let p : ℕ = k.p in
    let c : ℕ = end_from cap p (fulls ms) in
    let h = whole (first ∷ xs) q ys k in
    let at : ℕ = spot cap p ms (first ∷ xs) in
    let s : q.start ≡ at % 4294967296 = starts (first ∷ xs) q ys h k.paired in
    let e : q.end ≡ (at + need cap at (len_of q.slot)) % 4294967296 = ends (first ∷ xs) q ys h k.paired in
    let f : at % 4 ≡ 0 = spot_four (first ∷ xs) q ys h k.paired in
    let f₁ : (at + need cap at (len_of q.slot)) % 4 ≡ 0 = need4 h.capacity at (len_of q.slot) f in
    let on = end_from_up cap (c + need cap c (len_of first.slot)) (slots xs) in
    let so : end_from cap (c + need cap c (len_of first.slot)) (slots xs) ≡ at = spot_so (first ∷ xs) q ys h k.paired in
    let near = spot_end (first ∷ xs) q ys h k.paired in
    let room = h.room in
    let most = h.capacity.most in
    let up : p ≤ c = end_from_up cap p (fulls ms) in
    let t = h.commit_there in
    commit_other (ring_at b o) q.start q.end (rw s (omega arith)) (rw e (omega arith)) (λ z. omega arith)

module _ {o : ℕ} {b : List ℕ} {ms : List (List ℕ)} {ys : List OpenPair} (q : OpenPair) (m : List ℕ) (e : q.slot ≡ full m) (k : Kept o b ms (q ∷ ys)) where
  pub commit_passes : Pass (commit_checks (ring_at b o) q.start q.end)
  commit_passes =
      let cap : ℕ = k.cap in
      let p : ℕ = k.p in
      let c : ℕ = end_from cap p (fulls ms) in
      let h : Holds b o cap p ms (full m ∷ slots ys) = rw e at k.holds in
      let s : q.start ≡ c % 4294967296 = k.paired.0 in
      let t : q.end ≡ (c + need cap c (length m)) % 4294967296 = rw e at k.paired.1 in
      rw (s, t) (commit_taken h)

  pub kept_commits : {s : Stores} → commit_in b o q.start q.end ≡ taken (s, tt) → One o s × Kept o (stored s b) (ms ++ m ∷ []) ys
  kept_commits {s} y =
      let cap : ℕ = k.cap in
      let p : ℕ = k.p in
      let c : ℕ = end_from cap p (fulls ms) in
      let h : Holds b o cap p ms (full m ∷ slots ys) = rw e at k.holds in
      let t : q.end ≡ (c + need cap c (length m)) % 4294967296 = rw e at k.paired.1 in
      let u : Paired cap (c + need cap c (length m)) ys = rw e at k.paired.2 in
      let v : end_from cap p (fulls (ms ++ m ∷ [])) ≡ c + need cap c (length m) = rw (fulls_append ms (m ∷ []), end_from_append cap p (fulls ms) (full m ∷ [])) in
      let z = checked-pass (commit_checks (ring_at b o) q.start q.end) _ (s, tt) y in
      let e₀ : s ≡ (o + 8, bytes_of 4 q.end) ∷ [] = sym (ap (λ (z : Stores × Unit {0}). z.0) (taken_is z.1)) in
      let e₁ : s ≡ (o + 8, bytes_of 4 ((c + need cap c (length m)) % 4294967296)) ∷ [] = rw t at e₀ in (
        record { at = o + 8; value = q.end; low = omega arith; high = omega arith; is = e₀ },
        rw e₁ (record { cap = cap; p = p; holds = commit_holds h; paired = rw v u }),
      )

pub kept-takes : {o : ℕ} {b : List ℕ} {m : List ℕ} {ms : List (List ℕ)} {ps : List OpenPair} {s : Stores} {at n : ℕ} → Kept o b (m ∷ ms) ps → take_in b o ≡ taken (s, (at, n))
    → One o s × Kept o (stored s b) ms ps
kept-takes {o} {b} {m} {ms} {ps} {s} {at} {n} k y =
    let t = taken_is (sym (take-first k.holds) ∙ y) in
    let e : s ≡ (o, bytes_of 4 ((k.p + need k.cap k.p (length m)) % 4294967296)) ∷ [] = sym (ap (λ (z : Stores × (ℕ × ℕ)). z.0) t) in (
      record { at = o; value = (k.p + need k.cap k.p (length m)) % 4294967296; low = omega arith; high = omega arith; is = e },
      rw e (record { cap = k.cap; p = k.p + need k.cap k.p (length m); holds = take-holds k.holds; paired = k.paired }),
    )

pub kept-none : {o : ℕ} {b : List ℕ} {ps : List OpenPair} {s : Stores} {at n : ℕ} → Kept o b [] ps → take_in b o ≡ taken (s, (at, n)) → ⊥
kept-none k y = taken_refused (sym y ∙ take_none k.holds)

-- bytes outside the ring change
pub kept-others : {o : ℕ} {b c : List ℕ} {ms : List (List ℕ)} {ps : List OpenPair} → Kept o b ms ps → length c ≡ length b
    → ((j : ℕ) → o ≤ j → j < o + 16 + le_at 4 b (o + 12) → get_or c j 0 ≡ get_or b j 0) → Kept o c ms ps
kept-others {o} {b} {c} {ms} {ps} k l f =
    let h = k.holds in
    let g = h.fits in
    let same : (j : ℕ) → o ≤ j → j < o + 16 + k.cap → get_or c j 0 ≡ get_or b j 0 = rw h.capacity_there at f in
    let num : (a : ℕ) → o ≤ a → a + 4 ≤ o + 16 → le_at 4 c a ≡ le_at 4 b a = λ a i j. le_at-same 4 a b c (omega arith) l (λ x u. same (a + x) (omega arith) (omega arith)) in
    record {
      cap = k.cap;
      p = k.p;
      holds = record {
        capacity = h.capacity;
        capacity_there = num (o + 12) (omega arith) (omega arith) ∙ h.capacity_there;
        fits = omega arith;
        four = h.four;
        head-there = num o (omega arith) (omega arith) ∙ h.head-there;
        commit_there = num (o + 8) (omega arith) (omega arith) ∙ h.commit_there;
        reserve_there = num (o + 4) (omega arith) (omega arith) ∙ h.reserve_there;
        room = h.room;
        there = there-same h.capacity b c o g l k.p (fulls ms ++ slots ps) h.four
            (λ x i j. same (o + 16 + x % k.cap) (omega arith) (omega (arith, inside h.capacity x))) h.there;
      };
      paired = k.paired;
    }
