-- The promise is kept: whatever the use of a ring comes to, the taker finds the committed messages, whole and in order, and nothing else. Assumes nothing.
use Rattle.std.proofs.Common.{◌≡◌, ℕ, ◌+◌, ◌*◌, ◌<◌, ◌≤◌, ◌⊎◌, List, [], ◌∷◌, ◌++◌, length, drop, sym, refl, ap, ◌∙◌, inl, inr, ⊎_elim, append_assoc, append-nil, arith, length-append, length-drop, drop-drop}
use lib.Seq.{drop-append-le, drop-append_seam}
use Rattle.answer.specs.Numbers.{TURN}
use Rattle.answer.specs.Outcome.{taken, refused}
use Rattle.answer.proofs.Checks.{pass-checked, asked_stop}
use Rattle.wire.specs.Numbers.{le_at}
use Rattle.region.specs.Region.{count_of, offset_of, capacity_of, ring_at}
use Rattle.region.specs.Valid.{Consistent, Valid}
use Rattle.rings.specs.Calls.{Stores, stored, fill_checks, fill_call, commit_checks, commit_call, take_call}
use Rattle.rings.specs.Use.{Message, MessageList, OpenPairs, OpenPair, full, len_of, Step, reserves, fills, stops, commits, takes, others, Used, begins, steps, Course, at_rest, step, Next, Drains, Stopped, unreserved, reserved, filling, filled, committed}
use Rattle.rings.proofs.Capacity.{capacity-of}
use Rattle.wire.proofs.Splices.{le_at-same}
use Rattle.rings.proofs.Steps.{cursors_held, taken_at, take_none, take-first, take-payload}
use Rattle.rings.proofs.Inner.{Inner}
use Rattle.rings.proofs.Ends.{reserve_called, fill_called, commit_called, take_called}
use Rattle.rings.proofs.Keeps.{Elsewhere, called_elsewhere}
use Rattle.rings.proofs.Kept.{Kept, One, Filling, kept_begin, kept_reserves, kept_fills, kept_stops, kept_commits, kept-takes, kept-none, kept-others, fill_passes, commit_passes, later_commit}
use Rattle.rings.proofs.Frame.{Framed, frame-count, frame_offset, frame_valid, stored-framed, inner_framed}

-- ---- what every step keeps

pub record Up (q : ℕ) (b : List ℕ) (ms : List (List ℕ)) (ps : List OpenPair) : Type 0 where
  pub valid : Valid b
  pub queue : q < count_of b
  pub kept : Kept (offset_of b q) b ms ps

module _ {q : ℕ} {b : List ℕ} {ms : List (List ℕ)} {ps : List OpenPair} (u : Up q b ms ps) where
  here : le_at 4 b (offset_of b q + 12) ≡ capacity_of b q
  here = (u.valid.queues q u.queue).cursors.same

  -- the ring q itself changes
  up_step : {c : List ℕ} {ns : List (List ℕ)} {qs : List OpenPair} → Framed b c (offset_of b q) (capacity_of b q) × (le_at 4 c (offset_of b q + 12) ≡ le_at 4 b (offset_of b q + 12))
      → Kept (offset_of b q) c ns qs → Up q c ns qs
  up_step {c} w k =
      let l = u.queue in
      let e : k.cap ≡ capacity_of b q = sym k.holds.capacity_there ∙ w.1 ∙ here in
      let s : Consistent (ring_at c (offset_of b q)) (capacity_of b q) = rw e at (cursors_held k.holds) in
      record { valid = frame_valid u.valid l w.0 s; queue = rw (frame-count u.valid l w.0) l; kept = rw (frame_offset u.valid l w.0 q l) k }

  up_one : {s : Stores} {ns : List (List ℕ)} {qs : List OpenPair} → One (offset_of b q) s → Kept (offset_of b q) (stored s b) ns qs → Up q (stored s b) ns qs
  up_one w k = up_step (rw w.is (stored-framed b (offset_of b q) (capacity_of b q) (u.valid.queues q u.queue).inside w.at w.value w.low w.high)) k

  up_filling : {c : List ℕ} {ns : List (List ℕ)} {qs : List OpenPair} → Filling (offset_of b q) b c ns qs → Up q c ns qs
  up_filling {c} w =
      let e : w.cap ≡ capacity_of b q = sym w.capacity_there ∙ here in
      let i : Inner b c (offset_of b q) (capacity_of b q) w.from w.bytes = rw e at w.inner in
      up_step (inner_framed b (offset_of b q) (capacity_of b q) (u.valid.queues q u.queue).inside (capacity-of (u.valid.queues q u.queue).capacity) i) w.kept

  -- something happens elsewhere
  up_others : {c : List ℕ} → Elsewhere q b c → Up q c ms ps
  up_others {c} w =
      let l = u.queue in
      let t = u.valid.table in
      let num : (a : ℕ) → a + 4 ≤ 16 + 16 * count_of b → le_at 4 c a ≡ le_at 4 b a = λ a h. le_at-same 4 a b c (omega arith) w.long (λ k g. w.tables (a + k) (omega arith)) in
      let n : count_of c ≡ count_of b = num 12 (omega arith) in
      let o : offset_of c q ≡ offset_of b q = num (20 + 16 * q) (omega arith) in
      let e = here in
      record { valid = w.valid; queue = rw n l; kept = rw o (kept-others u.kept w.long (λ j g h. w.ring j g (omega arith))) }

up_takes : {q : ℕ} {b : List ℕ} (ms : List (List ℕ)) {ps : List OpenPair} {s : Stores} {at n : ℕ} → Up q b ms ps → take_call b q ≡ taken (s, (at, n)) → Up q (stored s b) (drop 1 ms) ps
up_takes [] u y = absurd (kept-none u.kept (sym (take_called u.valid u.queue) ∙ y))
up_takes (m ∷ ms) u y = let w = kept-takes u.kept (sym (take_called u.valid u.queue) ∙ y) in up_one u w.0 w.1

-- one step of the use
up_step_of : {q : ℕ} {b c : List ℕ} {ms ns : List (List ℕ)} {ps qs : List OpenPair} {k : ℕ} → Up q b ms ps → Step q b ms ps c ns qs k → Up q c ns qs
up_step_of k (reserves n y) = let w = kept_reserves k.kept n (sym (reserve_called k.valid k.queue n) ∙ y) in up_one k w.0 w.1
up_step_of k (fills xs p ys m y) = up_filling k (kept_fills xs p ys k.kept m (sym (fill_called k.valid k.queue p.start p.end m) ∙ y))
up_step_of k (stops xs p ys w) = up_filling k (kept_stops xs p ys k.kept (here k) w)
up_step_of k (commits {p = p} {m = m} e y) =
    let w = kept_commits p m e k.kept (sym (commit_called k.valid k.queue p.start p.end) ∙ y) in
    up_one k w.0 w.1
up_step_of k (takes {ms = ms} y) = up_takes ms k y
up_step_of k (others i y ne h) = up_others k (called_elsewhere y k.valid k.queue ne h)

pub up : {q : ℕ} {b : List ℕ} {ms : List (List ℕ)} {ps : List OpenPair} → Used q b ms ps → Up q b ms ps
up {q} {b} (begins y v l e) =
    let k = v.queues q l in
    record {
      valid = v;
      queue = l;
      kept = kept_begin y (rw k.cursors.same k.inside) (rw k.cursors.same (capacity-of k.capacity)) k.cursors.head4 e.0 e.1;
    }
up (steps u y) = up_step_of (up u) y

-- ---- what the taker finds

pub comes : {q : ℕ} {b : List ℕ} (ms : List (List ℕ)) {ps : List OpenPair} → Used q b ms ps → Drains q b ms
comes [] u = let k = up u in take_called k.valid k.queue ∙ take_none k.kept.holds
comes {q} {b} (m ∷ ms) u =
    let k = up u in
    let f = take_called k.valid k.queue ∙ take-first k.kept.holds in
    (record { stores = _; place = _; found = f; payload = take-payload k.kept.holds }, rw f (comes {q = q} {b = stored (taken_at (offset_of b q) k.kept.cap k.kept.p m).0 b} ms (steps u (takes f))))

pub goes_on : {q : ℕ} {m : Message} {b c : List ℕ} {ms : MessageList} {ps : OpenPairs} → Used q b ms ps → Stopped q m b ps c → (now : OpenPairs) × (Used q c ms now ⊎ Used q c (ms ++ m ∷ []) now)
goes_on {ps = ps} u unreserved = (ps, inl u)
goes_on {m = m} u (reserved y) = (_, inl (steps u (reserves (length m) y)))
goes_on u (filling xs p ys w) = (_, inl (steps u (stops xs p ys w)))
goes_on {m = m} u (filled xs p ys y) = (_, inl (steps u (fills xs p ys m y)))
goes_on u (committed e y) = (_, inr (steps u (commits e y)))

pub none_or_all : {q : ℕ} {m : Message} {b c : List ℕ} (ms : MessageList) {ps : OpenPairs} → Used q b ms ps → Stopped q m b ps c → Drains q c ms ⊎ Drains q c (ms ++ m ∷ [])
none_or_all {m = m} ms u s = ⊎_elim (λ v. inl (comes ms v)) (λ v. inr (comes (ms ++ m ∷ []) v)) (goes_on u s).1

-- ---- a message in its turn

-- whatever happens, the messages that wait are those that waited, less those taken, and newer ones behind them
pub course_used : {q : ℕ} {b c : List ℕ} {ms ns : MessageList} {ps qs : OpenPairs} {k : ℕ} → Used q b ms ps → Course q b ms ps c ns qs k → Used q c ns qs
course_used u at_rest = u
course_used u (step y r) = course_used (steps u y) r

step_waits : {q : ℕ} {b c : List ℕ} {ms ns : MessageList} {ps qs : OpenPairs} {j : ℕ} → Step q b ms ps c ns qs j → (more : MessageList) × (ns ≡ drop j ms ++ more)
step_waits (reserves n y) = ([], rw append-nil)
step_waits (fills xs p ys m y) = ([], rw append-nil)
step_waits (stops xs p ys w) = ([], rw append-nil)
step_waits (commits {m = m} e y) = (m ∷ [], refl)
step_waits (takes y) = ([], rw append-nil)
step_waits (others i y ne h) = ([], rw append-nil)

course_waits : {q : ℕ} {b c : List ℕ} {ms ns : MessageList} {ps qs : OpenPairs} {k : ℕ} → Course q b ms ps c ns qs k → k ≤ length ms → (more : MessageList) × (ns ≡ drop k ms ++ more)
course_waits at_rest h = ([], rw append-nil)
course_waits {ms = ms} (step {ns = ns} {os = os} {j = j} {k = k} y r) h =
    let w = step_waits y in
    let e = length-drop j ms in
    let z = length-append (drop j ms) w.0 in
    let n : length ns ≡ length (drop j ms ++ w.0) = ap length w.1 in
    let v = course_waits r (omega arith) in
    let a : os ≡ drop k (drop j ms ++ w.0) ++ v.0 = v.1 ∙ ap (λ (x : MessageList). drop k x ++ v.0) w.1 in
    (w.0 ++ v.0, a ∙ rw (drop-append-le k (drop j ms) w.0 (omega arith), drop-drop k j ms, append_assoc))

pub in-turn : {q : ℕ} {m : Message} {b c : List ℕ} (before behind : MessageList) {ns : MessageList} {ps qs : OpenPairs}
    → Used q b (before ++ m ∷ behind) ps → Course q b (before ++ m ∷ behind) ps c ns qs (length before) → Next q c m
in-turn {q} {m} {b} {c} before behind {ns} {ps} {qs} u r =
    let w = course_waits r (rw (length-append) (omega arith)) in
    let e : ns ≡ m ∷ (behind ++ w.0) = w.1 ∙ rw (drop-append_seam before (m ∷ behind)) in
    let v : Used q c (m ∷ (behind ++ w.0)) qs = rw e at (course_used u r) in
    (comes (m ∷ (behind ++ w.0)) v).0

-- ---- pairs that are handed on

-- fill takes a pair that is handed on to it as answered, for as many bytes as were asked for
pub fill_takes : {q : ℕ} {b : List ℕ} {ms : MessageList} (xs : OpenPairs) (p : OpenPair) (ys : OpenPairs) → Used q b ms (xs ++ p ∷ ys)
    → (m : Message) → length m ≡ len_of p.slot → (s : Stores) × (fill_call b q p.start p.end m ≡ taken (s, tt))
fill_takes {q} {b} xs p ys u m e =
    let k = up u in
    (_, fill_called k.valid k.queue p.start p.end m ∙ pass-checked (fill_checks (ring_at b (offset_of b q)) p.start p.end (length m)) _ (fill_passes xs p ys k.kept m e))

-- and commit the first one, once it is filled
pub commit_takes : {q : ℕ} {m : Message} {b : List ℕ} {ms : MessageList} {p : OpenPair} {ps : OpenPairs} → Used q b ms (p ∷ ps)
    → p.slot ≡ full m → (s : Stores) × (commit_call b q p.start p.end ≡ taken (s, tt))
commit_takes {q} {m} {b} {p = p} u e =
    let k = up u in
    (_, commit_called k.valid k.queue p.start p.end ∙ pass-checked (commit_checks (ring_at b (offset_of b q)) p.start p.end) _ (commit_passes p m e k.kept))

-- a later one has to wait for its turn
pub commit_waits : {q : ℕ} {b : List ℕ} {ms : MessageList} (first : OpenPair) (xs : OpenPairs) (p : OpenPair) (ys : OpenPairs) → Used q b ms (first ∷ xs ++ p ∷ ys)
    → commit_call b q p.start p.end ≡ refused TURN 0
commit_waits {q} {b} first xs p ys u =
    let k = up u in
    commit_called k.valid k.queue p.start p.end ∙ asked_stop (commit_checks (ring_at b (offset_of b q)) p.start p.end) _ (later_commit first xs p ys k.kept)
