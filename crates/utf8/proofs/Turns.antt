-- The scan at a place of the whole list: one byte, a run of plain bytes, the end. What the loops of the code go by. Assumes nothing.
use Rattle.std.proofs.Common.{Result, Ok, Err}
use Prim.Native.Nat.{ℕ, zero, suc, ◌+◌, ◌-◌, ◌≤◌, ◌<◌}
use mathlib.Core.Path.{◌≡◌, refl, sym, ◌∙◌, ap}
use mathlib.Core.List.{List, [], ◌∷◌, ◌++◌, append-nil}
use mathlib.Core.Bool.{Bool, true, false}
use native.Mathlib.Numerals.{add-one}
use native.Mathlib.Nat.{add-zero}
use native.Mathlib.Omega.{arith}
use lib.Dec.{ltb}
use lib.ListN.{length, get_or, take, drop, length-drop, length-append, drop_of_length-le, take-append-drop, get_or-eq_default}
use lib.Seq.{drop-cons, drop-drop, length-take-le, take-append_seam, drop-append_seam}
use borrow.Author.Count.{below_more}
use borrow.Author.Tests.{ltb-true, ltb-false}
use Rattle.utf8.specs.Grammar.{Range, ◌⋯◌, tails, InRange}
use Rattle.utf8.specs.Scan.{Next, Stop, lead_of, after_of, onward, ended_at, scan_from, scan}
use Rattle.utf8.specs.Steps.{AtMost, scan_at, Passes, Reaches, ends, breaks}
use Rattle.utf8.proofs.Table.{in_among, out_among, hit}

-- ---- the loop over all bytes: none of the first i is above top
pub record Topped (s : List ℕ) (i top : ℕ) : Type 0 where
  pub within : i ≤ length s
  pub most : (k : ℕ) → k < i → get_or s k 0 ≤ top

module _ {s : List ℕ} {i top : ℕ} (t : Topped s i top) where
  pub topped_more : {top' : ℕ} → i < length s → top ≤ top' → get_or s i 0 ≤ top' → Topped s (i + 1) top'
  topped_more {top'} h up here =
      record {
        within = omega arith;
        most = below_more (λ k. get_or s k 0 ≤ top') i (λ k b. omega (arith, t.most k b)) here;
      }

  pub topped_all : length s ≤ i → AtMost s top
  topped_all h k = go (ltb k i) refl
    where
      go : (b : Bool) → ltb k i ≡ b → get_or s k 0 ≤ top
      go true e = t.most k (ltb-true k i e)
      go false e =
          let z : length s ≤ k = omega (arith, ltb-false k i e) in
          rw (get_or-eq_default s 0 z) (omega arith)

-- ---- one byte, or the end
module _ (s : List ℕ) (i : ℕ) (rs : List Range) where
  turn : i < length s → scan_at s i rs ≡ onward (after_of rs (get_or s i 0)) i (λ l. scan_at s (i + 1) l)
  unfolding scan_from
  turn h = simp (add-one, drop-cons s i 0 h)

  at_end : length s ≤ i → scan_at s i rs ≡ ended_at rs i
  unfolding scan_from
  at_end h = rw (drop_of_length-le s h)

-- the first byte of a character
module _ (s : List ℕ) (i : ℕ) (h : i < length s) where
  first_next : (rs : List Range) → lead_of (get_or s i 0) ≡ Next rs → scan_at s i [] ≡ scan_at s (i + 1) rs
  unfolding after_of
  first_next rs e = rw (turn s i [] h, e)

  first_stop : lead_of (get_or s i 0) ≡ Stop → scan_at s i [] ≡ Err i
  unfolding after_of
  first_stop e = rw (turn s i [] h, e)

-- a byte that is to come
module _ (s : List ℕ) (i : ℕ) (r : Range) (rs : List Range) where
  pub next_missing : length s ≤ i → scan_at s i (r ∷ rs) ≡ Err i
  next_missing h = at_end s i (r ∷ rs) h

  module _ (h : i < length s) where
    pub next_in : InRange r.from r.to (get_or s i 0) → scan_at s i (r ∷ rs) ≡ scan_at s (i + 1) rs
    unfolding after_of
    next_in k = rw (turn s i (r ∷ rs) h, in_among k)

    pub next_out : (r.from ≤ get_or s i 0 → r.to < get_or s i 0) → scan_at s i (r ∷ rs) ≡ Err i
    unfolding after_of
    next_out k = rw (turn s i (r ∷ rs) h, out_among r.from r.to (get_or s i 0) k)

-- ---- the loop over the UTF8-tails that are to come: after some of them
pub record Came (s : List ℕ) (i n at left : ℕ) : Type 0 where
  pub after : i ≤ at
  pub within : at ≤ length s
  pub same : scan_at s i (tails n) ≡ scan_at s at (tails left)

module _ {s : List ℕ} {i n at : ℕ} where
  pub came_whole : {left : ℕ} → Came s i n at left → left ≡ 0 → Reaches s i (tails n) i (Ok at)
  came_whole c e =
      ends (record { after = c.after; within = c.within; same = c.same ∙ ap (λ (m : ℕ). scan_at s at (tails m)) e }) c.after

  pub came_end : {left : ℕ} → Came s i n at left → 0 < left → length s ≤ at → Reaches s i (tails n) i (Err at)
  came_end {left = zero} c e h = absurd (omega arith)
  came_end {left = suc m} c e h = breaks (c.same ∙ next_missing s at (0x80 ⋯ 0xBF) (tails m) h)

  pub came_out : {left : ℕ} → Came s i n at left → 0 < left → at < length s → (0x80 ≤ get_or s at 0 → 0xBF < get_or s at 0)
      → Reaches s i (tails n) i (Err at)
  came_out {left = zero} c e h o = absurd (omega arith)
  came_out {left = suc m} c e h o = breaks (c.same ∙ next_out s at (0x80 ⋯ 0xBF) (tails m) h o)

  pub came_in : {left less : ℕ} → Came s i n at left → left ≡ suc less → at < length s → InRange 0x80 0xBF (get_or s at 0) → Came s i n (at + 1) less
  came_in {less = m} c e h o =
      record {
        after = omega (arith, c.after);
        within = omega arith;
        same = c.same ∙ ap (λ (k : ℕ). scan_at s at (tails k)) e ∙ next_in s at (0x80 ⋯ 0xBF) (tails m) h o;
      }

-- ---- a byte of a range, and what is to come behind it
module _ {s : List ℕ} {i : ℕ} where
  -- what is reached from the next byte on is reached from here, if the scan goes on there
  pub reaches_on : {rs rs' : List Range} {least : ℕ} {r : Result ℕ ℕ} → scan_at s i rs ≡ scan_at s (i + 1) rs' → least ≤ i + 1
      → Reaches s (i + 1) rs' (i + 1) r → Reaches s i rs least r
  reaches_on e k (ends {j = j} p h) = ends {j = j} (record { after = omega (arith, p.after); within = p.within; same = e ∙ p.same }) (omega (arith, h))
  reaches_on e k (breaks q) = breaks (e ∙ q)

  -- the first byte of a character begins an alternative
  pub begins : (rs : List Range) {r : Result ℕ ℕ} → i < length s → lead_of (get_or s i 0) ≡ Next rs → Reaches s (i + 1) rs (i + 1) r → Reaches s i [] (i + 1) r
  begins rs h e q = reaches_on (first_next s i h rs e) (omega arith) q

  -- or none
  pub begins_none : i < length s → lead_of (get_or s i 0) ≡ Stop → Reaches s i [] (i + 1) (Err i)
  begins_none h e = breaks (first_stop s i h e)

-- ---- the loop over the characters
module _ {s : List ℕ} where
  pub passes_here : (i : ℕ) → i ≤ length s → Passes s i [] i
  passes_here i h = record { after = omega arith; within = h; same = refl }

  pub passes_then : {i j k : ℕ} {rs : List Range} → Passes s i rs j → Passes s j [] k → Passes s i rs k
  passes_then p q = record { after = omega (arith, p.after, q.after); within = q.within; same = p.same ∙ q.same }

  pub passes_first : {i j : ℕ} → i < length s → lead_of (get_or s i 0) ≡ Next [] → Passes s (i + 1) [] j → Passes s i [] j
  passes_first {i} h e p = record { after = omega (arith, p.after); within = p.within; same = first_next s i h [] e ∙ p.same }

  pub reaches_ends : {i least j : ℕ} {rs : List Range} {r : Result ℕ ℕ} → Reaches s i rs least r → r ≡ Ok j → Passes s i rs j × (least ≤ j)
  reaches_ends {j = x} (ends {j = y} p h) e = let q : y ≡ x = cc in (rw q at p, omega (arith, h))
  reaches_ends (breaks q) e = absurd (let z : ◌≡◌ {A = ℕ} 0 1 = cc in omega arith)

  pub reaches_breaks : {i least k : ℕ} {rs : List Range} {r : Result ℕ ℕ} → Reaches s i rs least r → r ≡ Err k → scan_at s i rs ≡ Err k
  reaches_breaks (ends p h) e = absurd (let z : ◌≡◌ {A = ℕ} 0 1 = cc in omega arith)
  reaches_breaks {k = x} (breaks {k = y} q) e = let w : y ≡ x = cc in rw w at q

  module _ {i : ℕ} (p : Passes s 0 [] i) where
    scan-at : scan s ≡ scan_at s i []
    unfolding scan
    scan-at = p.same

    pub octets_whole : length s ≤ i → (Ok tt) ≡ scan s
    octets_whole h = sym (scan-at ∙ at_end s i [] h)

    pub octets_broken : {k : ℕ} → scan_at s i [] ≡ Err k → Err k ≡ scan s
    octets_broken b = sym (scan-at ∙ b)

-- ---- a run of ASCII
run : (p u : List ℕ) (i top : ℕ) → top < 0x80 → AtMost p top → scan_from [] i (p ++ u) ≡ scan_from [] (i + length p) u
unfolding scan_from after_of
run [] u i top h m = rw add-zero
run (b ∷ p) u i top h m =
    let q : suc i + length p ≡ i + suc (length p) = omega arith in
    rw (hit 0 b (omega (arith, m 0)), ← q) (run p u (suc i) top h (λ k. m (suc k)))

pub run_passes : (s : List ℕ) (i j top : ℕ) → i ≤ j → j ≤ length s → top < 0x80 → AtMost (take (j - i) (drop i s)) top → Passes s i [] j
run_passes s i j top a z h m =
    let q : i + (j - i) ≡ j = omega arith in
    let l : j - i ≤ length (drop i s) = rw length-drop (omega arith) in
    let e = run (take (j - i) (drop i s)) (drop (j - i) (drop i s)) i top h m in
    record {
      after = a;
      within = z;
      same = rw (take-append-drop, length-take-le (j - i) (drop i s) l, drop-drop, q) at e;
    }

-- a block of a run, as `chunks_exact` gives it
pub block_passes : (s p u : List ℕ) (at top : ℕ) → at ≤ length s → drop at s ≡ p ++ u → length p ≡ 32 → top < 0x80 → AtMost p top
    → (u ≡ drop (at + 32) s) × Passes s at [] (at + 32)
block_passes s p u at top h e l t m =
    let n : 32 ≤ length s - at = omega (arith, ap length e, length-append p u, length-drop at s) in
    let q : at + 32 - at ≡ 32 = omega arith in
    let b : take 32 (drop at s) ≡ p = rw (e, ← l) (take-append_seam p u) in
    let d : drop 32 (drop at s) ≡ u = rw (e, ← l) (drop-append_seam p u) in
    (sym d ∙ drop-drop 32 at s, run_passes s at (at + 32) top (omega arith) (omega arith) t (rw (q, b) m))

pub run_whole : (s : List ℕ) (top : ℕ) → top < 0x80 → AtMost s top → scan s ≡ (Ok tt)
unfolding scan scan_from
run_whole s top h m = rw (append-nil s) at (run s [] 0 top h m)
