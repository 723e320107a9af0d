-- Members of a sheet beside the rows of the table of fields: a number, registers in a row and parts of segments are the bytes that their row says.
-- Assumes nothing.
use mathlib.Core.Path.{◌≡◌, ap, ◌∙◌}
use mathlib.Core.Bool.{true}
use mathlib.Core.List.{List, [], ◌∷◌}
use Prim.Native.Nat.{ℕ, zero, suc, ◌+◌, ◌*◌, ◌≤◌, ◌<◌}
use native.Mathlib.Omega.{arith}
use lib.Dec.{leb, ltb}
use lib.ListN.{length, take, drop, get_or}
use borrow.Author.Tests.{leb-true, ltb-true}
use Rattle.answer.proofs.Checks.{and_true}
use Rattle.wire.specs.Numbers.{Bytes, le_at, bytes_of}
use Rattle.wire.proofs.Numbers.{bytes_of-le_at}
use Rattle.fields.specs.declared.Row.{Row}
use Rattle.fields.specs.Layout.{no_row}
use Rattle.fields.specs.Fields.{has_in, bytes_at}
use Rattle.registers.specs.declared.Segment.{Segment}
use Rattle.registers.specs.Registers.{gather, segment_in, no_segment, no_member}
use Rattle.registers.proofs.Mixed.{get_or-gather}

-- ---- rows and members, one for one

module _ (s : List ℕ) where
  abbrev pub Fits : Row → (ℕ → List ℕ) → Type 0
  Fits r m = (i : ℕ) → i < r.count → r.at + i * r.step + r.width ≤ length s → m i ≡ take r.width (drop (r.at + i * r.step) s)

  abbrev pub Agree : List Row → List (ℕ → List ℕ) → Type 0
  Agree [] [] = Unit {0}
  Agree [] (m ∷ k) = ⊥
  Agree (r ∷ l) [] = ⊥
  Agree (r ∷ l) (m ∷ k) = Fits r m × Agree l k

  pub agree_at : (l : List Row) (k : List (ℕ → List ℕ)) → Agree l k → (n : ℕ) → Fits (get_or l n no_row) (get_or k n no_member)
  agree_at [] [] h n = λ i g e. absurd (omega arith)
  agree_at [] (m ∷ k) h n = absurd h
  agree_at (r ∷ l) [] h n = absurd h
  agree_at (r ∷ l) (m ∷ k) h zero = h.0
  agree_at (r ∷ l) (m ∷ k) h (suc n) = agree_at l k h.1 n

  -- a field that the state has, by its row and its member
  pub tied : (l : List Row) (k : List (ℕ → List ℕ)) → Agree l k → (n i : ℕ) → has_in (get_or l n no_row) i (length s) ≡ true → get_or k n no_member i ≡ bytes_at (get_or l n no_row) i s
  tied l k a n i h =
      let r = get_or l n no_row in
      let t = and_true (ltb i r.count) (leb (r.at + i * r.step + r.width) (length s)) h in
      agree_at l k a n i (ltb-true i r.count t.0) (leb-true (r.at + i * r.step + r.width) (length s) t.1)

-- ---- the kinds of member

module _ (s : List ℕ) (b : Bytes s) where
  -- a number that stands once
  pub one : (at w : ℕ) (i : ℕ) → i < 1 → at + i * w + w ≤ length s → bytes_of w (le_at w s at) ≡ take w (drop (at + i * w) s)
  one at w i h g =
      let z : i ≡ 0 = omega arith in
      let e : at + i * w ≡ at = rw z (omega arith) in
      rw e (bytes_of-le_at w s at b (rw e at g))

  -- an array of numbers
  pub numbers : (n at : ℕ) (i : ℕ) → i < n → at + i * 8 + 8 ≤ length s → bytes_of 8 (get_or (gather (λ (k : ℕ). le_at 8 s (k * 8 + at)) n) i 0) ≡ take 8 (drop (at + i * 8) s)
  numbers n at i h g =
      let e : i * 8 + at ≡ at + i * 8 = omega arith in
      rw (get_or-gather (λ (k : ℕ). le_at 8 s (k * 8 + at)) 0 n i h, e) (bytes_of-le_at 8 s (at + i * 8) b g)

  -- a part of a segment, d bytes behind its start
  pub parts : (n at d w : ℕ) (f : Segment → ℕ) → ((k : ℕ) → f (segment_in s k) ≡ le_at w s (k + d)) → (i : ℕ) → i < n → at + d + i * 18 + w ≤ length s
      → bytes_of w (f (get_or (gather (λ (k : ℕ). segment_in s (k * 18 + at)) n) i no_segment)) ≡ take w (drop (at + d + i * 18) s)
  parts n at d w f q i h g =
      let e : i * 18 + at + d ≡ at + d + i * 18 = omega arith in
      ap (λ (x : Segment). bytes_of w (f x)) (get_or-gather (λ (k : ℕ). segment_in s (k * 18 + at)) no_segment n i h)
      ∙ ap (bytes_of w) (q (i * 18 + at)) ∙ ap (λ (k : ℕ). bytes_of w (le_at w s k)) e ∙ bytes_of-le_at w s (at + d + i * 18) b g

  -- the first part of a segment
  pub selectors : (n at : ℕ) (i : ℕ) → i < n → at + i * 18 + 2 ≤ length s → bytes_of 2 (get_or (gather (λ (k : ℕ). segment_in s (k * 18 + at)) n) i no_segment).selector ≡ take 2 (drop (at + i * 18) s)
  selectors n at i h g =
      let e : i * 18 + at ≡ at + i * 18 = omega arith in
      ap (λ (x : Segment). bytes_of 2 x.selector) (get_or-gather (λ (k : ℕ). segment_in s (k * 18 + at)) no_segment n i h)
      ∙ ap (λ (k : ℕ). bytes_of 2 (le_at 2 s k)) e ∙ bytes_of-le_at 2 s (at + i * 18) b g
