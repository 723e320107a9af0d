-- The entries that the sections of a file say that they have: one section at a place, and the loop that counts them.
-- Assumes nothing.
use mathlib.Core.Path.{◌≡◌, refl, sym, ◌∙◌, ap}
use mathlib.Core.List.{List}
use mathlib.Core.Bool.{Bool, true, false, cond}
use Prim.Native.Nat.{ℕ, suc, ◌+◌, ◌-◌, ◌≤◌, ◌<◌}
use native.Mathlib.Omega.{arith}
use lib.ListN.{length, drop, length-drop}
use lib.Seq.{drop-drop}
use lib.Dec.{leb}
use borrow.Author.Tests.{leb-true, le-leb, lt-leb}
use Rattle.answer.proofs.Checks.{and_true}
use Rattle.wire.specs.Numbers.{le_at}
use Rattle.wire.proofs.Numbers.{le_at-drop, le_at_here}
use Rattle.aerosnap.specs.File.{length_of, fits_in}
use Rattle.sections.specs.declared.Places.TheVariants.{All}
use Rattle.sections.specs.Index.{is_list_id, count_in, counts}
use Rattle.sections.specs.Places.{places_for}

-- ---- a section at a place: its count, and whether it is there whole

module _ (s : List ℕ) (at : ℕ) where
  pub entries_list : {id k : ℕ} → id ≡ le_at 4 s at → is_list_id id ≡ true → k ≡ le_at 4 s (at + 16) → k ≡ count_in (drop at s)
  entries_list q t z = z ∙ sym (ap (λ (b : Bool). cond b (le_at 4 (drop at s) 16) 0) (ap is_list_id (le_at_here 4 s at ∙ sym q) ∙ t) ∙ le_at-drop 4 s at 16)

  pub entries_none : {id : ℕ} → id ≡ le_at 4 s at → is_list_id id ≡ false → 0 ≡ count_in (drop at s)
  entries_none q t = sym (ap (λ (b : Bool). cond b (le_at 4 (drop at s) 16) 0) (ap is_list_id (le_at_here 4 s at ∙ sym q) ∙ t))

  pub fits_not : length s - at < 16 → false ≡ fits_in (drop at s)
  fits_not h = sym (rw (length-drop, lt-leb 16 (length s - at) h))

  pub fits_by : 16 ≤ length s - at → {w : ℕ} → w ≡ le_at 8 s (at + 8) → leb w (length s - (at + 16)) ≡ fits_in (drop at s)
  fits_by h q =
      let n : length s - at - 16 ≡ length s - (at + 16) = omega arith in
      sym (rw (length-drop, le-leb 16 (length s - at) h, le_at-drop 8 s at 8, ← q, n))

-- ---- the loop that counts

-- more than 256 need the most places
many_places : (n : ℕ) → 256 < n → places_for n ≡ All
many_places n h = rw (lt-leb n 32 (omega arith), lt-leb n 256 h) refl

-- what the loop keeps: the entries that were counted and those of the sections to come are all
pub record Counting (s : List ℕ) (most at i n : ℕ) : Type 0 where
  pub turns : i ≤ most
  pub same : counts most (drop 16 s) ≡ n + counts (most - i) (drop at s)

pub counting_start : (s : List ℕ) (most : ℕ) → Counting s most 16 0 0
counting_start s most = let z : most - 0 ≡ most = omega arith in record { turns = omega arith; same = omega (arith, ap (λ (j : ℕ). counts j (drop 16 s)) z) }

module _ {s : List ℕ} {most at i n : ℕ} (v : Counting s most at i n) where
  none_left : counts 0 (drop at s) ≡ 0
  unfolding counts
  none_left = refl

  pub counting_done : most ≤ i → places_for n ≡ places_for (counts most (drop 16 s))
  counting_done h =
      let z : most - i ≡ 0 = omega arith in
      let e : n ≡ counts most (drop 16 s) = omega (arith, v.same, ap (λ (j : ℕ). counts j (drop at s)) z, none_left) in
      ap places_for e

  pub counting_many : 256 < n → places_for n ≡ places_for (counts most (drop 16 s))
  counting_many h = many_places n h ∙ sym (many_places (counts most (drop 16 s)) (omega (arith, v.same)))

  module _ (h : i < most) where
    by_fit : {b : Bool} → fits_in (drop at s) ≡ b → counts (most - i) (drop at s) ≡ cond b (count_in (drop at s) + counts (most - (i + 1)) (drop (16 + length_of (drop at s)) (drop at s))) 0
    unfolding counts
    by_fit t =
        let z : most - i ≡ suc (most - (i + 1)) = omega arith in
        ap (λ (j : ℕ). counts j (drop at s)) z ∙ ap (λ (b : Bool). cond b (count_in (drop at s) + counts (most - (i + 1)) (drop (16 + length_of (drop at s)) (drop at s))) 0) t

    pub counting_stop : fits_in (drop at s) ≡ false → places_for n ≡ places_for (counts most (drop 16 s))
    counting_stop t = let e : n ≡ counts most (drop 16 s) = omega (arith, v.same, by_fit t) in ap places_for e

    module _ (t : fits_in (drop at s) ≡ true) where
      pub counting_goes : at + (16 + le_at 8 s (at + 8)) ≤ length s
      counting_goes =
          let p = and_true (leb 16 (length (drop at s))) (leb (length_of (drop at s)) (length (drop at s) - 16)) t in
          omega (arith, leb-true 16 (length (drop at s)) p.0, leb-true (length_of (drop at s)) (length (drop at s) - 16) p.1, le_at-drop 8 s at 8, length-drop at s)

      pub counting_next : {k w : ℕ} → k ≡ count_in (drop at s) → w ≡ le_at 8 s (at + 8) → Counting s most (at + (16 + w)) (i + 1) (n + k)
      counting_next {k} {w} e q =
          let d : drop (16 + length_of (drop at s)) (drop at s) ≡ drop (at + (16 + w)) s = drop-drop (16 + length_of (drop at s)) at s ∙ ap (λ (j : ℕ). drop (at + (16 + j)) s) (le_at-drop 8 s at 8 ∙ sym q) in
          record { turns = omega arith; same = omega (arith, v.same, by_fit t, ap (counts (most - (i + 1))) d) }
