-- A list around bytes for its entries, as long as the list itself, filled part by part.
-- Assumes nothing.
use mathlib.Core.Path.{◌≡◌, refl, sym, ◌∙◌, ap}
use mathlib.Core.Bool.{cond}
use mathlib.Core.List.{List, [], ◌∷◌, ◌++◌, map, append_assoc, append-nil}
use Prim.Native.Nat.{ℕ, ◌+◌, ◌-◌, ◌≤◌, ◌<◌}
use native.Mathlib.Omega.{arith}
use lib.Dec.{leb}
use lib.ListN.{length, take, drop, length-append, length-drop, drop_of_length-le}
use lib.Seq.{length-take-le, take_all}
use borrow.Author.Tests.{le-leb, lt-leb}
use Rattle.wire.specs.Parts.{put, Wrote}
use Rattle.wire.proofs.Parts.{none, wrote_put, wrote_length, tail_whole}
use Rattle.wire.proofs.Filling.{filled}
use Rattle.order.specs.Entries.{join}
use Rattle.entries.specs.Kinds.{Description}
use Rattle.writer.specs.Runs.{entry_by, fits, around, by_starts}
use Rattle.writer.proofs.Fits.{wrote_first, fits-within}
use Rattle.writer.proofs.Runs.{wrote_fits}

empty : (l : List ℕ) → length l ≤ 0 → l ≡ []
empty [] h = refl
empty (x ∷ l) h = absurd (omega arith)

-- ---- over as many bytes

module _ (d : Description) (s l : List ℕ) where
  abbrev parts : List (List ℕ)
  parts = map (entry_by d s) l

  abbrev middle : List ℕ
  middle = join (fits (length s - 4) parts)

  -- bytes that have no room for a count
  pub short_filled : length s < 4 → (old : List ℕ) {new : List ℕ} → length old ≡ length s → new ≡ put 0 s old → new ≡ by_starts d s l
  short_filled h old e p =
      let z : middle ≡ [] = empty middle (omega (arith, fits-within (length s - 4) parts)) in
      let k : length s ≤ 4 = omega arith in
      let n : drop 4 s ≡ [] = drop_of_length-le s k in
      let all : by_starts d s l ≡ s = ap (around s) z ∙ ap (λ (x : List ℕ). take 4 s ++ x) n ∙ append-nil (take 4 s) ∙ take_all 4 s (omega arith) in
      filled (wrote_first {bs = s} (omega arith) p) (sym e) ∙ sym all

  -- the count, the entries, and what is left
  module _ (h : 4 ≤ length s) (old : List ℕ) {o : List ℕ} (e : length old ≡ length s) (p : o ≡ put 0 (take 4 s) old) where
    four : length (take 4 s) ≡ 4
    four = length-take-le 4 s h

    counted : Wrote (take 4 s) old o 4
    counted = let w = wrote_first {bs = take 4 s} (omega (arith, four)) p in record { count = sym four; bytes = w.bytes }

    pub counted_long : length o ≡ length s
    counted_long = wrote_length counted (omega (arith, four)) ∙ e

    module _ {last : List ℕ} {n : ℕ} (w : Wrote (join (fits (length (take (length o - 4) (drop 4 o))) parts)) (take (length o - 4) (drop 4 o)) last n) where
      begun : Wrote (take 4 s ++ middle) old (take 4 o ++ (last ++ drop (length o - 4) (drop 4 o))) (4 + n)
      begun =
          let m : length old - length (take 4 s) ≡ length s - 4 = omega (arith, four) in
          rw m at (wrote_fits counted (omega (arith, four)) parts w)

      n_is : n ≡ length middle
      n_is = omega (arith, begun.count, length-append (take 4 s) middle, four)

      pub entries_end : 4 + n ≤ length s
      entries_end = omega (arith, n_is, fits-within (length s - 4) parts)

      pub starts_filled : {new : List ℕ} → new ≡ put (4 + n) (take (length s - (4 + n)) (drop (4 + n) s)) (take 4 o ++ (last ++ drop (length o - 4) (drop 4 o))) → new ≡ by_starts d s l
      starts_filled {new} q =
          let t : take (length s - (4 + n)) (drop (4 + n) s) ≡ drop (4 + length middle) s = tail_whole (4 + n) s ∙ ap (λ (k : ℕ). drop (4 + k) s) n_is in
          let k = length-drop (4 + length middle) s in
          let b = length-append (take 4 s) middle in
          let r : length (take 4 o ++ (last ++ drop (length o - 4) (drop 4 o))) ≡ length old = wrote_length begun (omega (arith, four, fits-within (length s - 4) parts)) in
          let all = wrote_put begun (drop (4 + length middle) s) (omega (arith, r, k, n_is, fits-within (length s - 4) parts)) (q ∙ ap (λ (x : List ℕ). put (4 + n) x (take 4 o ++ (last ++ drop (length o - 4) (drop 4 o)))) t) in
          filled all (length-append (take 4 s ++ middle) (drop (4 + length middle) s) ∙ omega (arith, b, four, k, n_is, fits-within (length s - 4) parts)) ∙ append_assoc (take 4 s) middle (drop (4 + length middle) s)

-- ---- over the start of more

pub starts_none : (d : Description) (s l old : List ℕ) → length old < length s → Wrote (cond (leb (length s) (length old)) (by_starts d s l) []) old old 0
starts_none d s l old h = rw (lt-leb (length s) (length old) h) (none old)

pub starts_first : (d : Description) (s l old : List ℕ) {last : List ℕ} → length s ≤ length old → length last ≡ length s → last ≡ by_starts d s l
    → Wrote (cond (leb (length s) (length old)) (by_starts d s l) []) old (last ++ drop (length s) old) (length s)
starts_first d s l old {last} h k e = rw (le-leb (length s) (length old) h, ← e) (record { count = sym k; bytes = ap (λ (n : ℕ). last ++ drop n old) (sym k) })
