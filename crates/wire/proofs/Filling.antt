-- Lent memory that is filled part by part, each part into the tail from where the last one ended.
-- Assumes nothing.
use mathlib.Core.Path.{◌≡◌, refl, sym, ◌∙◌, ap}
use mathlib.Core.List.{List, [], ◌∷◌, ◌++◌, append_assoc, append-nil}
use Prim.Native.Nat.{ℕ, ◌+◌, ◌-◌, ◌≤◌}
use native.Mathlib.Omega.{arith}
use lib.ListN.{length, take, drop, length-append, drop_of_length-le}
use Rattle.wire.specs.Parts.{Wrote}
use Rattle.wire.proofs.Parts.{none, wrote_tail, wrote_length, length_tail}

-- of all that goes into old, there is room for it and the first part, t bytes, stands in new; the rest is to come
pub record Filling (all old : List ℕ) (rest : List ℕ) (t : ℕ) (new : List ℕ) : Type 0 where
  pub part : List ℕ
  pub whole : all ≡ part ++ rest
  pub room : length all ≤ length old
  pub wrote : Wrote part old new t

-- nothing is written yet
pub filling_none : (all old : List ℕ) → length all ≤ length old → Filling all old all 0 old
filling_none all old h = record { part = []; whole = refl; room = h; wrote = none old }

-- nothing is to come
pub filling_end : {all old : List ℕ} {t : ℕ} {new : List ℕ} → Filling all old [] t new → Wrote all old new t
filling_end v = rw (v.whole ∙ append-nil v.part) v.wrote

module _ {all old rest : List ℕ} {t : ℕ} {new : List ℕ} (v : Filling all old rest t new) where
  sum : length all ≡ length v.part + length rest
  sum = ap length v.whole ∙ length-append v.part rest

  pub filling_long : length new ≡ length old
  filling_long = wrote_length v.wrote (omega (arith, sum, v.room))

  pub filling_at : t ≤ length new
  filling_at = omega (arith, filling_long, sum, v.room, v.wrote.count)

  -- how far the rest reaches
  pub filling_sum : t + length rest ≡ length all
  filling_sum = omega (arith, sum, v.wrote.count)

  -- there is room for the rest
  pub filling_room : length rest ≤ length (take (length new - t) (drop t new))
  filling_room = rw (length_tail t new) (omega (arith, filling_long, sum, v.room, v.wrote.count))

  -- the rest is written
  pub filling_done : {last : List ℕ} {n : ℕ} → Wrote rest (take (length new - t) (drop t new)) last n → Wrote all old (take t new ++ (last ++ drop (length new - t) (drop t new))) (t + n)
  filling_done w = rw v.whole (wrote_tail v.wrote w)

-- nothing is to come, by the lengths
pub filling_whole : (rest : List ℕ) {all old : List ℕ} {t : ℕ} {new : List ℕ} → Filling all old rest t new → length all ≤ t → Wrote all old new t
filling_whole [] v h = filling_end v
filling_whole (x ∷ r) v h = absurd (omega (arith, filling_sum v))

module _ {all old : List ℕ} (x rest : List ℕ) {t : ℕ} {new : List ℕ} (v : Filling all old (x ++ rest) t new) where
  -- there is room for the next part
  pub filling_next_room : length x ≤ length (take (length new - t) (drop t new))
  filling_next_room = omega (arith, filling_room v, length-append x rest)

  pub filling_next_fits : t + length x ≤ length new
  filling_next_fits = omega (arith, filling_sum v, filling_long v, v.room, length-append x rest)

  -- the next part is written
  pub filling_next : {last : List ℕ} {n : ℕ} → Wrote x (take (length new - t) (drop t new)) last n → Filling all old rest (t + n) (take t new ++ (last ++ drop (length new - t) (drop t new)))
  filling_next w = record { part = v.part ++ x; whole = v.whole ∙ sym (append_assoc v.part x rest); room = v.room; wrote = wrote_tail v.wrote w }

-- memory that is filled to its end
pub filled : {bs old new : List ℕ} {n : ℕ} → Wrote bs old new n → length bs ≡ length old → new ≡ bs
filled {bs} {old} w h = let n : length old ≤ length bs = omega arith in w.bytes ∙ ap (λ (t : List ℕ). bs ++ t) (drop_of_length-le old n) ∙ append-nil bs
