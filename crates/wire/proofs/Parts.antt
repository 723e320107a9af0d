-- The laws of writing: what was written, then what was there before. Every writer's proof cites these.
-- Assumes nothing.
use mathlib.Core.Path.{◌≡◌, refl, sym, ◌∙◌, ap}
use mathlib.Core.Bool.{Bool, true, false, cond}
use mathlib.Core.List.{List, [], ◌∷◌, ◌++◌, append_assoc, append-nil}
use Prim.Native.Nat.{ℕ, suc, ◌+◌, ◌-◌, ◌%◌, ◌^◌, ◌≤◌, ◌<◌}
use native.Mathlib.Nat.{add-suc, le_refl}
use native.Mathlib.Numerals.{add-one}
use native.Mathlib.Omega.{arith}
use lib.Dec.{leb}
use borrow.Author.Tests.{le-leb, lt-leb, leb-true, leb-false}
use lib.ListN.{length, take, drop, set, length-append, length-drop, take-append-drop, drop_of_length-le}
use lib.Seq.{sets, sets-eq, paste, take-length, length-take-le, take_all, take-append_seam, drop-append_seam, drop-append-add, drop-drop, drop_at}
use Rattle.wire.specs.Numbers.{le_at, bytes_of}
use Rattle.wire.specs.Parts.{splice, put, Wrote}
use Rattle.wire.proofs.Numbers.{le_at-bytes_of, le_at_here}

-- ---- splice

pub length-splice : (at : ℕ) (bs old : List ℕ) → at + length bs ≤ length old → length (splice at bs old) ≡ length old
unfolding splice
length-splice at bs old h = simp (length-append, length-take-le at old (omega arith), length-drop) (omega arith)

-- what was written is read back
pub le_at-splice : (n x : ℕ) (at : ℕ) (old : List ℕ) → at + n ≤ length old → x < 256 ^ n → le_at n (splice at (bytes_of n x) old) at ≡ x
unfolding splice
le_at-splice n x at old h k =
    let l : length (take at old) ≡ at = length-take-le at old (omega arith) in
    sym (le_at_here n (splice at (bytes_of n x) old) at) ∙ rw (append_assoc, drop_at (take at old) (bytes_of n x ++ drop (at + length (bytes_of n x)) old) at l) (le_at-bytes_of n x (drop (at + length (bytes_of n x)) old) k)

-- a part that is lent and comes back as bs
pub splice_part : (at : ℕ) (bs old : List ℕ) → take at old ++ (bs ++ drop (at + length bs - at) (drop at old)) ≡ splice at bs old
unfolding splice
splice_part at bs old =
    let e : at + (at + length bs - at) ≡ at + length bs = omega arith in
    rw (drop-drop, e, append_assoc)

-- ---- stores

-- the stores of vs at at + k, at + k + 1, ..
abbrev pub stores : List ℕ → ℕ → ℕ → List ℕ → List ℕ
stores l at k [] = l
stores l at k (v ∷ vs) = stores (set l (at + k) v) at (suc k) vs

stores_sets : (vs l : List ℕ) (at k : ℕ) → stores l at k vs ≡ sets l (at + k) vs
stores_sets [] l at k = refl
stores_sets (v ∷ vs) l at k =
    stores_sets vs (set l (at + k) v) at (suc k) ∙ ap (λ (n : ℕ). sets (set l (at + k) v) n vs) (add-suc at k)

-- stores at at, at + 1, .. are one splice, at any width
pub stored : (v : ℕ) (vs l : List ℕ) (at : ℕ) → at + suc (length vs) ≤ length l → stores (set l at v) at 1 vs ≡ splice at (v ∷ vs) l
unfolding splice
stored v vs l at h = stores_sets vs (set l at v) at 1 ∙ ap (λ (n : ℕ). sets (set l at v) n vs) (add-one at) ∙ sets-eq (v ∷ vs) l at h

-- one store
pub stored_one : (x : ℕ) (l : List ℕ) (at : ℕ) → x < 256 → at + 1 ≤ length l → set l at x ≡ splice at (bytes_of 1 x) l
unfolding bytes_of
stored_one x l at h k = let e : x % 256 ≡ x = omega arith in rw e (stored x [] l at (omega arith))

-- a copy that a loop has brought to its end
pub pasted : (d : List ℕ) (at : ℕ) (s : List ℕ) (n : ℕ) → n ≡ length s → paste d at s n ≡ splice at s d
unfolding splice
pasted d at s n e = rw (e, take-length)

-- ---- put: a splice, or nothing

pub put-fits : (at : ℕ) (bs old : List ℕ) → at + length bs ≤ length old → put at bs old ≡ splice at bs old
unfolding put
put-fits at bs old h = ap (λ (b : Bool). cond b (splice at bs old) old) (le-leb _ _ h)

pub put_not : (at : ℕ) (bs old : List ℕ) → length old < at + length bs → put at bs old ≡ old
unfolding put
put_not at bs old h = ap (λ (b : Bool). cond b (splice at bs old) old) (lt-leb _ _ h)

-- code that tests whether n bytes fit and then writes, or does not
module _ (at : ℕ) (bs old : List ℕ) {new : List ℕ} {n : ℕ} (i : length bs ≡ n) where
  pub put_tested : leb (at + n) (length old) ≡ true → new ≡ splice at bs old → new ≡ put at bs old
  put_tested t e = e ∙ sym (put-fits at bs old (omega (arith, leb-true (at + n) (length old) t, i)))

  pub put_refused : leb (at + n) (length old) ≡ false → new ≡ old → new ≡ put at bs old
  put_refused t e = e ∙ sym (put_not at bs old (omega (arith, leb-false (at + n) (length old) t, i)))

pub length-put : (at : ℕ) (bs old : List ℕ) → length (put at bs old) ≡ length old
length-put at bs old = go (leb (at + length bs) (length old)) refl
  where
    go : (b : Bool) → leb (at + length bs) (length old) ≡ b → length (put at bs old) ≡ length old
    go true e = ap length (put-fits at bs old (leb-true _ _ e)) ∙ length-splice at bs old (leb-true _ _ e)
    go false e = ap length (put_not at bs old (leb-false _ _ e))

-- ---- written from the start on

pub none : (old : List ℕ) → Wrote [] old old 0
none old = record { count = refl; bytes = refl }

-- the tail of a list, as it is lent and as it comes back
pub tail_whole : (at : ℕ) (l : List ℕ) → take (length l - at) (drop at l) ≡ drop at l
tail_whole at l = take_all (length l - at) (drop at l) (rw length-drop (le_refl _))

tail_none : (at : ℕ) (l : List ℕ) → drop (length l - at) (drop at l) ≡ []
tail_none at l = drop_of_length-le (drop at l) {i = length l - at} (rw length-drop (le_refl _))

pub length_tail : (at : ℕ) (l : List ℕ) → length (take (length l - at) (drop at l)) ≡ length l - at
length_tail at l = rw (tail_whole, length-drop)

module _ {w old l : List ℕ} {at : ℕ} (so : Wrote w old l at) where
  -- bytes spliced in where the written ones end
  pub wrote_splice : {new : List ℕ} (bs : List ℕ) → new ≡ splice at bs l → Wrote (w ++ bs) old new (at + length bs)
  unfolding splice
  wrote_splice bs e = record {
    count = simp length-append (omega arith);
    bytes = e ∙ rw (so.bytes, so.count, take-append_seam, drop-append-add, drop-drop, length-append);
  }

  -- the same for bytes that are put there, and fit
  pub wrote_put : {new : List ℕ} (bs : List ℕ) → at + length bs ≤ length l → new ≡ put at bs l → Wrote (w ++ bs) old new (at + length bs)
  wrote_put bs h e = wrote_splice bs (e ∙ put-fits at bs l h)

  -- bytes written over the start of the tail that is lent from there
  pub wrote_tail : {bs new : List ℕ} {n : ℕ} → Wrote bs (take (length l - at) (drop at l)) new n
      → Wrote (w ++ bs) old (take at l ++ (new ++ drop (length l - at) (drop at l))) (at + n)
  wrote_tail e = record {
    count = simp length-append (omega arith);
    bytes = rw (e.bytes, tail_none, tail_whole, append-nil, so.bytes, so.count, take-append_seam, drop-append_seam, drop-drop, length-append, ← append_assoc);
  }

  -- the length stays
  pub wrote_length : length w ≤ length old → length l ≡ length old
  wrote_length h = rw (so.bytes, length-append, length-drop) (omega arith)

-- bytes written over the start are put there
pub wrote_start : {bs old new : List ℕ} {n : ℕ} → Wrote bs old new n → length bs ≤ length old → new ≡ put 0 bs old
unfolding splice
wrote_start {bs} {old} so h =
    let g : 0 + length bs ≡ length bs = omega arith in
    so.bytes ∙ sym (put-fits 0 bs old (omega arith) ∙ ap (λ (k : ℕ). bs ++ drop k old) g)

-- ---- a part by part copy

-- a splice is what was before the place, and the bytes, written over the start
pub as_splice : (old bs new : List ℕ) (at n : ℕ) → at ≤ length old → Wrote (take at old ++ bs) old new n → new ≡ splice at bs old
unfolding splice
as_splice old bs new at n h so = so.bytes ∙ rw (length-append, length-take-le at old h)

-- no part of s is there yet
pub no_part : (old : List ℕ) (at : ℕ) → at ≤ length old → Wrote (take at old ++ []) old old (at + 0)
no_part old at h = record {
  count = simp (append-nil, length-take-le at old h) (omega arith);
  bytes = simp (append-nil, length-take-le at old h, take-append-drop);
}
