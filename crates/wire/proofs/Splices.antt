-- Parts of a list of bytes, and what a splice leaves and changes.
-- Assumes nothing.
use mathlib.Core.Path.{◌≡◌, refl, ap, sym, ◌∙◌}
use mathlib.Core.List.{List, ◌++◌, append_assoc}
use Prim.Native.Nat.{ℕ, ◌+◌, ◌-◌, ◌^◌, ◌≤◌, ◌<◌}
use native.Mathlib.Omega.{arith}
use lib.ListN.{length, take, drop, get_or, length-drop, length-append, get_or-append}
use lib.Seq.{ext_get_or, get_or-take, get_or-drop, length-take-le, get_or-append-add}
use Rattle.wire.specs.Numbers.{le, le_at, bytes_of}
use Rattle.wire.specs.Parts.{splice, Wrote}
use Rattle.wire.proofs.Numbers.{length-bytes_of}
use Rattle.wire.proofs.Parts.{le_at-splice, wrote_splice, as_splice}
use Rattle.wire.proofs.Parts as wire

-- the n bytes from a on
abbrev pub part : ℕ → ℕ → List ℕ → List ℕ
part n a b = take n (drop a b)

pub length_part : (n a : ℕ) (b : List ℕ) → a + n ≤ length b → length (part n a b) ≡ n
length_part n a b h = length-take-le n (drop a b) (rw length-drop (omega arith))

pub le_at_part : (n : ℕ) (b : List ℕ) (a : ℕ) → le_at n b a ≡ le (part n a b)
unfolding le_at
le_at_part n b a = refl

-- bytes that agree make the same part
pub part_same : (n a : ℕ) (b c : List ℕ) → a + n ≤ length b → length c ≡ length b
    → ((k : ℕ) → k < n → get_or c (a + k) 0 ≡ get_or b (a + k) 0) → part n a c ≡ part n a b
part_same n a b c h e f =
    let lb : length (part n a b) ≡ n = length_part n a b h in
    let lc : length (part n a c) ≡ n = length_part n a c (omega arith) in
    ext_get_or 0 (part n a c) (part n a b) (lc ∙ sym lb)
    (λ k g.
    let i : k < n = omega arith in
    get_or-take n (drop a c) k 0 i ∙ get_or-drop a c k 0 ∙ f k i ∙ sym (get_or-take n (drop a b) k 0 i ∙ get_or-drop a b k 0))

pub le_at-same : (n a : ℕ) (b c : List ℕ) → a + n ≤ length b → length c ≡ length b
    → ((k : ℕ) → k < n → get_or c (a + k) 0 ≡ get_or b (a + k) 0) → le_at n c a ≡ le_at n b a
le_at-same n a b c h e f = rw (le_at_part n c a, le_at_part n b a, part_same n a b c h e f)

-- ---- a splice

module _ (a : ℕ) (bs b : List ℕ) (h : a + length bs ≤ length b) where
  pub length-splice : length (splice a bs b) ≡ length b
  length-splice = wire.length-splice a bs b h

  long : length (take a b ++ bs) ≡ a + length bs
  long =
      let l : length (take a b) ≡ a = length-take-le a b (omega arith) in
      rw (length-append, l)

  pub splice_below : (j : ℕ) → j < a → get_or (splice a bs b) j 0 ≡ get_or b j 0
  unfolding splice
  splice_below j g =
      let l : length (take a b) ≡ a = length-take-le a b (omega arith) in
      let m = long in
      get_or-append (take a b ++ bs) (drop (a + length bs) b) 0 j (omega arith) ∙ get_or-append (take a b) bs 0 j (omega arith) ∙ get_or-take a b j 0 g

  pub splice_in : (k : ℕ) → k < length bs → get_or (splice a bs b) (a + k) 0 ≡ get_or bs k 0
  unfolding splice
  splice_in k g =
      let l : length (take a b) ≡ a = length-take-le a b (omega arith) in
      let m = long in
      get_or-append (take a b ++ bs) (drop (a + length bs) b) 0 (a + k) (omega arith)
      ∙ ap (λ (i : ℕ). get_or (take a b ++ bs) (i + k) 0) (sym l) ∙ get_or-append-add (take a b) bs k 0

  pub splice_above : (j : ℕ) → a + length bs ≤ j → get_or (splice a bs b) j 0 ≡ get_or b j 0
  unfolding splice
  splice_above j g =
      let m = long in
      let e : j ≡ length (take a b ++ bs) + (j - (a + length bs)) = omega arith in
      let f : a + length bs + (j - (a + length bs)) ≡ j = omega arith in
      ap (λ (i : ℕ). get_or (take a b ++ bs ++ drop (a + length bs) b) i 0) e
      ∙ get_or-append-add (take a b ++ bs) (drop (a + length bs) b) (j - (a + length bs)) 0
      ∙ get_or-drop (a + length bs) b (j - (a + length bs)) 0 ∙ ap (λ (i : ℕ). get_or b i 0) f

  -- the part of what was written
  pub part_splice : (n k : ℕ) → k + n ≤ length bs → part n (a + k) (splice a bs b) ≡ part n k bs
  part_splice n k g =
      let l : length (splice a bs b) ≡ length b = length-splice in
      let l₁ : length (part n (a + k) (splice a bs b)) ≡ n = length_part n (a + k) (splice a bs b) (omega arith) in
      let l₂ : length (part n k bs) ≡ n = length_part n k bs g in
      ext_get_or 0 (part n (a + k) (splice a bs b)) (part n k bs) (l₁ ∙ sym l₂)
      (λ i f.
      let m : i < n = omega arith in
      let e : a + k + i ≡ a + (k + i) = omega arith in
      get_or-take n (drop (a + k) (splice a bs b)) i 0 m ∙ get_or-drop (a + k) (splice a bs b) i 0
      ∙ ap (λ (x : ℕ). get_or (splice a bs b) x 0) e ∙ splice_in (k + i) (omega arith)
      ∙ sym (get_or-take n (drop k bs) i 0 m ∙ get_or-drop k bs i 0))

  -- numbers that stand elsewhere stay
  pub le_at_below : (n j : ℕ) → j + n ≤ a → le_at n (splice a bs b) j ≡ le_at n b j
  le_at_below n j g = le_at-same n j b (splice a bs b) (omega arith) length-splice (λ k i. splice_below (j + k) (omega arith))

  pub le_at_above : (n j : ℕ) → a + length bs ≤ j → j + n ≤ length b → le_at n (splice a bs b) j ≡ le_at n b j
  le_at_above n j g i = le_at-same n j b (splice a bs b) i length-splice (λ k f. splice_above (j + k) (omega arith))

-- ---- a number is stored

module _ (n x a : ℕ) (b : List ℕ) (h : a + n ≤ length b) where
  fits : a + length (bytes_of n x) ≤ length b
  fits = let l = length-bytes_of n x in omega arith

  pub stored_long : length (splice a (bytes_of n x) b) ≡ length b
  stored_long = length-splice a (bytes_of n x) b fits

  pub stored_byte_below : (j : ℕ) → j < a → get_or (splice a (bytes_of n x) b) j 0 ≡ get_or b j 0
  stored_byte_below j g = splice_below a (bytes_of n x) b fits j g

  pub stored_byte_above : (j : ℕ) → a + n ≤ j → get_or (splice a (bytes_of n x) b) j 0 ≡ get_or b j 0
  stored_byte_above j g = let l = length-bytes_of n x in splice_above a (bytes_of n x) b fits j (omega arith)

  pub stored_here : x < 256 ^ n → le_at n (splice a (bytes_of n x) b) a ≡ x
  stored_here g = le_at-splice n x a b h g

  pub stored_below : (k j : ℕ) → j + k ≤ a → le_at k (splice a (bytes_of n x) b) j ≡ le_at k b j
  stored_below k j g = le_at_below a (bytes_of n x) b fits k j g

  pub stored_above : (k j : ℕ) → a + n ≤ j → j + k ≤ length b → le_at k (splice a (bytes_of n x) b) j ≡ le_at k b j
  stored_above k j g i = let l = length-bytes_of n x in le_at_above a (bytes_of n x) b fits k j (omega arith) i

-- ---- one behind another

begun : (at : ℕ) (x l : List ℕ) → at ≤ length l → Wrote (take at l ++ x) l (splice at x l) (at + length x)
unfolding splice
begun at x l h = record { count = simp (length-append, length-take-le at l h) (omega arith); bytes = rw (length-append, length-take-le at l h) }

-- bytes put behind bytes
pub splice_more : (at : ℕ) (x y l : List ℕ) → at ≤ length l → splice (at + length x) y (splice at x l) ≡ splice at (x ++ y) l
splice_more at x y l h = as_splice l (x ++ y) _ at _ h (rw append_assoc at (wrote_splice (begun at x l h) y refl))
