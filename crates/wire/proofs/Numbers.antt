-- The laws of little-endian numbers, each over the width: halves, bound, inverse both ways, and where a number stands.
-- Assumes nothing.
use mathlib.Core.Path.{◌≡◌, refl, sym, ◌∙◌, ap}
use mathlib.Core.List.{List, [], ◌∷◌, ◌++◌}
use Prim.Native.Nat.{ℕ, zero, suc, ◌+◌, ◌-◌, ◌*◌, ◌/◌, ◌%◌, ◌^◌, ◌≤◌, ◌<◌}
use native.Mathlib.Nat.{pow-succ', pow-suc, mul_assoc, suc-add, zero-add, div-one, mod-lt, one-le-pow, div-div-eq-div-mul, pow-le-pow_right}
use native.Mathlib.Decide.{dec_lt, dec_le}
use native.Mathlib.Omega.{arith}
use lib.Arith.{mod-mul, digits_div, digits_mod}
use lib.Dec.{lit<}
use lib.ListN.{length, take, drop, get_or, length-drop, length-take, drop_of_length-le, get_or-eq_default}
use lib.Seq.{take-add, take-suc, take_at, take_all, drop-drop, drop-append-le, take-append-le, length-take-le, get_or-take, get_or-drop, drop-cons, take-nil}
use Rattle.std.specs.Prelude.{Option, None, Some, MatchOption}
use Rattle.std.specs.Option.{option_copied}
use Rattle.std.specs.Array.{IsFirstChunk}
use Rattle.std.proofs.Common.{Bor}
use Rattle.std.specs.Int.{byte_at, byte_worth, bytes_low_first, sum_through}
use Rattle.std.specs.Prelude.{slice_index}
use Rattle.wire.specs.Numbers.{Bytes, le, le_at, bytes_of}

-- ---- where a number stands

-- nothing stands past the end
pub le_at_past : (n : ℕ) (s : List ℕ) (at : ℕ) → length s ≤ at → le_at n s at ≡ 0
unfolding le_at le
le_at_past n s at h = rw (drop_of_length-le s h, take-nil)

-- a number that begins the bytes
pub le_at-zero : (n : ℕ) (s : List ℕ) → le_at n s 0 ≡ le (take n s)
unfolding le_at
le_at-zero n s = refl

pub le_at_front : (n : ℕ) (x y : List ℕ) → length x ≡ n → le_at n (x ++ y) 0 ≡ le x
unfolding le_at
le_at_front n x y h = ap le (take_at x y n h)

-- a number depends on its own bytes alone
pub le_at-append : (n : ℕ) (x y : List ℕ) (at : ℕ) → at + n ≤ length x → le_at n (x ++ y) at ≡ le_at n x at
unfolding le_at
le_at-append n x y at h = ap le (rw (drop-append-le at x y (omega arith)) (take-append-le n (drop at x) y (rw length-drop (omega arith))))

-- a place of a part is a place of the whole
pub le_at-drop : (n : ℕ) (s : List ℕ) (at k : ℕ) → le_at n (drop at s) k ≡ le_at n s (at + k)
unfolding le_at
le_at-drop n s at k = ap (λ (l : List ℕ). le (take n l)) (drop-drop k at s)

pub le_at_here : (n : ℕ) (s : List ℕ) (at : ℕ) → le_at n (drop at s) 0 ≡ le_at n s at
le_at_here n s at = le_at-drop n s at 0 ∙ ap (le_at n s) (omega arith)

pub le_at-head : (b : ℕ) (s : List ℕ) → le_at 1 (b ∷ s) 0 ≡ b
unfolding le_at le
le_at-head b s = omega arith

-- one byte
pub le_at-one : (s : List ℕ) (at : ℕ) → le_at 1 s at ≡ get_or s at 0
unfolding le_at le
le_at-one s at = go (dec_lt at (length s))
  where
    there : at < length s → le_at 1 s at ≡ get_or s at 0
    there h = rw (drop-cons s at 0 h) (omega arith)

    go : Dec (at < length s) → le_at 1 s at ≡ get_or s at 0
    go (yes h) = there h
    go (no h) = le_at_past 1 s at (omega arith) ∙ sym (get_or-eq_default s 0 {n = at} (omega arith))

-- ---- halves

pub le-append : (x y : List ℕ) → le (x ++ y) ≡ le x + 256 ^ length x * le y
unfolding le
le-append [] y = omega arith
le-append (b ∷ x) y =
    let ih = le-append x y in
    let e : 256 ^ suc (length x) * le y ≡ 256 * (256 ^ length x * le y) = rw (pow-succ', mul_assoc) in
    omega arith

-- where the end cuts a number short, a narrower one that reaches the end says the same
pub le_at_cut : (n m : ℕ) (s : List ℕ) (at : ℕ) → length s ≤ at + n → le_at (n + m) s at ≡ le_at n s at
unfolding le_at
le_at_cut n m s at h =
    let l : length (drop at s) ≤ n = rw length-drop (omega arith) in
    rw (take_all (n + m) (drop at s) (omega arith), take_all n (drop at s) l)

-- two numbers side by side are one of both widths
pub le_at-add : (n m : ℕ) (s : List ℕ) (at : ℕ) → le_at (n + m) s at ≡ le_at n s at + 256 ^ n * le_at m s (at + n)
unfolding le_at
le_at-add n m s at = go (dec_le (at + n) (length s))
  where
    whole : at + n ≤ length s → le_at (n + m) s at ≡ le_at n s at + 256 ^ n * le_at m s (at + n)
    whole h =
        let l : length (take n (drop at s)) ≡ n = length-take-le n (drop at s) (rw length-drop (omega arith)) in
        rw (take-add, le-append, l, drop-drop)

    go : Dec (at + n ≤ length s) → le_at (n + m) s at ≡ le_at n s at + 256 ^ n * le_at m s (at + n)
    go (yes h) = whole h
    go (no h) = rw (le_at_past m s (at + n) (omega arith)) (le_at_cut n m s at (omega arith) ∙ omega arith)

-- a number that reaches the end, by its first byte and the rest
pub le_at-first : (n : ℕ) (s : List ℕ) (at : ℕ) → length s ≤ at + 1 + n → le_at (1 + n) s at ≡ le_at (n + 1) s (at + 1) * 256 + get_or s at 0
le_at-first n s at h = omega (arith, le_at-add 1 n s at, le_at-one s at, le_at_cut n 1 s (at + 1) h)

-- ---- bound

pub le_bound : (l : List ℕ) → Bytes l → le l < 256 ^ length l
unfolding le
le_bound [] b = omega arith
le_bound (x ∷ l) b =
    let ih = le_bound l (λ i. b (suc i)) in
    rw pow-succ' (omega (arith, b 0))

-- a part of bytes is bytes
pub bytes_part : (n at : ℕ) (s : List ℕ) → Bytes s → Bytes (take n (drop at s))
bytes_part n at s b i = go (dec_lt i n)
  where
    go : Dec (i < n) → get_or (take n (drop at s)) i 0 < 256
    go (yes h) = rw (get_or-take, get_or-drop) (b (at + i))
    go (no h) =
        let l = length-take n (drop at s) in
        rw (get_or-eq_default (take n (drop at s)) 0 {n = i} (omega arith)) (omega arith)

pub le_at_bound : (n : ℕ) (s : List ℕ) (at : ℕ) → Bytes s → le_at n s at < 256 ^ n
unfolding le_at
le_at_bound n s at b =
    let l : length (take n (drop at s)) ≤ n = omega (arith, length-take n (drop at s)) in
    omega (arith, le_bound (take n (drop at s)) (bytes_part n at s b), pow-le-pow_right {n = 256} (lit< tt) l)

-- ---- inverse both ways

pub length-bytes_of : (n x : ℕ) → length (bytes_of n x) ≡ n
unfolding bytes_of
length-bytes_of zero x = refl
length-bytes_of (suc n) x = ap suc (length-bytes_of n (x / 256))

pub bytes_of-bytes : (n x : ℕ) → Bytes (bytes_of n x)
unfolding bytes_of
bytes_of-bytes zero x i = omega arith
bytes_of-bytes (suc n) x zero = omega arith
bytes_of-bytes (suc n) x (suc i) = bytes_of-bytes n (x / 256) i

-- the bytes of a number say the number
pub le-bytes_of : (n x : ℕ) → x < 256 ^ n → le (bytes_of n x) ≡ x
unfolding le bytes_of
le-bytes_of zero x h = omega arith
le-bytes_of (suc n) x h =
    let h' : x < 256 * 256 ^ n = rw pow-succ' at h in
    let ih = le-bytes_of n (x / 256) (omega arith) in
    omega arith

-- and of the number that bytes say they are the bytes
pub bytes_of-le : (l : List ℕ) → Bytes l → bytes_of (length l) (le l) ≡ l
unfolding le bytes_of
bytes_of-le [] b = refl
bytes_of-le (x ∷ l) b =
    let e : (x + 256 * le l) % 256 ≡ x = omega (arith, b 0) in
    let f : (x + 256 * le l) / 256 ≡ le l = omega (arith, b 0) in
    rw (e, f) (ap (λ (l : List ℕ). x ∷ l) (bytes_of-le l (λ i. b (suc i))))

pub le_at-bytes_of : (n x : ℕ) (rest : List ℕ) → x < 256 ^ n → le_at n (bytes_of n x ++ rest) 0 ≡ x
le_at-bytes_of n x rest h = le_at_front n (bytes_of n x) rest (length-bytes_of n x) ∙ le-bytes_of n x h

pub bytes_of-le_at : (n : ℕ) (s : List ℕ) (at : ℕ) → Bytes s → at + n ≤ length s → bytes_of n (le_at n s at) ≡ take n (drop at s)
unfolding le_at
bytes_of-le_at n s at b h =
    let l : length (take n (drop at s)) ≡ n = length-take-le n (drop at s) (rw length-drop (omega arith)) in
    ap (λ (k : ℕ). bytes_of k (le (take n (drop at s)))) (sym l) ∙ bytes_of-le (take n (drop at s)) (bytes_part n at s b)

-- two numbers that fit and have the same bytes are equal
pub bytes_of-same : (n x y : ℕ) → x < 256 ^ n → y < 256 ^ n → bytes_of n x ≡ bytes_of n y → x ≡ y
bytes_of-same n x y h k e = sym (le-bytes_of n x h) ∙ ap le e ∙ le-bytes_of n y k

-- the bytes of a number are those of its lower and of its upper part
pub bytes_of-halves : (n m x : ℕ) → bytes_of n (x % 256 ^ n) ++ bytes_of m (x / 256 ^ n) ≡ bytes_of (n + m) x
unfolding bytes_of
bytes_of-halves zero m x = rw (zero-add, div-one)
bytes_of-halves (suc n) m x =
    let d : x % 256 ^ suc n ≡ x / 256 % 256 ^ n * 256 + x % 256 = rw (pow-suc, mod-mul x (one-le-pow n 256 (lit< tt)) (lit< tt)) in
    rw (
      suc-add,
      ← bytes_of-halves n m (x / 256),
      d,
      digits_mod (x / 256 % 256 ^ n) (mod-lt x (lit< tt)),
      digits_div (x / 256 % 256 ^ n) (mod-lt x (lit< tt)),
      div-div-eq-div-mul,
      pow-succ',
    )

-- ---- a number that the end cuts short

-- read at the widest, it fits the width and is the same
pub narrow : (n m : ℕ) (s : List ℕ) (at : ℕ) → Bytes s → length s < at + n → (le_at (n + m) s at ≡ le_at n s at) × (le_at (n + m) s at < 256 ^ n)
narrow n m s at b h =
    let e : le_at (n + m) s at ≡ le_at n s at = le_at_cut n m s at (omega arith) in
    (e, omega (arith, le_at_bound n s at b))

-- byte by byte from the last

pub cut_none : (s : List ℕ) → 0 ≡ le_at 8 s (length s)
cut_none s = sym (le_at_past 8 s (length s) (omega arith))

pub cut_turn : (s : List ℕ) (i x : ℕ) → Bytes s → 0 < i → length s ≤ i + 7 → x ≡ le_at 8 s i
    → (x * 256 + get_or s (i - 1) 0 ≡ le_at 8 s (i - 1)) × (x * 256 + get_or s (i - 1) 0 < 256 ^ 8)
cut_turn s i x b h k e =
    let j : i - 1 + 1 ≡ i = omega arith in
    let f : le_at 8 s (i - 1 + 1) ≡ le_at 8 s i = ap (le_at 8 s) j in
    let q : le_at 8 s (i - 1) ≡ le_at 8 s (i - 1 + 1) * 256 + get_or s (i - 1) 0 = le_at-first 7 s (i - 1) (omega arith) in
    (omega arith, omega (arith, le_at_bound 8 s (i - 1) b))

-- from the end, or from a place past it
pub cut_done : (s : List ℕ) (at i : ℕ) → i ≤ at → i ≤ length s → length s - i ≤ length s - at → le_at 8 s i ≡ le_at 8 s at
cut_done s at i h k l = go (dec_lt at (length s))
  where
    go : Dec (at < length s) → le_at 8 s i ≡ le_at 8 s at
    go (yes m) = ap (le_at 8 s) (omega arith)
    go (no m) = le_at_past 8 s i (omega arith) ∙ sym (le_at_past 8 s at (omega arith))

-- ---- the library's numbers and bytes

-- a number by what each byte is worth, as `from_le_bytes` adds them up
front : (k : ℕ) (l : List ℕ) → k < length l → sum_through (λ i. byte_worth i (slice_index l i)) k ≡ le (take (suc k) l)
unfolding le
front zero l h = sym (le_at-one l 0) ∙ le_at-zero 1 l
front (suc k) l h =
    let n : length (take (suc k) l) ≡ suc k = length-take-le (suc k) l (omega arith) in
    rw (take-suc l (suc k) 0 h, le-append, n, front k l (omega arith)) (omega arith)

pub le-sum : (k : ℕ) (l : List ℕ) → length l ≡ suc k → sum_through (λ i. byte_worth i (slice_index l i)) k ≡ le l
le-sum k l h = front k l (omega arith) ∙ ap le (take_all (suc k) l (omega arith))

-- the bytes of a number, as `to_le_bytes` lists them
byte_there : (i x : ℕ) → byte_at i x ≡ x / 256 ^ i % 256
byte_there zero x = rw div-one
byte_there (suc i) x = refl

low : (i k x : ℕ) → bytes_low_first i k x ≡ bytes_of k (x / 256 ^ i)
unfolding bytes_of
low i zero x = refl
low i (suc k) x = rw (byte_there i x, low (suc i) k x, div-div-eq-div-mul, pow-suc)

pub bytes_of-low : (k x : ℕ) → bytes_low_first 0 k x ≡ bytes_of k x
bytes_of-low k x = low 0 k x ∙ ap (bytes_of k) (div-one x)

-- ---- the first n bytes of a tail, as they are lent where there are as many

pub whole : {t : List ℕ} (r : Option (Bor (List ℕ))) (n : ℕ) (s : List ℕ) (at : ℕ) → at ≤ length s → t ≡ drop at s → MatchOption r (length t < n) (λ y. IsFirstChunk t y.now n)
    → MatchOption (option_copied r) (length s < at + n) (λ w. (le w ≡ le_at n s at) × (length w ≡ n))
unfolding le_at
whole {t} None n s at h e c = omega (arith, ap length e, length-drop at s)
whole {t} (Some y) n s at h e c = (ap le (c.same ∙ ap (take n) e), ap length c.same ∙ length-take-le n t c.enough)
