-- What the row of a kind shows of numbers that were narrowed to their fields: a number is within its field exactly if the row still has it.
-- Assumes nothing.
use mathlib.Core.Path.{◌≡◌, refl, ap, ◌∙◌}
use mathlib.Core.Bool.{Bool, true, false, ◌&&◌}
use mathlib.Core.List.{List, [], ◌∷◌}
use Prim.Native.Nat.{ℕ, ◌%◌, ◌<◌}
use native.Mathlib.Omega.{arith}
use borrow.Author.Tests.{ltb-true, ltb-false, leb-true, eq-eqb, ne_eqb}
use lib.Dec.{ltb, leb, eqb}
use native.Mathlib.Nat.{mod-eq_of_lt}
use Rattle.answer.specs.Numbers.{TAG}
use Rattle.answer.specs.Outcome.{taken, refused}
use Rattle.answer.proofs.Checks.{and_true}
use Rattle.kinds.specs.declared.Message.{Message}
use Rattle.kinds.specs.declared.Message.TheVariants.{Nothing}
use Rattle.kinds.specs.declared.Field.{Field}
use Rattle.kinds.specs.declared.Field.TheVariants.{Absent, U8, U16, U32, U64, Flag, Level, Error}
use Rattle.kinds.specs.Kinds.{Kind, kinds, blank, paper}
use Rattle.messages.proofs.Tags.{Missing}
use Rattle.numbers.specs.declared.Numbers.{Numbers}
use Rattle.numbers.specs.Numbers.{kind_in, within, all_within}
use Rattle.numbers.specs.Steps.{low, narrow, narrow_in, same_numbers}

-- ---- one field

-- what a row shows of a number: nothing beside no field
abbrev pub there : Field → ℕ → ℕ
there Absent v = 0
there U8 v = v
there U16 v = v
there U32 v = v
there U64 v = v
there Flag v = v
there Level v = v
there Error v = v

-- the low part of a number is the number exactly if it is below the modulus
low_same : (m v : ℕ) → v % m < m → eqb (v % m) v ≡ ltb v m
low_same m v h = go (ltb v m) refl
  where
    go : (b : Bool) → ltb v m ≡ b → eqb (v % m) v ≡ b
    go true e = eq-eqb (v % m) v (mod-eq_of_lt (ltb-true v m e))
    go false e = ne_eqb (v % m) v (λ q. omega (arith, ltb-false v m e))

zero_same : (v : ℕ) → eqb 0 v ≡ ltb v 1
zero_same v = go (ltb v 1) refl
  where
    go : (b : Bool) → ltb v 1 ≡ b → eqb 0 v ≡ b
    go true e = eq-eqb 0 v (omega (arith, ltb-true v 1 e))
    go false e = ne_eqb 0 v (λ q. omega (arith, ltb-false v 1 e))

pub there-within : (f : Field) (v : ℕ) → eqb (there f (low f v)) v ≡ within f v
there-within Absent v = zero_same v
there-within U8 v = low_same 256 v (omega arith)
there-within U16 v = low_same 65536 v (omega arith)
there-within U32 v = low_same 4294967296 v (omega arith)
there-within U64 v = low_same 18446744073709551616 v (omega arith)
there-within Flag v = low_same 256 v (omega arith)
there-within Level v = low_same 256 v (omega arith)
there-within Error v = low_same 4294967296 v (omega arith)

pub within_low : (f : Field) (v : ℕ) → within f v ≡ true → low f v ≡ v
within_low f v h = mod-eq_of_lt (ltb-true v _ h)

-- a u64 is its own low 8 bytes
pub whole : (v : ℕ) → v < 18446744073709551616 → v % 18446744073709551616 ≡ v
whole v h = mod-eq_of_lt h

-- ---- the row of a kind with its numbers narrowed

abbrev pub narrowed : Kind → Numbers → Message
narrowed k n = narrow k n.a n.b n.c n.d

-- what its row says: whether its kind is known, and its numbers
abbrev Shown : Type 0
Shown = Bool × ℕ × ℕ × ℕ × ℕ

abbrev shown : Kind → Numbers → Shown
shown k n = let f = paper (narrowed k n) in (f.known, f.a.1, f.b.1, f.c.1, f.d.1)

-- what is due: it is known, and the numbers are those that have a field
abbrev due : Kind → Numbers → Shown
due k n =
    let f = blank k in
    (true, there f.a.0 (low f.a.0 n.a), there f.b.0 (low f.b.0 n.b), there f.c.0 (low f.c.0 n.c), there f.d.0 (low f.d.0 n.d))

abbrev mapped : (Kind → Numbers → Shown) → List Kind → Numbers → List Shown
mapped f [] n = []
mapped f (k ∷ ks) n = f k n ∷ mapped f ks n

all_due : (n : Numbers) → mapped shown kinds n ≡ mapped due kinds n
unfolding paper
all_due n = refl

-- the numbers are still the same exactly if each is within its field
pub record Row (k : Kind) (n : Numbers) : Type 0 where
  pub known : (paper (narrowed k n)).known ≡ true
  pub same : same_numbers (paper (narrowed k n)) n ≡ all_within (blank k) n

row_of : (k : Kind) (n : Numbers) → shown k n ≡ due k n → Row k n
row_of k n e =
    let f = blank k in
    record {
      known = ap (λ (x : Shown). x.0) e;
      same = ap (λ (x : Shown). eqb x.1 n.a && (eqb x.2 n.b && (eqb x.3 n.c && eqb x.4 n.d))) e
          ∙ rw (there-within f.a.0 n.a, there-within f.b.0 n.b, there-within f.c.0 n.c, there-within f.d.0 n.d);
    }

-- ---- a tag looked up

-- no kind has it, or a kind whose row is as it should be
pub data Looked (ks : List Kind) (n : Numbers) : Type 0 where
  none : kind_in ks n.tag ≡ refused TAG 0 → narrow_in ks n.tag n.a n.b n.c n.d ≡ Nothing → Looked ks n
  one : (k : Kind) → kind_in ks n.tag ≡ taken k → narrow_in ks n.tag n.a n.b n.c n.d ≡ narrowed k n → Row k n → Looked ks n

looked_in : (ks : List Kind) (n : Numbers) → mapped shown ks n ≡ mapped due ks n → Looked ks n
looked_in [] n e = none refl refl
looked_in (k ∷ ks) n e = go (eqb n.tag (blank k).tag) refl (looked_in ks n (cc))
  where
    go : (b : Bool) → eqb n.tag (blank k).tag ≡ b → Looked ks n → Looked (k ∷ ks) n
    go true q r = let s : shown k n ≡ due k n = cc in one k (rw q) (rw q) (row_of k n s)
    go false q (none x y) = none (rw q x) (rw q y)
    go false q (one j x y z) = one j (rw q x) (rw q y) z

pub looked : (n : Numbers) → Looked kinds n
looked n = looked_in kinds n (all_due n)

-- a tag that no kind has
pub narrow-none : (ks : List Kind) (t a b c d : ℕ) → Missing ks t → narrow_in ks t a b c d ≡ Nothing
narrow-none [] t a b c d h = refl
narrow-none (k ∷ ks) t a b c d h = rw (ne_eqb t (blank k).tag h.0) (narrow-none ks t a b c d h.1)

-- tags are u16
abbrev low_tags : (ks : List Kind) → Bool
low_tags [] = true
low_tags (k ∷ ks) = leb (blank k).tag 65535 && low_tags ks

wide_in : (ks : List Kind) (t : ℕ) → 65535 < t → low_tags ks ≡ true → kind_in ks t ≡ refused TAG 0
wide_in [] t h e = refl
wide_in (k ∷ ks) t h e =
    let p = and_true (leb (blank k).tag 65535) (low_tags ks) e in
    rw (ne_eqb t (blank k).tag (λ q. omega (arith, leb-true (blank k).tag 65535 p.0))) (wide_in ks t h p.1)

pub wide_tag : (t : ℕ) → 65535 < t → kind_in kinds t ≡ refused TAG 0
unfolding paper
wide_tag t h = wide_in kinds t h refl
