-- What the table of alternatives gives: that of the first byte, or none. Assumes nothing.
use Prim.Native.Nat.{ℕ, zero, suc, ◌≤◌, ◌<◌}
use mathlib.Core.Path.{◌≡◌, refl}
use mathlib.Core.List.{List, [], ◌∷◌}
use mathlib.Core.Bool.{Bool, true, false, cond, ◌&&◌}
use lib.Dec.{leb}
use borrow.Author.Tests.{le-leb, lt-leb, leb-true}
use Rattle.utf8.specs.Grammar.{InRange, Alternative, UTF8-char}
use Rattle.utf8.specs.Scan.{ToCome, Next, Stop, among, lookup, lead_of}

-- ---- the test of two bounds
pub in_among : {lo hi b : ℕ} → InRange lo hi b → among lo hi b ≡ true
in_among {lo} {hi} {b} h = simp (le-leb lo b h.low, le-leb b hi h.high)

pub out_among : (lo hi b : ℕ) → (lo ≤ b → hi < b) → among lo hi b ≡ false
out_among lo hi b h = go (leb lo b) refl
  where
    go : (t : Bool) → leb lo b ≡ t → (t && leb b hi) ≡ false
    go false e = refl
    go true e = lt-leb b hi (h (leb-true lo b e))

-- what holds of x if b lies between the bounds, and of y anyway, holds of the one that the test picks
pub picked : (lo hi b : ℕ) (P : ToCome → Type 0) {x y : ToCome} → (InRange lo hi b → P x) → P y → P (cond (among lo hi b) x y)
picked lo hi b P {x} {y} f d = go (leb lo b) refl (leb b hi) refl
  where
    go : (t : Bool) → leb lo b ≡ t → (u : Bool) → leb b hi ≡ u → P (cond (t && u) x y)
    go true p true q = f (record { low = leb-true lo b p; high = leb-true b hi q })
    go true p false q = d
    go false p u q = d

-- ---- the alternative that a byte begins
-- b begins the k-th, and is above those before it
abbrev pub Hit : ℕ → List Alternative → ℕ → Type 0
Hit k [] b = ⊥
Hit zero (a ∷ l) b = InRange a.first.from a.first.to b
Hit (suc k) (a ∷ l) b = (a.first.to < b) × (Hit k l b)

-- b begins none
abbrev pub Miss : List Alternative → ℕ → Type 0
Miss [] b = Unit {0}
Miss (a ∷ l) b = (a.first.from ≤ b → a.first.to < b) × (Miss l b)

-- what the k-th lets follow
abbrev pub nth : ℕ → List Alternative → ToCome
nth k [] = Stop
nth zero (a ∷ l) = Next a.rest
nth (suc k) (a ∷ l) = nth k l

hits : (k : ℕ) (l : List Alternative) (b : ℕ) → Hit k l b → lookup l b ≡ nth k l
hits k [] b h = absurd h
hits zero (a ∷ l) b h = rw (in_among h)
hits (suc k) (a ∷ l) b h = rw (out_among a.first.from a.first.to b (λ _. h.0)) (hits k l b h.1)

misses : (l : List Alternative) (b : ℕ) → Miss l b → lookup l b ≡ Stop
misses [] b h = refl
misses (a ∷ l) b h = rw (out_among a.first.from a.first.to b h.0) (misses l b h.1)

pub hit : (k b : ℕ) → Hit k UTF8-char b → lead_of b ≡ nth k UTF8-char
unfolding lead_of
hit k b h = hits k UTF8-char b h

pub miss : (b : ℕ) → Miss UTF8-char b → lead_of b ≡ Stop
unfolding lead_of
miss b h = misses UTF8-char b h
