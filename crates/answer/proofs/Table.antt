-- The list of the numbers: 0 is none of them, each stands there once, and what is so of all of a list is so of each that is among it.
-- Assumes nothing.
use mathlib.Core.Path.{◌≡◌, refl}
use mathlib.Core.Logic.{◌≢◌}
use mathlib.Core.List.{List, [], ◌∷◌}
use mathlib.Core.Bool.{Bool, true, false, not, ◌&&◌, ◌||◌}
use Prim.Native.Nat.{ℕ, ◌≤◌}
use native.Mathlib.Omega.{arith}
use lib.Dec.{leb, eqb}
use borrow.Author.Tests.{leb-true, eqb-true}
use Rattle.answer.specs.Numbers.{ROOM, faults, numbers, is_among, is_number, is_fault}

-- no number stands twice in a list
abbrev apart : List ℕ → Bool
apart [] = true
apart (n ∷ l) = not (is_among l n) && apart l

pub zero-none : is_number 0 ≡ false
zero-none = refl

pub numbers_apart : apart numbers ≡ true
numbers_apart = refl

-- ---- what all of a list has, each of it has

abbrev pub all : (ℕ → Bool) → List ℕ → Bool
all test [] = true
all test (n ∷ l) = test n && all test l

pub among_all : (test : ℕ → Bool) (l : List ℕ) (n : ℕ) → all test l ≡ true → is_among l n ≡ true → test n ≡ true
among_all test [] n h k = let z : ◌≡◌ {A = ℕ} 0 1 = cc in absurd (omega arith)
among_all test (m ∷ l) n h k = go (test m) refl (eqb n m) refl h k (among_all test l n)
  where
    go : (a : Bool) → test m ≡ a → (b : Bool) → eqb n m ≡ b → (a && all test l) ≡ true → (b || is_among l n) ≡ true → (all test l ≡ true → is_among l n ≡ true → test n ≡ true) → test n ≡ true
    go false p b q h k r = let z : ◌≡◌ {A = ℕ} 0 1 = cc in absurd (omega arith)
    go true p true q h k r = rw (eqb-true n m q) p
    go true p false q h k r = r h k

-- ---- numbers, and those of faults

pub number_some : (n : ℕ) → is_number n ≡ true → 1 ≤ n
number_some n h = leb-true 1 n (among_all (leb 1) numbers n refl h)

pub fault_number : (n : ℕ) → is_fault n ≡ true → is_number n ≡ true
fault_number n h = among_all is_number faults n refl h

pub fault_some : (n : ℕ) → is_fault n ≡ true → 1 ≤ n
fault_some n h = number_some n (fault_number n h)

pub fault_no_room : (n : ℕ) → is_fault n ≡ true → n ≢ ROOM
fault_no_room n h e = go (among_all (λ m. not (eqb m ROOM)) faults n refl h)
  where
    go : not (eqb n ROOM) ≡ true → ⊥
    go k = let z : ◌≡◌ {A = ℕ} 0 1 = cc in omega arith
