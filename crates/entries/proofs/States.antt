-- CPU states: which numbers are asked of one, and where their faults lie.
-- Assumes nothing.
use mathlib.Core.Path.{◌≡◌, refl, sym, ◌∙◌, ap}
use mathlib.Core.Logic.{◌≢◌}
use mathlib.Core.List.{List, [], ◌∷◌, ◌++◌}
use mathlib.Core.Bool.{Bool, true, false, ◌||◌}
use Prim.Native.Nat.{ℕ, ◌+◌, ◌-◌, ◌≤◌, ◌<◌, zero-le}
use native.Mathlib.Omega.{arith}
use lib.ListN.{length, take, drop, length-append}
use lib.Seq.{length-take-le, drop_at}
use lib.Dec.{leb, eqb}
use borrow.Author.Tests.{eq-eqb, ne_eqb, eqb-true, eqb-false, leb-true, le-leb, lt-leb}
use Rattle.answer.specs.Numbers.{SHAPE}
use Rattle.answer.specs.Outcome.{Outcome, taken, refused, after, moved}
use Rattle.answer.proofs.Checks.{and_true}
use Rattle.answer.proofs.Outcomes.{shift_taken}
use Rattle.answer.proofs.Within.{Within, checked-within, moved-within}
use Rattle.format.specs.Format.{any, sized, values, read, Is}
use Rattle.format.specs.Places.{read_at}
use Rattle.format.proofs.Exits.{sized_inside}
use Rattle.format.proofs.Meaning.{sound}
use Rattle.format.proofs.Listed.{Listed, values-append, values-none}
use Rattle.format.proofs.Within.{values-within}
use Rattle.entries.specs.States.{cpu_length, extends, registers, switches, extension, cpu_state, cpu_sized, cpu_length_checks, cpu_whole, held_checks, mmu_length}

-- ---- lengths, by the version

abbrev length_by : Bool → ℕ → Bool
length_by a n = elim a as (λ _. Bool) [ true ↦ eqb n 412 | false ↦ eqb n 1183 || leb 1191 n ]

pub length_two : (v n : ℕ) → v ≢ 1 → (eqb n 1183 || leb 1191 n) ≡ cpu_length v n
length_two v n h = sym (ap (λ (a : Bool). length_by a n) (ne_eqb v 1 h))

-- a right length of version 2 reaches the last of the registers
pub two_wide : (n : ℕ) → (eqb n 1183 || leb 1191 n) ≡ true → 1183 ≤ n
two_wide n h = go (eqb n 1183) refl (leb 1191 n) refl h
  where
    go : (a : Bool) → eqb n 1183 ≡ a → (b : Bool) → leb 1191 n ≡ b → (a || b) ≡ true → 1183 ≤ n
    go true p b q r = omega (arith, eqb-true n 1183 p)
    go false p true q r = omega (arith, leb-true 1191 n q)
    go false p false q r = let z : ◌≡◌ {A = ℕ} 0 1 = cc in absurd (omega arith)

-- ---- the listed numbers

-- the extension's length is listed in states of 1191 bytes alone
abbrev extension_by : Bool → List (ℕ × ℕ × ℕ × ℕ)
extension_by a = elim a as (λ _. List (ℕ × ℕ × ℕ × ℕ)) [ true ↦ (1183, 4, 4, 4) ∷ switches | false ↦ switches ]

pub extension_longer : (e : List ℕ) → length e ≢ 1191 → {r : Outcome (Unit {0})} → r ≡ values switches e → r ≡ values (extension (length e)) e
extension_longer e h k = k ∙ sym (ap (λ (a : Bool). values (extension_by a) e) (ne_eqb (length e) 1191 h))

pub extension_word : (e : List ℕ) → length e ≡ 1191 → Listed ((1183, 4, 4, 4) ∷ switches) (extension (length e)) e
extension_word e h = record { same = sym (ap (λ (a : Bool). values (extension_by a) e) (eq-eqb (length e) 1191 h)) }

module _ (v : ℕ) (e : List ℕ) where
  abbrev rows : Bool → Bool → List (ℕ × ℕ × ℕ × ℕ)
  rows a b = elim a as (λ _. List (ℕ × ℕ × ℕ × ℕ)) [ true ↦ [] | false ↦ elim b as (λ _. List (ℕ × ℕ × ℕ × ℕ)) [ true ↦ registers ++ extension (length e) | false ↦ registers ] ]

  pub state_one : v ≡ 1 → taken tt ≡ cpu_state v e
  state_one h = values-none e ∙ sym (ap (λ (a : Bool). values (rows a (leb 1191 (length e))) e) (eq-eqb v 1 h))

  module _ (h : v ≢ 1) where
    two : cpu_state v e ≡ values (rows false (leb 1191 (length e))) e
    two = ap (λ (a : Bool). values (rows a (leb 1191 (length e))) e) (ne_eqb v 1 h)

    -- the extension is asked behind the registers
    then_extended : Outcome (Unit {0}) → Outcome (Unit {0})
    then_extended r = after r (λ _. values (extension (length e)) e)

    pub state_stop : {a b : ℕ} → refused a b ≡ values registers e → refused a b ≡ cpu_state v e
    unfolding then_extended
    state_stop {a} {b} k = sym (two ∙ go (leb 1191 (length e)))
      where
        go : (c : Bool) → values (rows false c) e ≡ refused a b
        go true = values-append registers (extension (length e)) e ∙ ap then_extended (sym k)
        go false = sym k

    pub state_long : 1191 ≤ length e → taken tt ≡ values registers e → {r : Outcome (Unit {0})} → r ≡ values (extension (length e)) e → r ≡ cpu_state v e
    unfolding then_extended
    state_long k m j =
        j ∙ sym (two ∙ ap (λ (a : Bool). values (rows false a) e) (le-leb 1191 (length e) k) ∙ values-append registers (extension (length e)) e ∙ ap then_extended (sym m))

    pub state_short : length e < 1191 → taken tt ≡ values registers e → taken tt ≡ cpu_state v e
    state_short k m = m ∙ sym (two ∙ ap (λ (a : Bool). values (rows false a) e) (lt-leb 1191 (length e) k))

  -- every listed number stands at 1189 or before
  small : Within (cpu_state v e) 1189
  small = go (eqb v 1) (leb 1191 (length e)) (eqb (length e) 1191)
    where
      long : (c : Bool) → Within (values (registers ++ extension_by c) e) 1189
      long true = values-within (registers ++ extension_by true) e 1189 (omega arith, (omega arith, (omega arith, (omega arith, (omega arith, (omega arith, (omega arith, tt)))))))
      long false = values-within (registers ++ extension_by false) e 1189 (omega arith, (omega arith, (omega arith, (omega arith, (omega arith, (omega arith, tt))))))

      go : (a b c : Bool) → Within (values (elim a as (λ _. List (ℕ × ℕ × ℕ × ℕ)) [ true ↦ [] | false ↦ elim b as (λ _. List (ℕ × ℕ × ℕ × ℕ)) [ true ↦ registers ++ extension_by c | false ↦ registers ] ]) e) 1189
      go true b c = values-within [] e 1189 tt
      go false true c = long c
      go false false c = values-within registers e 1189 (omega arith, (omega arith, (omega arith, tt)))

  pub state_small : {n p : ℕ} → refused n p ≡ cpu_state v e → p ≤ 1189
  state_small h = rw (← h) at small

  pub state_within : cpu_length v (length e) ≡ true → Within (cpu_state v e) (length e)
  state_within h = go (eqb v 1) refl (leb 1191 (length e)) refl
    where
      long : 1191 ≤ length e → (c : Bool) → Within (values (registers ++ extension_by c) e) (length e)
      long l true = values-within (registers ++ extension_by true) e (length e) (omega arith, (omega arith, (omega arith, (omega arith, (omega arith, (omega arith, (omega arith, tt)))))))
      long l false = values-within (registers ++ extension_by false) e (length e) (omega arith, (omega arith, (omega arith, (omega arith, (omega arith, (omega arith, tt))))))

      go : (a : Bool) → eqb v 1 ≡ a → (b : Bool) → leb 1191 (length e) ≡ b → Within (values (rows a b) e) (length e)
      go true p b q = values-within [] e (length e) tt
      go false p true q = long (leb-true 1191 (length e) q) (eqb (length e) 1191)
      go false p false q =
          let l : 1183 ≤ length e = two_wide (length e) (length_two v (length e) (eqb-false v 1 p) ∙ h) in
          values-within registers e (length e) (omega arith, (omega arith, (omega arith, tt)))

  pub whole-within : Within (cpu_whole v e) (length e)
  whole-within = checked-within ((cpu_sized v e, SHAPE, 0) ∷ []) (cpu_state v e) (length e) (zero-le, λ h. state_within (and_true (cpu_length v (length e)) (extends e) h).0)

pub mmu_small : (v : ℕ) → mmu_length v ≤ 264
mmu_small v = go (eqb v 1)
  where
    go : (a : Bool) → (elim a as (λ _. ℕ) [ true ↦ 68 | false ↦ 264 ]) ≤ 264
    go true = omega arith
    go false = omega arith

-- ---- a state behind its length

-- its faults lie within
pub held-within : (v : ℕ) (e : List ℕ) → Is (sized 4 (cpu_length_checks v) any) e → Within (held_checks v e) (length e)
held-within v e (x, y, q, i, n, k, m) =
    let d : drop 4 e ≡ y = ap (drop 4) q ∙ drop_at x y 4 i in
    let l : 4 + length y ≤ length e = omega (arith, ap length q, length-append x y) in
    rw d (checked-within ((extends y, SHAPE, 0) ∷ []) (moved 4 (cpu_state v y)) (length e) (zero-le, λ _. moved-within 4 (cpu_state v y) (length e) (length y) (state_within v y k.0) l))

-- a fault in the state of an entry lies before the end
pub held_place : (v : ℕ) (s : List ℕ) (at : ℕ) {e n p : ℕ} → taken e ≡ read_at (sized 4 (cpu_length_checks v) any) s at
    → refused n p ≡ held_checks v (take (e - at) (drop at s)) → at + p ≤ length s
held_place v s at {e} h k =
    let j = shift_taken at (read (sized 4 (cpu_length_checks v) any) (drop at s)) (sym h) in
    let u = sound (sized 4 (cpu_length_checks v) any) (drop at s) j.1 in
    let i = sized_inside s at 4 (cpu_length_checks v) any h (omega arith) in
    let m : e - at ≡ j.0 = omega (arith, j.2) in
    let l : length (take (e - at) (drop at s)) ≡ e - at = rw m (length-take-le j.0 (drop at s) u.0) in
    let w : Within (held_checks v (take (e - at) (drop at s))) (length (take (e - at) (drop at s))) = rw m (held-within v (take j.0 (drop at s)) u.1) in
    omega (arith, rw (← k) at w)
