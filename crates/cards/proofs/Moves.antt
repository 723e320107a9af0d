-- How a number of the card moves: it depends on the difference alone, and no sum has to be formed to see whether it stays within its bounds.
-- Assumes nothing.
use mathlib.Core.Path.{◌≡◌, refl, sym, ◌∙◌, ap}
use mathlib.Core.Bool.{Bool, true, false, ◌&&◌}
use Prim.Native.Nat.{ℕ, ◌+◌, ◌-◌, ◌≤◌, ◌<◌}
use native.Mathlib.Omega.{arith}
use lib.Dec.{leb}
use borrow.Author.Tests.{le-leb, lt-leb, leb-true, leb-false}
use Rattle.answer.specs.Outcome.{Outcome, taken, refused, Checks, checked, Pass, after}
use Rattle.answer.proofs.Checks.{checked-asked, asked-pass}
use Rattle.answer.specs.Calls.{asked}
use Rattle.aerosnap.specs.File.{file_most, sections_most, devices_most}
use Rattle.cards.specs.declared.Card.{Card}
use Rattle.cards.specs.Cards.{stays, goes, card_checks, moved_card}

-- two comparisons with the same difference
pub even : (a b c d : ℕ) → a + d ≡ c + b → leb a b ≡ leb c d
even a b c d h = go (leb a b) refl (leb c d) refl
  where
    go : (t : Bool) → leb a b ≡ t → (u : Bool) → leb c d ≡ u → t ≡ u
    go true p true q = refl
    go true p false q = absurd (omega (arith, leb-true a b p, leb-false c d q))
    go false p true q = absurd (omega (arith, leb-false a b p, leb-true c d q))
    go false p false q = refl

-- ---- a number between two bounds, above both, below both

pub between : (lo hi n : ℕ) → lo ≤ n → n ≤ hi → true ≡ (leb lo n && leb n hi)
between lo hi n p q = rw (le-leb lo n p, le-leb n hi q)

pub above : (lo hi n : ℕ) → hi < n → false ≡ (leb lo n && leb n hi)
above lo hi n p = go (leb lo n) (lt-leb n hi p)
  where
    go : (t : Bool) {u : Bool} → u ≡ false → false ≡ (t && u)
    go true e = sym e
    go false e = refl

pub below : (lo hi n : ℕ) → n < lo → false ≡ (leb lo n && leb n hi)
below lo hi n p = rw (lt-leb lo n p)

-- where it is known that one of them is kept, the other is asked by what is missing
pub rises : (lo hi d n : ℕ) → n < lo → n + d ≤ hi → leb (lo - n) d ≡ (leb lo (n + d) && leb (n + d) hi)
rises lo hi d n p q = even (lo - n) d lo (n + d) (omega arith) ∙ go (leb lo (n + d)) (le-leb (n + d) hi q)
  where
    go : (t : Bool) {u : Bool} → u ≡ true → t ≡ (t && u)
    go true e = sym e
    go false e = refl

pub falls : (lo hi d n : ℕ) → hi < n → lo + d ≤ n → leb (n - hi) d ≡ (leb (lo + d) n && leb n (hi + d))
falls lo hi d n p q = rw (le-leb (lo + d) n q) (even (n - hi) d n (hi + d) (omega arith))

-- ---- the difference alone counts

pub stays_even : (lo hi n a b c d : ℕ) → a + d ≡ c + b → stays lo hi a b n ≡ stays lo hi c d n
stays_even lo hi n a b c d h =
    let p : leb (lo + a) (n + b) ≡ leb (lo + c) (n + d) = even (lo + a) (n + b) (lo + c) (n + d) (omega arith) in
    let q : leb (n + b) (hi + a) ≡ leb (n + d) (hi + c) = even (n + b) (hi + a) (n + d) (hi + c) (omega arith) in
    rw (p, q)

pub goes_even : (n a b c d : ℕ) → a + d ≡ c + b → a ≤ n + b → goes a b n ≡ goes c d n
goes_even n a b c d h p = omega arith

-- up and down from 0
pub stays_up : (lo hi n a b : ℕ) → a ≤ b → (leb lo (n + (b - a)) && leb (n + (b - a)) hi) ≡ stays lo hi a b n
stays_up lo hi n a b h =
    let p : leb lo (n + (b - a)) ≡ leb (lo + a) (n + b) = even lo (n + (b - a)) (lo + a) (n + b) (omega arith) in
    let q : leb (n + (b - a)) hi ≡ leb (n + b) (hi + a) = even (n + (b - a)) hi (n + b) (hi + a) (omega arith) in
    rw (p, q)

pub stays_down : (lo hi n a b : ℕ) → b < a → (leb (lo + (a - b)) n && leb n (hi + (a - b))) ≡ stays lo hi a b n
stays_down lo hi n a b h =
    let p : leb (lo + (a - b)) n ≡ leb (lo + a) (n + b) = even (lo + (a - b)) n (lo + a) (n + b) (omega arith) in
    let q : leb n (hi + (a - b)) ≡ leb (n + b) (hi + a) = even n (hi + (a - b)) (n + b) (hi + a) (omega arith) in
    rw (p, q)

-- a number that stays has no less than it loses
pub stays_bounds : (lo hi n a b : ℕ) → stays lo hi a b n ≡ true → (lo + a ≤ n + b) × (n + b ≤ hi + a)
stays_bounds lo hi n a b h = go (leb (lo + a) (n + b)) refl (leb (n + b) (hi + a)) refl h
  where
    go : (t : Bool) → leb (lo + a) (n + b) ≡ t → (u : Bool) → leb (n + b) (hi + a) ≡ u → (t && u) ≡ true → (lo + a ≤ n + b) × (n + b ≤ hi + a)
    go true p true q e = (leb-true (lo + a) (n + b) p, leb-true (n + b) (hi + a) q)
    go true p false q e = let z : ◌≡◌ {A = ℕ} 0 1 = cc in absurd (omega arith)
    go false p u q e = let z : ◌≡◌ {A = ℕ} 0 1 = cc in absurd (omega arith)

-- ---- the four numbers

-- from a to b is as far as from c to d
pub record AsFar (a b c d : Card) : Type 0 where
  pub length : a.length + d.length ≡ c.length + b.length
  pub sections : a.sections + d.sections ≡ c.sections + b.sections
  pub devices : a.devices + d.devices ≡ c.devices + b.devices
  pub payloads : a.payloads + d.payloads ≡ c.payloads + b.payloads

checks_far : (k a b c d : Card) → AsFar a b c d → card_checks k a b ≡ card_checks k c d
checks_far k a b c d h =
    rw (
      stays_even 16 file_most k.length a.length b.length c.length d.length h.length,
      stays_even 0 sections_most k.sections a.sections b.sections c.sections d.sections h.sections,
      stays_even 0 4096 k.devices a.devices b.devices c.devices d.devices h.devices,
      stays_even 0 devices_most k.payloads a.payloads b.payloads c.payloads d.payloads h.payloads,
    )

moved_far : (k a b c d : Card) → AsFar a b c d → Pass (card_checks k a b) → moved_card k a b ≡ moved_card k c d
moved_far k a b c d h p =
    let x = (stays_bounds 16 file_most k.length a.length b.length p.0).0 in
    let y = (stays_bounds 0 sections_most k.sections a.sections b.sections p.1.0).0 in
    let z = (stays_bounds 0 4096 k.devices a.devices b.devices p.1.1.0).0 in
    let w = (stays_bounds 0 devices_most k.payloads a.payloads b.payloads p.1.1.1.0).0 in
    rw (
      goes_even k.length a.length b.length c.length d.length h.length (omega (arith, x)),
      goes_even k.sections a.sections b.sections c.sections d.sections h.sections (omega (arith, y)),
      goes_even k.devices a.devices b.devices c.devices d.devices h.devices (omega (arith, z)),
      goes_even k.payloads a.payloads b.payloads c.payloads d.payloads h.payloads (omega (arith, w)),
    )

-- the card moves as far, and to the same place
pub moves_far : (k a b c d : Card) → AsFar a b c d → checked (card_checks k a b) (taken (moved_card k a b)) ≡ checked (card_checks k c d) (taken (moved_card k c d))
moves_far k a b c d h =
    checked-asked (card_checks k a b) (taken (moved_card k a b))
    ∙ go (asked (card_checks k a b)) refl
    ∙ ap (λ (r : Checks). after (asked r) (λ _. taken (moved_card k c d))) (checks_far k a b c d h)
    ∙ sym (checked-asked (card_checks k c d) (taken (moved_card k c d)))
  where
    go : (o : Outcome (Unit {0})) → asked (card_checks k a b) ≡ o → after o (λ _. taken (moved_card k a b)) ≡ after o (λ _. taken (moved_card k c d))
    go (taken t) e = ap taken (moved_far k a b c d h (asked-pass (card_checks k a b) (sym e)))
    go (refused n p) e = refl
