use Rattle.cards.proofs.Moves.{stays_bounds}
use Rattle.cards.specs.Cards.{stays, card_checks, moved_card}
use Rattle.cards.specs.declared.Card.{Card}
use Rattle.answer.specs.Outcome.{taken, checked}
use Rattle.answer.proofs.Checks.{Left, left_all, left_pass, left_fail}
use mathlib.Core.Bool.{Bool, true}
use mathlib.Core.Path.{◌≡◌, sym, ◌∙◌}
use lib.ListN.{drop}
use Prim.Native.Nat.{ℕ, ◌+◌, ◌≤◌}
use native.Mathlib.Omega.{arith}
use Rattle.cards.proofs.move_by.Goals as goal

abbrev From : ℕ → Card → Card → Card → Type 0
From n k a b = Left (drop n (card_checks k a b)) (taken (moved_card k a b)) (checked (card_checks k a b) (taken (moved_card k a b)))

all : (k a b : Card) → From 0 k a b
all k a b = left_all (card_checks k a b) (taken (moved_card k a b))

passed : {r t : Bool} → r ≡ t → r ≡ true → t ≡ true
passed e h = sym e ∙ h

roomy : (lo hi n a b : ℕ) → lo ≤ 16 → hi ≤ 4294967280 → stays lo hi a b n ≡ true → (a ≤ n + b) × (n + b ≤ a + 4294967296)
roomy lo hi n a b l h e = let z = stays_bounds lo hi n a b e in (omega (arith, z.0), omega (arith, z.1))

-- what is left to ask after the first numbers stay within their bounds
module _ (k a b : Card) (one : stays 16 1073741824 a.length b.length k.length ≡ true) where
  left_length : From 1 k a b
  left_length = left_pass (all k a b) one

  module _ (two : stays 0 64 a.sections b.sections k.sections ≡ true) where
    left_sections : From 2 k a b
    left_sections = left_pass left_length two

    module _ (three : stays 0 4096 a.devices b.devices k.devices ≡ true) where
      left_devices : From 3 k a b
      left_devices = left_pass left_sections three

pub returns-then-not-is_within : goal.returns-then-not-is_within
returns-then-not-is_within c = let a = c.args in left_fail (all a.card a.a a.b) (sym c.is_within.ensures ∙ c.if-not-is_within.true)

pub returns-then-not-is_within-2 : goal.returns-then-not-is_within-2
returns-then-not-is_within-2 c = let a = c.args in
    left_fail (left_length a.card a.a a.b (passed c.is_within.ensures c.if-not-is_within.false)) (sym c.is_within-2.ensures ∙ c.if-not-is_within-2.true)

pub returns-then-not-is_within-3 : goal.returns-then-not-is_within-3
returns-then-not-is_within-3 c = let a = c.args in
    left_fail (left_sections a.card a.a a.b (passed c.is_within.ensures c.if-not-is_within.false) (passed c.is_within-2.ensures c.if-not-is_within-2.false)) (sym c.is_within-3.ensures ∙ c.if-not-is_within-3.true)

pub returns-then-not-is_within-4 : goal.returns-then-not-is_within-4
returns-then-not-is_within-4 c = let a = c.args in
    left_fail (left_devices a.card a.a a.b (passed c.is_within.ensures c.if-not-is_within.false) (passed c.is_within-2.ensures c.if-not-is_within-2.false) (passed c.is_within-3.ensures c.if-not-is_within-3.false))
    (sym c.is_within-4.ensures ∙ c.if-not-is_within-4.true)

pub gone_to-requires : goal.gone_to-requires
gone_to-requires c = let a = c.args in
    roomy 16 1073741824 a.card.length a.a.length a.b.length (omega arith) (omega arith) (passed c.is_within.ensures (c.if-not-is_within.false))

pub gone_to-requires-2 : goal.gone_to-requires-2
gone_to-requires-2 c = let a = c.args in
    roomy 0 64 a.card.sections a.a.sections a.b.sections (omega arith) (omega arith) (passed c.is_within-2.ensures (c.if-not-is_within-2.false))

pub gone_to-requires-3 : goal.gone_to-requires-3
gone_to-requires-3 c = let a = c.args in
    roomy 0 4096 a.card.devices a.a.devices a.b.devices (omega arith) (omega arith) (passed c.is_within-3.ensures (c.if-not-is_within-3.false))

pub gone_to-requires-4 : goal.gone_to-requires-4
gone_to-requires-4 c = let a = c.args in
    roomy 0 268435456 a.card.payloads a.a.payloads a.b.payloads (omega arith) (omega arith) (passed c.is_within-4.ensures (c.if-not-is_within-4.false))

pub returns : goal.returns
returns c = let a = c.args in
    let three = left_devices a.card a.a a.b (passed c.is_within.ensures c.if-not-is_within.false) (passed c.is_within-2.ensures c.if-not-is_within-2.false) (passed c.is_within-3.ensures c.if-not-is_within-3.false) in
    let four = left_pass three (passed c.is_within-4.ensures c.if-not-is_within-4.false) in
    rw (c.gone_to-4.ensures, c.gone_to-3.ensures, c.gone_to-2.ensures, c.gone_to.ensures) four.same
