-- Each promise fixes its answer and every byte of lent memory: any two that it allows are equal.
-- Assumes nothing.
use mathlib.Core.Path.{◌≡◌, refl, sym, ◌∙◌, ap}
use mathlib.Core.List.{List}
use Prim.Native.Nat.{ℕ}
use Rattle.answer.specs.Outcome.{Outcome, taken, checked}
use Rattle.cards.specs.declared.Card.{Card}
use Rattle.cards.specs.declared.Edited.{Edited}
use Rattle.cards.specs.declared.Written.{Written}
use Rattle.cards.specs.declared.Refused.{Refused}
use Rattle.std.proofs.Common.{Result}
use Rattle.answer.specs.declared.Fault.{Fault}
use Rattle.answer.specs.Calls.{outcome_of}
use Rattle.answer.proofs.Once.{outcome_once}
use Rattle.cards.specs.Cards.{card_checks, moved_card, edited_answer, WritesBeside}

pub move_by_once : (card a b : Card) (r p : Result Card Fault) → outcome_of r ≡ checked (card_checks card a b) (taken (moved_card card a b)) → outcome_of p ≡ checked (card_checks card a b) (taken (moved_card card a b)) → r ≡ p
move_by_once card a b r p x y = outcome_once r p (x ∙ sym y)

pub edited_answer_once : (card : Card) (w : Result Written Refused) {r p : Edited} → r ≡ edited_answer card w → p ≡ edited_answer card w → r ≡ p
edited_answer_once card w x y = x ∙ sym y

pub refused_from_once : (f : Fault) {r s : Refused} → r ≡ record { index = 0; fault = f } → s ≡ record { index = 0; fault = f } → r ≡ s
refused_from_once f x y = x ∙ sym y

-- an edit beside a card
pub beside_once : {k : Card} {o : ℕ × Outcome (List ℕ × Card)} {old new now : List ℕ} {r p : Edited} → WritesBeside k o old r new → WritesBeside k o old p now → (r ≡ p) × (new ≡ now)
beside_once a b = (a.answers ∙ sym b.answers, a.leaves ∙ sym b.leaves)
