-- A call beside a card, which every edit is from request 12 on: it takes a card and hands one back. Its promise is `WritesBeside` (crate cards): the answer r with number, index, place and card, and
-- every byte of the lent memory.
-- Assumes nothing.
use Rattle.std.specs.Prelude.{◌≡◌, List, ℕ}
use Rattle.answer.specs.Outcome.{taken}
use Rattle.aerosnap.specs.Edits.{Edit, WideEdit}
use Rattle.cards.specs.declared.Card.{Card}
use Rattle.cards.specs.Cards.{open_file, edit_card}

-- the true card of a file: that of its canonical form, as opening makes it
abbrev pub TrueCard : List ℕ → Card → Type 0
TrueCard s k = open_file s ≡ taken k

-- an edit beside the card k that is taken: it writes b and hands back the card j
pub record CallBeside (have : ℕ) (s : List ℕ) (k : Card) (e : Edit) (b : List ℕ) (j : Card) : Type 0 where
  pub wide : WideEdit e
  pub accepts : edit_card have k s e ≡ taken (b, j)
