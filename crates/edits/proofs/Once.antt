-- Each promise fixes its answer and every byte of lent memory: any two that it allows are equal.
-- Assumes nothing.
use mathlib.Core.Path.{◌≡◌, sym, ◌∙◌}
use mathlib.Core.List.{List}
use Prim.Native.Nat.{ℕ}
use lib.ListN.{length}
use Rattle.cards.specs.declared.Card.{Card}
use Rattle.cards.specs.declared.Edited.{Edited}
use Rattle.cards.specs.Cards.{open_file, open_answer, edit_card, WritesBeside}
use Rattle.cards.specs.Whole.{many_card}
use Rattle.cards.proofs.Once.{beside_once}
use Rattle.edits.specs.declared.Edit.{Edit}
use Rattle.edits.specs.Edits.{edit_of}

pub open_once : (file : List ℕ) {r p : Edited} → r ≡ open_answer (open_file file) → p ≡ open_answer (open_file file) → r ≡ p
open_once file a b = a ∙ sym b

pub edited_once : (e : Edit) (k : Card) (x y file old : List ℕ) {new now : List ℕ} {r p : Edited}
    → WritesBeside k (0, edit_card (length old) k file (edit_of e x y)) old r new → WritesBeside k (0, edit_card (length old) k file (edit_of e x y)) old p now → (r ≡ p) × (new ≡ now)
edited_once e k x y file old a b = beside_once a b

pub added_once : (k : Card) (table store file old : List ℕ) {new now : List ℕ} {r p : Edited}
    → WritesBeside k (many_card (length old) k file table store) old r new → WritesBeside k (many_card (length old) k file table store) old p now → (r ≡ p) × (new ≡ now)
added_once k table store file old a b = beside_once a b
