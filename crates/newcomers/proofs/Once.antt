-- Each promise allows one answer.
-- Assumes nothing.
use mathlib.Core.Path.{◌≡◌, sym, ◌∙◌}
use mathlib.Core.List.{List}
use Prim.Native.Nat.{ℕ, ◌+◌, ◌*◌}
use lib.ListN.{length, take}
use Rattle.aerosnap.specs.declared.NewDevice.{NewDevice}
use Rattle.cards.specs.declared.Card.{Card}
use Rattle.cards.specs.declared.Edited.{Edited}
use Rattle.cards.specs.Cards.{WritesBeside}
use Rattle.cards.specs.Whole.{many_card}
use Rattle.cards.proofs.Once.{beside_once}
use Rattle.newcomers.specs.Records.{looked_at, stored_in}

pub looked_at_once : (count : ℕ) {r s : ℕ} → r ≡ looked_at count → s ≡ looked_at count → r ≡ s
looked_at_once count a b = a ∙ sym b

pub put_once : (i : ℕ) (d : NewDevice) (old : List ℕ) {r s : ℕ} {new now : List ℕ} → (r ≡ looked_at (i + 1)) × (new ≡ stored_in i d old) → (s ≡ looked_at (i + 1)) × (now ≡ stored_in i d old) → (r ≡ s) × (new ≡ now)
put_once i d old a b = (a.0 ∙ sym b.0, a.1 ∙ sym b.1)

pub add_records_once : (card : Card) (records store file old : List ℕ) (n : ℕ) {r p : Edited} {new now : List ℕ} → WritesBeside card (many_card (length old) card file (take (n * 24) records) store) old r new
    → WritesBeside card (many_card (length old) card file (take (n * 24) records) store) old p now → (r ≡ p) × (new ≡ now)
add_records_once card records store file old n a b = beside_once a b
