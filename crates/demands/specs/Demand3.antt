-- Demand 3: from a canonical file, adding devices and disks with new, distinct keys: accepted in one order means accepted in every order, all orders end in the same
-- bytes, and two different sets never end in the same bytes. By request 12 it speaks of adds beside a true card of the file.
-- Assumes nothing.
use Rattle.std.specs.Prelude.{◌≡◌, ℕ, length, take}
use mathlib.Core.List.{List, Permᴰ, Perm}
use Rattle.answer.specs.Outcome.{taken}
use Rattle.order.specs.Adding.{Chain, items, Roomy}
use Rattle.aerosnap.specs.Content.{Content, content_at, render, IsCanonical}
use Rattle.aerosnap.specs.Adding.{Item, grown}
use Rattle.aerosnap.specs.Edits.{Edit, add, WideEdit}
use Rattle.cards.specs.declared.Card.{Card}
use Rattle.cards.specs.declared.Edited.{Edited}
use Rattle.cards.specs.Cards.{edit_card, WritesBeside}
use Rattle.demands.specs.Beside.{TrueCard, CallBeside}

-- an add to the file and the card, which gives the file and the card. A chain is one such call after another, each on the file and the card that the last one gave.
abbrev pub AddBeside : ℕ → List ℕ × Card → Item → List ℕ × Card → Type 0
AddBeside have q x t = CallBeside have q.0 q.1 (add x) t.0 t.1

pub record Demand3 : Type 0 where
  -- a call that answers 0 is such a call, its file the first `place` bytes of the lent memory and its card the one answered; and such a call, made with any lent memory of that length, answers so
  pub made : (s : List ℕ) (k : Card) (e : Edit) (old new : List ℕ) (r : Edited) → WideEdit e → WritesBeside k (0, edit_card (length old) k s e) old r new → r.number ≡ 0
      → CallBeside (length old) s k e (take r.place new) r.card
  pub makes : (s : List ℕ) (k : Card) (e : Edit) (old new : List ℕ) (r : Edited) (b : List ℕ) (j : Card) → CallBeside (length old) s k e b j → WritesBeside k (0, edit_card (length old) k s e) old r new
      → (r.number ≡ 0) × (take r.place new ≡ b) × (r.card ≡ j)
  -- from a canonical file beside its true card: accepted in one order means accepted in every order, and all orders end in the same bytes and the same card
  pub any_order : (s : List ℕ) (k : Card) (l m : List (ℕ × Item)) (b : List ℕ) (j : Card) → IsCanonical s → TrueCard s k → Chain AddBeside (s, k) l (b, j) → Permᴰ (items l) (items m) → Roomy (length b) m
      → Chain AddBeside (s, k) m (b, j)
  -- two different sets never end in the same bytes
  pub no_two_sets : (s : List ℕ) (k : Card) (l m : List (ℕ × Item)) (b : List ℕ) (i j : Card) → IsCanonical s → TrueCard s k → Chain AddBeside (s, k) l (b, i) → Chain AddBeside (s, k) m (b, j) → Perm (items l) (items m)
  -- the final content is the old one and the items, the final file is its rendering, and the final card is its true one
  pub final : (s : List ℕ) (k : Card) (l : List (ℕ × Item)) (b : List ℕ) (j : Card) → IsCanonical s → TrueCard s k → Chain AddBeside (s, k) l (b, j)
      → (c : Content) × (content_at s ≡ taken c) × (content_at b ≡ taken (grown c (items l))) × (render (grown c (items l)) ≡ b) × IsCanonical b × TrueCard b j
