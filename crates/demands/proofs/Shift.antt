-- Request 10, from the laws of maps (crates/aerosnap/proofs, Mapped, Lookups, Pairs) and of shifts (crates/cards/proofs/Shifts.antt).
-- Assumes nothing.
use mathlib.Core.Path.{◌≡◌, refl, sym, ◌∙◌, ap}
use mathlib.Core.Bool.{Bool, true, false, cond}
use mathlib.Core.List.{List, [], ◌∷◌}
use Prim.Native.Nat.{ℕ}
use lib.ListN.{length, take}
use lib.Dec.{eqb}
use borrow.Author.Tests.{eqb-true}
use Rattle.aerosnap.specs.Content.{IsCanonical}
use Rattle.aerosnap.specs.Edits.{WideEdit}
use Rattle.aerosnap.proofs.Mapped.{map_taken}
use Rattle.aerosnap.proofs.Lookups.{same_self, same_is, find-after, apart_after, state_apart, same_file}
use Rattle.cards.specs.declared.Card.{Card}
use Rattle.cards.specs.Cards.{edit_card, WritesBeside}
use Rattle.cards.specs.Shifts.{CallMade, file_then, CallsMade, map_then}
use Rattle.cards.proofs.Shifts.{shift-map}
use Rattle.demands.specs.Shift.{AllCanonical, Dictionary, Shifts}
use Rattle.demands.proofs.Demand2.{demand2}
use Rattle.demands.proofs.Demand3.{demand3}

dictionary : Dictionary
dictionary = record {
  gives = λ a m e u h. sym (map_taken a m e u h).1;
  holds = find-after;
  same = same_is;
  self = same_self;
  apart = apart_after;
  stays = λ a m e n p h. ap (map_then m) h;
}

-- a call leaves a canonical file: the one that it wrote, or the one that was there
canonical-then : (s : List ℕ) (k : Card) (q : CallMade) → IsCanonical s → WideEdit q.edit → WritesBeside k (0, edit_card (length q.lent) k s q.edit) q.lent q.answer q.left → IsCanonical (file_then s q)
canonical-then s k q o w x = go (eqb q.answer.number 0) refl
  where
    go : (b : Bool) → eqb q.answer.number 0 ≡ b → IsCanonical (cond b (take q.answer.place q.left) s)
    go true e =
        let c = demand3.made s k q.edit q.lent q.left q.answer w x (eqb-true q.answer.number 0 e) in
        (demand2.editing.gives (length q.lent) s k q.edit (take q.answer.place q.left) q.answer.card c).3
    go false e = o

all_canonical : (l : List CallMade) (s : List ℕ) (k : Card) → IsCanonical s → CallsMade s k l → AllCanonical s l
all_canonical [] s k o c = tt
all_canonical (q ∷ l) s k o (w, x, c) = let i = canonical-then s k q o w x in (i, all_canonical l (file_then s q) q.answer.card i c)

pub shifts : Shifts
shifts = record {
  dictionary = dictionary;
  shift = λ s k b o t.
      let f = shift-map s k b o t in
      record {
        pairs = f.pairs;
        all_else = f.all_else;
        apart = state_apart f.all_else f.pairs f.state;
        file = f.file;
        card = f.card;
        only = λ u n h. sym (same_file f.all_else f.pairs u f.state n h) ∙ f.file;
        answers = f.answers;
        canonical = λ l c. all_canonical l s k o c;
      };
}
