-- Demand 3, from the theorems on chains of calls without a card: beside a true card a chain goes as one without.
-- Assumes nothing.
use mathlib.Core.Path.{◌≡◌, sym, ◌∙◌, ap, subst}
use mathlib.Core.List.{List, [], ◌∷◌}
use Prim.Native.Nat.{ℕ}
use lib.ListN.{length, take, drop}
use lib.Seq.{take-append_seam}
use Rattle.answer.specs.Outcome.{Outcome, taken}
use Rattle.answer.specs.Calls.{memory}
use Rattle.answer.proofs.Outcomes.{taken_is}
use Rattle.order.specs.Adding.{Chain}
use Rattle.aerosnap.specs.Adding.{Item}
use Rattle.aerosnap.specs.Edits.{Edit, add, WideEdit, apply, Call}
use Rattle.aerosnap.proofs.AnyOrder.{any_order, no_two_sets, final}
use Rattle.cards.specs.declared.Card.{Card}
use Rattle.cards.specs.declared.Edited.{Edited}
use Rattle.cards.specs.Cards.{card_of, open_file, edit_card, bytes_beside, answer_beside, WritesBeside}
use Rattle.cards.proofs.Carded.{card_open, card_again}
use Rattle.demands.specs.Beside.{TrueCard, CallBeside}
use Rattle.demands.specs.Demand3.{AddBeside, Demand3}
use Rattle.demands.proofs.Beside.{edit_true, edit_keeps, edit_fills, bare_call}

made : (s : List ℕ) (k : Card) (e : Edit) (old new : List ℕ) (r : Edited) → WideEdit e → WritesBeside k (0, edit_card (length old) k s e) old r new → r.number ≡ 0 → CallBeside (length old) s k e (take r.place new) r.card
made s k e old new r w x z =
    let (b, h, _, _, p, m) = (edit_fills s e).writes k old new r x z in
    let i : take r.place new ≡ b = ap (λ (n : ℕ). take n new) p ∙ ap (take (length b)) m ∙ take-append_seam b (drop (length b) old) in
    record { wide = w; accepts = h ∙ ap (λ (b : List ℕ). taken (b, r.card)) (sym i) }

makes : (s : List ℕ) (k : Card) (e : Edit) (old new : List ℕ) (r : Edited) (b : List ℕ) (j : Card) → CallBeside (length old) s k e b j → WritesBeside k (0, edit_card (length old) k s e) old r new
    → (r.number ≡ 0) × (take r.place new ≡ b) × (r.card ≡ j)
makes s k e old new r b j c x =
    let i : r ≡ answer_beside k 0 (taken (b, j)) = x.answers ∙ ap (answer_beside k 0) c.accepts in
    let m : new ≡ memory (taken b) old = x.leaves ∙ ap (λ (o : Outcome (List ℕ × Card)). memory (bytes_beside o) old) c.accepts in
    (ap (λ (y : Edited). y.number) i, rw (i, m) (take-append_seam b (drop (length b) old)), ap (λ (y : Edited). y.card) i)

-- from a true card, a chain is one without cards, and the last card is true; and back
chain_bare : (l : List (ℕ × Item)) (s : List ℕ) (k : Card) (t : List ℕ × Card) → TrueCard s k → Chain AddBeside (s, k) l t → Chain Call s l t.0 × TrueCard t.0 t.1
chain_bare [] s k t h e = (ap (λ (q : List ℕ × Card). q.0) e, subst (λ (q : List ℕ × Card). TrueCard q.0 q.1) e h)
chain_bare (x ∷ l) s k t h (u, c, e) =
    let (d, z) = chain_bare l u.0 u.1 t (edit_keeps x.0 s k (add x.1) u.0 u.1 h c.wide c.accepts) e in
    ((u.0, bare_call c, d), z)

bare_chain : (l : List (ℕ × Item)) (s : List ℕ) (k : Card) (b : List ℕ) (j : Card) → TrueCard s k → TrueCard b j → Chain Call s l b → Chain AddBeside (s, k) l (b, j)
bare_chain [] s k b j h z e =
    let i : k ≡ j = taken_is (sym h ∙ ap open_file e ∙ z) in
    λ x. (e x, i x)
bare_chain (x ∷ l) s k b j h z (u, c, e) =
    let (d, r, _) = card_open s k h in
    let m : TrueCard u (card_of (apply (add x.1) d)) = card_again x.0 s d (add x.1) u r c.wide c.accepts in
    ((u, card_of (apply (add x.1) d)), record { wide = c.wide; accepts = edit_true x.0 s k (add x.1) u (card_of (apply (add x.1) d)) h c.wide c.accepts m }, bare_chain l u (card_of (apply (add x.1) d)) b j m z e)

pub demand3 : Demand3
demand3 = record {
  made = made;
  makes = makes;
  any_order = λ s k l m b j o t c p n. let (d, z) = chain_bare l s k (b, j) t c in bare_chain m s k b j t z (any_order s l m b o d p n);
  no_two_sets = λ s k l m b i j o t c d. no_two_sets s l m b o (chain_bare l s k (b, i) t c).0 (chain_bare m s k (b, j) t d).0;
  final = λ s k l b j o t c. let (d, z) = chain_bare l s k (b, j) t c in let e = final s l b o d in (e.old, e.read, e.content_is, sym e.bytes_are, e.canonical_is, z);
}
