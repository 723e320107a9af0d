-- What an edit answers beside a card: refused before the card is asked, refused or taken.
-- Assumes nothing.
use mathlib.Core.Path.{◌≡◌, sym, ◌∙◌, ap}
use mathlib.Core.List.{List}
use Prim.Native.Nat.{ℕ}
use Rattle.answer.specs.Outcome.{Outcome, taken, refused, after}
use Rattle.answer.specs.Calls.{memory}
use Rattle.wire.specs.Parts.{Wrote}
use Rattle.aerosnap.specs.Content.{Content, content_at}
use Rattle.aerosnap.specs.Edits.{Edit, apply, edit_to, edit_file}
use Rattle.cards.specs.declared.Card.{Card}
use Rattle.cards.specs.Cards.{carded, edit_card_to, edit_card, answer_beside, bytes_beside, WritesBeside}

pub beside_refused : {k : Card} {o : Outcome (List ℕ × Card)} (i : ℕ) {old : List ℕ} {n p : ℕ} → o ≡ refused n p → WritesBeside k (i, o) old (record { number = n; index = i; place = p; card = k }) old
beside_refused {k} i {old} e = record { answers = sym (ap (answer_beside k i) e); leaves = sym (ap (λ (x : Outcome (List ℕ × Card)). memory (bytes_beside x) old) e) }

pub beside_taken : {k m : Card} {o : Outcome (List ℕ × Card)} (i : ℕ) {b old new : List ℕ} {n : ℕ} → o ≡ taken (b, m) → Wrote b old new n → WritesBeside k (i, o) old (record { number = 0; index = i; place = n; card = m }) new
beside_taken {k} {m} i {old = old} e so = record {
  answers = ap (λ (j : ℕ). record { number = 0; index = i; place = j; card = m }) so.count ∙ sym (ap (answer_beside k i) e);
  leaves = so.bytes ∙ sym (ap (λ (x : Outcome (List ℕ × Card)). memory (bytes_beside x) old) e);
}

-- an edit that is refused without a card is refused so beside every card
pub refused_beside : (have : ℕ) (k : Card) (s : List ℕ) (e : Edit) {n p : ℕ} → edit_file have s e ≡ refused n p → edit_card have k s e ≡ refused n p
unfolding edit_file edit_card edit_card_to
refused_beside have k s e {n} {p} h = go (content_at s) h
  where
    go : (o : Outcome Content) → after o (λ c. edit_to have c e) ≡ refused n p → after o (λ c. after (edit_to have c e) (carded k c (apply e c))) ≡ refused n p
    go (taken c) q = ap (λ (x : Outcome (List ℕ)). after x (carded k c (apply e c))) q
    go (refused a b) q = ap (λ (x : Outcome (List ℕ)). after x (λ t. taken (t, k))) q
