-- One field after the other is the list of their checks.
-- Assumes nothing.
use mathlib.Core.Path.{◌≡◌, refl, sym, ap, ◌∙◌}
use mathlib.Core.Bool.{Bool, true, false, not, cond}
use mathlib.Core.List.{List, [], ◌∷◌, ◌++◌}
use Prim.Native.Nat.{ℕ, ◌+◌, ◌*◌, ◌-◌, ◌≤◌, ◌<◌}
use native.Mathlib.Omega.{arith}
use borrow.Author.Tests.{le-leb, leb-true}
use lib.Dec.{leb, eqb}
use lib.ListN.{length, drop, get_or}
use Rattle.std.proofs.Math.Seq.{drop-cons}
use Rattle.std.proofs.Math.ListN.{drop_of_length-le}
use native.Mathlib.Numerals.{add-one}
use Rattle.answer.specs.Numbers.{SHAPE, VALUE}
use Rattle.answer.specs.Outcome.{Outcome, taken, refused, after, Checks, checked, Pass}
use Rattle.answer.specs.Calls.{asked}
use Rattle.answer.proofs.Checks.{checked-append, pass-checked, asked-pass, stops}
use Rattle.aipc.proofs.Going.{part_goes}
use Rattle.kinds.specs.declared.Message.{Message}
use Rattle.kinds.specs.declared.Field.{Field}
use Rattle.kinds.specs.declared.Field.TheVariants.{Absent, U8, U16, U32, U64, Flag, Level, Error}
use Rattle.kinds.specs.declared.Body.TheVariants.{Text}
use Rattle.kinds.specs.declared.Cell.{Cell}
use Rattle.kinds.specs.declared.Form.{Form}
use Rattle.kinds.specs.Kinds.{paper, cells, ok_of, none}
use Rattle.messages.specs.Fields.{field_width, allowed, size_of, message_at}
use Rattle.messages.specs.Reading.{message_most, cell_checks, data_length, data_fits, left_over_checks, body_checks, numbers_end, read_checks, message_content, read_message}
use Rattle.aipc.specs.Steps.{field_at, text_part, behind, formed}

-- the steps that the code makes, each from where the one before it ended
abbrev pub walked : ℕ → List Cell → List ℕ → Outcome ℕ → Outcome ℕ
walked ok [] m o = o
walked ok (c ∷ cs) m o = walked ok cs m (after o (field_at ok c m))

walked_refused : (ok : ℕ) (cs : List Cell) (m : List ℕ) (n p : ℕ) → walked ok cs m (refused n p) ≡ refused n p
walked_refused ok [] m n p = refl
walked_refused ok (c ∷ cs) m n p = walked_refused ok cs m n p

pub walked_checks : (ok : ℕ) (cs : List Cell) (m : List ℕ) (at : ℕ) → walked ok cs m (taken at) ≡ checked (cell_checks ok cs at m) (taken (at + size_of ok cs))
unfolding cell_checks size_of
walked_checks ok [] m at = ap taken (omega arith)
walked_checks ok (c ∷ cs) m at = go (leb (at + w) (length m)) (allowed ok c.0 c.1) (walked_checks ok cs m (at + w))
  where
    w : ℕ
    w = field_width ok c.0

    go : (a b : Bool) → walked ok cs m (taken (at + w)) ≡ checked (cell_checks ok cs (at + w) m) (taken (at + w + size_of ok cs))
        → walked ok cs m (checked ((a, SHAPE, at) ∷ (b, VALUE, at) ∷ []) (taken (at + w)))
        ≡ checked ((a, SHAPE, at) ∷ (b, VALUE, at) ∷ cell_checks ok cs (at + w) m) (taken (at + (w + size_of ok cs)))
    go false b h = walked_refused ok cs m SHAPE at
    go true false h = walked_refused ok cs m VALUE at
    go true true h = h ∙ ap (λ (n : ℕ). checked (cell_checks ok cs (at + w) m) (taken n)) (omega arith)

-- four steps, of which the last is made or an earlier one refuses
module _ (ok : ℕ) (a b c d : Cell) (m : List ℕ) where
  abbrev steps : Outcome ℕ
  steps = walked ok (a ∷ b ∷ c ∷ d ∷ []) m (taken 2)

  pub first_stops : {n p : ℕ} → refused n p ≡ field_at ok a m 2 → refused n p ≡ steps
  first_stops h = rw (← h)

  module _ {x : ℕ} (i : taken x ≡ field_at ok a m 2) where
    pub second_stops : {n p : ℕ} → refused n p ≡ field_at ok b m x → refused n p ≡ steps
    second_stops h = rw (← i, ← h)

    module _ {y : ℕ} (j : taken y ≡ field_at ok b m x) where
      pub third_stops : {n p : ℕ} → refused n p ≡ field_at ok c m y → refused n p ≡ steps
      third_stops h = rw (← i, ← j, ← h)

      pub fourth_ends : {z : ℕ} → taken z ≡ field_at ok c m y → field_at ok d m z ≡ steps
      fourth_ends k = rw (← i, ← j, ← k)

-- ---- where the numbers end

width_small : (ok : ℕ) (f : Field) → field_width ok f ≤ 8
width_small ok Absent = omega arith
width_small ok U8 = omega arith
width_small ok U16 = omega arith
width_small ok U32 = omega arith
width_small ok U64 = omega arith
width_small ok Flag = omega arith
width_small ok Level = omega arith
width_small ok Error = go (eqb ok 0)
  where
    go : (b : Bool) → cond b 4 0 ≤ 8
    go true = omega arith
    go false = omega arith

pub end_sum : (f : Form) → numbers_end f ≡ 2 + field_width (ok_of f) f.a.0 + field_width (ok_of f) f.b.0 + field_width (ok_of f) f.c.0 + field_width (ok_of f) f.d.0
unfolding size_of
end_sum f = omega arith

pub end_small : (f : Form) → numbers_end f ≤ 34
unfolding size_of
end_small f =
    let ok = ok_of f in
    omega (arith, width_small ok f.a.0, width_small ok f.b.0, width_small ok f.c.0, width_small ok f.d.0)

-- as the code comes to the fields from the i-th on
pub record Summed (ok : ℕ) (cs : List Cell) (i at : ℕ) : Type 0 where
  pub left : at + size_of ok (drop i cs) ≡ 2 + size_of ok cs
  pub small : at ≤ 2 + 8 * i

module _ (ok : ℕ) (cs : List Cell) where
  pub summed_next : {i at : ℕ} → Summed ok cs i at → i < length cs → {items : List Cell} {o w : ℕ} → items ≡ cs → o ≡ ok → (w ≡ field_width o (get_or items i none).0) × (w ≤ 8) → Summed ok cs (i + 1) (at + w)
  unfolding size_of
  summed_next {i} {at} r k q p e =
      let c : Cell = get_or cs i none in
      let s : drop i cs ≡ c ∷ drop (i + 1) cs = rw add-one (drop-cons cs i none k) in
      let n : at + (field_width ok c.0 + size_of ok (drop (i + 1) cs)) ≡ 2 + size_of ok cs = rw s at r.left in
      let m = r.small in
      let a = rw (q, p) at e.0 in
      let b = e.1 in
      record { left = omega arith; small = omega arith }

  pub summed_all : {i at : ℕ} → Summed ok cs i at → length cs ≤ i → at ≡ 2 + size_of ok cs
  unfolding size_of
  summed_all {i} {at} r k =
      let d : drop i cs ≡ [] = drop_of_length-le cs k in
      let s : at + 0 ≡ 2 + size_of ok cs = rw d at r.left in
      omega (arith, s)

-- a field of no other width has none
pub width_none : (ok : ℕ) (f : Field) → (field_width ok f ≡ 1 → ⊥) → (field_width ok f ≡ 2 → ⊥) → (field_width ok f ≡ 4 → ⊥) → (field_width ok f ≡ 8 → ⊥) → field_width ok f ≡ 0
width_none ok Absent a b c d = refl
width_none ok U8 a b c d = absurd (a refl)
width_none ok U16 a b c d = absurd (b refl)
width_none ok U32 a b c d = absurd (c refl)
width_none ok U64 a b c d = absurd (d refl)
width_none ok Flag a b c d = absurd (a refl)
width_none ok Level a b c d = absurd (a refl)
width_none ok Error a b c d = go (eqb ok 0) c
  where
    go : (t : Bool) → (◌≡◌ {A = ℕ} (cond t 4 0) 4 → ⊥) → ◌≡◌ {A = ℕ} (cond t 4 0) 0
    go true h = absurd (h refl)
    go false h = refl

-- ---- behind the numbers

-- data that fits ends within the message
pub data_within : (at : ℕ) (m : List ℕ) {e : ℕ} → Pass (data_fits at m) × (at + 4 + data_length at m ≡ e) → (at + 4 ≤ e) × (e ≤ length m)
data_within at m h = let k = leb-true (at + 4 + data_length at m) (length m) h.0.1.0 in (omega (arith, h.1), omega (arith, h.1, k))

-- a text is the part from where it starts to where it ends
pub text_checks : (at : ℕ) (m : List ℕ) → checked (data_fits at m) (asked (text_part (at + 4) (at + 4 + data_length at m) m ++ left_over_checks m (at + 4 + data_length at m))) ≡ asked (body_checks Text at m)
unfolding body_checks
text_checks at m = let e : at + 4 + data_length at m - (at + 4) ≡ data_length at m = omega arith in rw e

pub text_goes : (at : ℕ) (m : List ℕ) {e : ℕ} → taken e ≡ checked (data_fits at m) (taken (at + 4 + data_length at m)) → asked (text_part (at + 4) e m ++ left_over_checks m e) ≡ asked (body_checks Text at m)
text_goes at m h = part_goes (data_fits at m) (at + 4 + data_length at m) (λ (e : ℕ). asked (text_part (at + 4) e m ++ left_over_checks m e)) h ∙ text_checks at m

-- two tests
pub both_stop : (l k : Checks) {n p : ℕ} → refused n p ≡ asked l → refused n p ≡ asked (l ++ k)
both_stop l k h = sym (checked-append l k (taken tt) ∙ stops l tt (asked k) (sym h))

pub both_go : (l k : Checks) → taken tt ≡ asked l → asked k ≡ asked (l ++ k)
both_go l k h = sym (checked-append l k (taken tt) ∙ pass-checked l (asked k) (asked-pass l h))

-- ---- the whole

pub is_known : (b : Bool) → not b ≡ false → b ≡ true
is_known true h = refl
is_known false h = cc

pub not_known : (b : Bool) → not b ≡ true → b ≡ false
not_known true h = cc
not_known false h = refl

pub read-formed : (m : List ℕ) (k : Message) (f : Form) → k ≡ message_at m → f ≡ paper k → length m ≤ message_most → 2 ≤ length m → f.known ≡ true → formed k f m ≡ read_message m
unfolding formed behind read_message read_checks
read-formed m k f ek ef h g t =
    rw (← ek, ← ef, le-leb (length m) message_most h, le-leb 2 (length m) g, t)
    (sym (checked-append (cell_checks (ok_of f) (cells f) 2 m) (body_checks f.body (numbers_end f) m) (taken (message_content k f.body (numbers_end f) m))))
