-- The place of a fault lies within the bytes that were read, for every format whose tests keep to theirs.
-- Assumes nothing.
use mathlib.Core.Path.{◌≡◌, refl}
use mathlib.Core.List.{List, [], ◌∷◌, ◌++◌}
use mathlib.Core.Bool.{Bool, true, false, ◌&&◌}
use Prim.Native.Nat.{ℕ, ◌+◌, ◌-◌, ◌≤◌, zero-le}
use native.Mathlib.Omega.{arith}
use lib.ListN.{length, take, drop, length-drop}
use lib.Seq.{length-take-le}
use lib.Dec.{leb, eqb}
use borrow.Author.Tests.{leb-true}
use Rattle.answer.specs.Numbers.{SHAPE, TEXT, VALUE}
use Rattle.answer.specs.Outcome.{Outcome, taken, Checks, Pass, after, moved, shift}
use Rattle.answer.proofs.Within.{Within, Bounded, within_more, checked-within, after-within, moved-within, shift-within}
use Rattle.wire.specs.Numbers.{le_at}
use Rattle.utf8.specs.Scan.{is_text, break_at}
use Rattle.utf8.proofs.Reading.{break_within}
use Rattle.format.specs.Format.{Asks, Format, block, sized, option, pair, also, sized_checks, option_checks, read, Is, values, blob, text}
use Rattle.format.proofs.Meaning.{sound}

-- checks whose place is the field's own start
abbrev pub AtStart : Checks → Type 0
AtStart [] = Unit {0}
AtStart (c ∷ l) = (c.2 ≡ 0) × AtStart l

start_bounded : (l more : Checks) (m : ℕ) (P : Type 0) → AtStart l → (Pass l → Bounded more m P) → Bounded (l ++ more) m P
start_bounded [] more m P s h = h tt
start_bounded (c ∷ l) more m P s h = (omega (arith, s.0), λ e. start_bounded l more m P s.1 (λ k. h (e, k)))

-- the tests of a format give places within what they look at
abbrev pub Keeps : Format → Type 0
Keeps (block n ask) = (e : List ℕ) → length e ≡ n → Within (ask e) n
Keeps (sized w checks ask) = ((n : ℕ) → AtStart (checks n)) × ((e : List ℕ) → Pass (checks (length e)) → Within (ask e) (length e))
Keeps (option f) = Keeps f
Keeps (pair f g) = Keeps f × Keeps g
Keeps (also f ask) = Keeps f × ((e : List ℕ) → Is f e → Within (ask e) (length e))

-- the bytes behind a length
sized_within : (w : ℕ) (checks : ℕ → Checks) (ask : Asks) (b : List ℕ) → Keeps (sized w checks ask) → w ≤ length b → le_at w b 0 ≤ length b - w
    → Pass (checks (le_at w b 0)) → Within (after (moved w (ask (take (le_at w b 0) (drop w b)))) (λ _. taken (w + le_at w b 0))) (length b)
sized_within w checks ask b p h i k =
    let y : List ℕ = take (le_at w b 0) (drop w b) in
    let l : length y ≡ le_at w b 0 = length-take-le (le_at w b 0) (drop w b) (rw length-drop i) in
    after-within (moved w (ask y)) (λ _. taken (w + le_at w b 0)) (length b)
    (moved-within w (ask y) (length b) (length y) (p.1 y (rw l k)) (omega arith)) (λ _ _. tt)

pub read-within : (f : Format) (b : List ℕ) → Keeps f → Within (read f b) (length b)
unfolding read
read-within (block n ask) b p = checked-within ((leb n (length b), SHAPE, 0) ∷ []) (after (ask (take n b)) (λ _. taken n)) (length b) (
  zero-le,
  λ h.
      let i : n ≤ length b = leb-true n (length b) h in
      after-within (ask (take n b)) (λ _. taken n) (length b) (within_more (ask (take n b)) i (p (take n b) (length-take-le n b i))) (λ _ _. tt),
)
read-within (sized w checks ask) b p =
    let n : ℕ = le_at w b 0 in
    let last : Checks = (leb n (length b - w), SHAPE, w) ∷ [] in
    let behind : Outcome ℕ = after (moved w (ask (take n (drop w b)))) (λ _. taken (w + n)) in
    checked-within (sized_checks w checks b) behind (length b) (
      zero-le,
      λ h.
          let i : w ≤ length b = leb-true w (length b) h in
          start_bounded (checks n) last (length b) (Within behind (length b)) (p.0 n) (λ k.
          (i, λ j. sized_within w checks ask b p i (leb-true n (length b - w) j) k)),
    )
read-within (option f) b p =
    checked-within (option_checks b) (elim (eqb (le_at 1 b 0) 0) [ true ↦ taken 1 | false ↦ shift 1 (read f (drop 1 b)) ]) (length b)
    (zero-le, λ h. (zero-le, λ i. go (eqb (le_at 1 b 0) 0) (leb-true 1 (length b) h) (read-within f (drop 1 b) p)))
  where
    go : (c : Bool) → 1 ≤ length b → Within (read f (drop 1 b)) (length (drop 1 b)) → Within {A = ℕ} (elim c as (λ _. Outcome ℕ) [ true ↦ taken 1 | false ↦ shift 1 (read f (drop 1 b)) ]) (length b)
    go true i k = tt
    go false i k = shift-within 1 (read f (drop 1 b)) (length b) (length (drop 1 b)) k (omega (arith, length-drop 1 b))
read-within (pair f g) b p =
    after-within (read f b) (λ k. shift k (read g (drop k b))) (length b) (read-within f b p.0) (λ k e.
    shift-within k (read g (drop k b)) (length b) (length (drop k b)) (read-within g (drop k b) p.1) (omega (arith, length-drop k b, (sound f b e).0)))
read-within (also f ask) b p =
    after-within (read f b) (λ k. after (ask (take k b)) (λ _. taken k)) (length b) (read-within f b p.0) (λ k e.
    let u = sound f b e in
    let l : length (take k b) ≤ length b = omega (arith, length-take-le k b u.0, u.0) in
    after-within (ask (take k b)) (λ _. taken k) (length b) (within_more (ask (take k b)) l (p.1 (take k b) u.1)) (λ _ _. tt))

-- a listed number's place lies within, if its row's does
abbrev pub RowsIn : List (ℕ × ℕ × ℕ × ℕ) → ℕ → Type 0
RowsIn [] m = Unit {0}
RowsIn (r ∷ l) m = (r.0 ≤ m) × RowsIn l m

pub values-within : (l : List (ℕ × ℕ × ℕ × ℕ)) (e : List ℕ) (m : ℕ) → RowsIn l m → Within (values l e) m
unfolding values
values-within [] e m h = tt
values-within (r ∷ l) e m h = checked-within ((leb r.2 (le_at r.1 e r.0) && leb (le_at r.1 e r.0) r.3, VALUE, r.0) ∷ []) (values l e) m (h.0, λ _. values-within l e m h.1)

pub text_keeps : (most : ℕ) → Keeps (text most)
text_keeps most = ((λ n. (refl, tt)), λ e h. checked-within ((is_text e, TEXT, break_at e) ∷ []) (taken tt) (length e) (break_within e, λ _. tt))

pub blob_keeps : (w most : ℕ) → Keeps (blob w most)
blob_keeps w most = ((λ n. (refl, tt)), λ e h. tt)
