-- Readers at a place: each format by its parts, where they stand.
-- Assumes nothing.
use mathlib.Core.Path.{◌≡◌, refl, sym, ◌∙◌, ap}
use mathlib.Core.List.{List, [], ◌∷◌}
use mathlib.Core.Bool.{Bool, true, false, not, cond}
use Prim.Native.Nat.{ℕ, ◌+◌, ◌-◌, ◌≤◌}
use native.Mathlib.Omega.{arith}
use lib.ListN.{length, take, drop, length-drop}
use lib.Seq.{drop-drop}
use lib.Dec.{leb, eqb}
use Rattle.answer.specs.Numbers.{SHAPE}
use Rattle.answer.specs.Outcome.{Outcome, taken, refused, Checks, checked, after, moved, shift}
use Rattle.answer.proofs.Outcomes.{shift_taken, shift_zero, shift-shift, after-shift}
use Rattle.wire.specs.Numbers.{le_at}
use Rattle.format.specs.Format.{Asks, any, Format, block, sized, option, pair, also, sized_checks, option_checks, read}
use Rattle.format.specs.Places.{read_at, present_at}
use Rattle.format.proofs.Meaning.{sound}

pub at_zero : (f : Format) (s : List ℕ) → read_at f s 0 ≡ read f s
at_zero f s = shift_zero (read f s)

-- a piece that is taken ends within the bytes
pub inside : (f : Format) (s : List ℕ) (at : ℕ) {e : ℕ} → taken e ≡ read_at f s at → at ≤ length s → (at ≤ e) × (e ≤ length s)
inside f s at h i =
    let j = shift_taken at (read f (drop at s)) (sym h) in
    (omega (arith, j.2), omega (arith, (sound f (drop at s) j.1).0, length-drop at s, j.2))

-- one piece after another: each is read where the one before it ended
pub pair-at : (f g : Format) (s : List ℕ) (at : ℕ) → read_at (pair f g) s at ≡ after (read_at f s at) (read_at g s)
unfolding read
pair-at f g s at = go (read f (drop at s))
  where
    go : (r : Outcome ℕ) → shift at (after r (λ k. shift k (read g (drop k (drop at s))))) ≡ after (shift at r) (read_at g s)
    go (taken k) = shift-shift at k (read g (drop k (drop at s))) ∙ ap (λ (b : List ℕ). shift (at + k) (read g b)) (drop-drop k at s)
    go (refused n p) = refl

-- what holds behind checks holds before them
module _ {A : Type 0} (at : ℕ) (x : Outcome ℕ) (y : Outcome A) (next : A → Outcome ℕ) where
  through : (l : Checks) → shift at x ≡ after (moved at y) next → shift at (checked l x) ≡ after (moved at (checked l y)) next
  through [] h = h
  through (c ∷ l) h = go c.0 (through l h)
    where
      go : (b : Bool) → shift at (checked l x) ≡ after (moved at (checked l y)) next
          → shift at (checked ((b, c.1, c.2) ∷ l) x) ≡ after (moved at (checked ((b, c.1, c.2) ∷ l) y)) next
      go true k = k
      go false k = refl

-- a presence byte, and what it says is there
pub option_at : (f : Format) (s : List ℕ) (at : ℕ) → read_at (option f) s at ≡ after (present_at s at) (λ p. cond p (read_at f s (at + 1)) (taken (at + 1)))
unfolding read
option_at f s at = through at (elim (eqb n 0) [ true ↦ taken 1 | false ↦ shift 1 (read f (drop 1 b)) ]) (taken (not (eqb n 0))) (λ p. cond p (read_at f s (at + 1)) (taken (at + 1))) (option_checks b) (go (eqb n 0))
  where
    b : List ℕ
    b = drop at s

    n : ℕ
    n = le_at 1 b 0

    go : (z : Bool) → shift at (elim z as (λ _. Outcome ℕ) [ true ↦ taken 1 | false ↦ shift 1 (read f (drop 1 b)) ]) ≡ cond (not z) (read_at f s (at + 1)) (taken (at + 1))
    go true = refl
    go false = shift-shift at 1 (read f (drop 1 b)) ∙ ap (λ (l : List ℕ). shift (at + 1) (read f l)) (drop-drop 1 at s)

-- what is asked of the bytes from b to e, at their own place
abbrev pub asked_at : Asks → List ℕ → ℕ → ℕ → Outcome ℕ
asked_at ask s b e = after (moved b (ask (take (e - b) (drop b s)))) (λ _. taken e)

-- asked of a piece at its own place
asked-shift : (at n : ℕ) (r : Outcome (Unit {0})) → shift at (after r (λ _. taken n)) ≡ after (moved at r) (λ _. taken (at + n))
asked-shift at n (taken u) = refl
asked-shift at n (refused a p) = refl

-- a piece, and then what is asked of all its bytes
pub also_at : (f : Format) (ask : Asks) (s : List ℕ) (at : ℕ) → read_at (also f ask) s at ≡ after (read_at f s at) (asked_at ask s at)
unfolding read
also_at f ask s at = go (read f (drop at s))
  where
    go : (r : Outcome ℕ) → shift at (after r (λ k. after (ask (take k (drop at s))) (λ _. taken k))) ≡ after (shift at r) (asked_at ask s at)
    go (taken k) =
        let part : at + k - at ≡ k = omega arith in
        asked-shift at k (ask (take k (drop at s))) ∙ ap (λ (j : ℕ). after (moved at (ask (take j (drop at s)))) (λ _. taken (at + k))) (sym part)
    go (refused n p) = refl

-- a block is its bytes, and then what is asked of them
pub block_at : (n : ℕ) (ask : Asks) (s : List ℕ) (at : ℕ) → read_at (block n ask) s at ≡ after (read_at (block n any) s at) (asked_at ask s at)
unfolding read
block_at n ask s at =
    through at (after (ask y) (λ _. taken n)) (taken n) (λ e. asked_at ask s at (at + e)) ((leb n (length (drop at s)), SHAPE, 0) ∷ []) (asked-shift at n (ask y) ∙ ap (λ (k : ℕ). after (moved at (ask (take k (drop at s)))) (λ _. taken (at + n))) (sym part))
    ∙ sym (after-shift at (checked ((leb n (length (drop at s)), SHAPE, 0) ∷ []) (taken n)) (asked_at ask s at))
  where
    y : List ℕ
    y = take n (drop at s)

    part : at + n - at ≡ n
    part = omega arith

-- a sized piece is the same with nothing asked of its bytes, and then what is asked of them
pub sized_at : (w : ℕ) (checks : ℕ → Checks) (ask : Asks) (s : List ℕ) (at : ℕ)
    → read_at (sized w checks ask) s at ≡ after (read_at (sized w checks any) s at) (asked_at ask s (at + w))
unfolding read
sized_at w checks ask s at =
    through at (after (moved w (ask y)) (λ _. taken (w + n))) (taken (w + n)) (λ e. asked_at ask s (at + w) (at + e)) (sized_checks w checks b)
    (same (ask y) ∙ ap (λ (z : List ℕ). after (moved (at + w) (ask z)) (λ _. taken (at + (w + n)))) (sym part))
    ∙ sym (after-shift at (checked (sized_checks w checks b) (taken (w + n))) (asked_at ask s (at + w)))
  where
    b : List ℕ
    b = drop at s

    n : ℕ
    n = le_at w b 0

    y : List ℕ
    y = take n (drop w b)

    part : take (at + (w + n) - (at + w)) (drop (at + w) s) ≡ y
    part =
        let g : at + (w + n) - (at + w) ≡ n = omega arith in
        ap (λ (k : ℕ). take k (drop (at + w) s)) g ∙ ap (take n) (sym (drop-drop w at s))

    same : (r : Outcome (Unit {0})) → shift at (after (moved w r) (λ _. taken (w + n))) ≡ after (moved (at + w) r) (λ _. taken (at + (w + n)))
    same (taken u) = refl
    same (refused a p) = ap (refused a) (omega arith)
