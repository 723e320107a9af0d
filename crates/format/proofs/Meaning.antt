-- A piece is read exactly where it is: reading finds an end if and only if the bytes up to there are such a piece, whatever follows them.
-- Assumes nothing.
use mathlib.Core.Path.{◌≡◌, refl, sym, ◌∙◌, ap}
use mathlib.Core.Logic.{inl, inr}
use mathlib.Core.List.{List, [], ◌∷◌, ◌++◌, append_assoc}
use mathlib.Core.Bool.{Bool, true, false}
use Prim.Native.Nat.{ℕ, suc, ◌+◌, ◌-◌, ◌≤◌}
use native.Mathlib.Omega.{arith}
use lib.ListN.{length, take, drop, length-append, length-drop}
use lib.Seq.{take-add, take_at, drop_at, length-take-le, take-append_seam}
use lib.Dec.{leb, eqb}
use borrow.Author.Tests.{leb-true, le-leb, eqb-true, eqb-false}
use Rattle.answer.specs.Numbers.{SHAPE}
use Rattle.answer.specs.Outcome.{Outcome, taken, Checks, Pass, after, moved, shift}
use Rattle.answer.proofs.Checks.{checked-pass, pass-checked, pass-append, append-pass}
use Rattle.answer.proofs.Outcomes.{after_taken, moved_taken, shift_taken, taken_is}
use Rattle.wire.specs.Numbers.{le, le_at}
use Rattle.wire.proofs.Numbers.{le_at_front, le_at-zero, le_at-head}
use Rattle.format.specs.Format.{Asks, Format, block, sized, option, pair, also, sized_checks, option_checks, read, Is}

module _ (w : ℕ) (checks : ℕ → Checks) (ask : Asks) where
  -- what comes behind the checks of a sized piece
  abbrev asks_of : List ℕ → Outcome ℕ
  asks_of b = after (moved w (ask (take (le_at w b 0) (drop w b)))) (λ _. taken (w + le_at w b 0))

  -- a sized piece by its length's bytes x and the others y
  sized_complete : (x y rest : List ℕ) → length x ≡ w → le x ≡ length y → Pass (checks (length y)) → ask y ≡ taken tt
      → read (sized w checks ask) (x ++ (y ++ rest)) ≡ taken (w + length y)
  unfolding read
  sized_complete x y rest i j k m =
      let b : List ℕ = x ++ (y ++ rest) in
      let n : le_at w b 0 ≡ length y = le_at_front w x (y ++ rest) i ∙ j in
      let d : drop w b ≡ y ++ rest = drop_at x (y ++ rest) w i in
      let g : length b ≡ w + (length y + length rest) = simp (length-append, i) in
      let p : Pass (sized_checks w checks b) = rw (n, g) (
        le-leb w (w + (length y + length rest)) (omega arith),
        pass-append (checks (length y)) ((leb (length y) (w + (length y + length rest) - w), SHAPE, w) ∷ []) k (le-leb (length y) (w + (length y + length rest) - w) (omega arith), tt),
      ) in
      pass-checked (sized_checks w checks b) (asks_of b) p ∙ rw (n, d, take-append_seam, m)

pub complete : (f : Format) (e rest : List ℕ) → Is f e → read f (e ++ rest) ≡ taken (length e)
unfolding read
complete (block n ask) e rest h =
    rw (take_at e rest n h.0, le-leb n (length (e ++ rest)) (rw length-append (omega (arith, h.0))), h.1) (ap taken (sym h.0))
complete (sized w checks ask) e rest (x, y, q, i, j, k, m) =
    let l : length e ≡ w + length y = rw (q, length-append, i) in
    rw (q, append_assoc) (sized_complete w checks ask x y rest i j k m ∙ ap taken (sym l ∙ ap length q))
complete (option f) e rest (inl q) = rw (q, le_at-head 0 rest, le-leb 1 (suc (length rest)) (omega arith))
complete (option f) e rest (inr (x, q, h)) =
    rw (q, le_at-head 1 (x ++ rest), le-leb 1 (suc (length (x ++ rest))) (omega arith), q, complete f x rest h) (ap taken (omega arith))
complete (pair f g) e rest (x, y, q, h, k) =
    rw (q, append_assoc, complete f x (y ++ rest) h, drop_at x (y ++ rest) (length x) refl, complete g y rest k, length-append) refl
complete (also f ask) e rest (h, k) = rw (complete f e rest h, take-append_seam e rest, k)

pub sound : (f : Format) (b : List ℕ) {k : ℕ} → read f b ≡ taken k → (k ≤ length b) × Is f (take k b)
unfolding read
sound (block n ask) b {k} h =
    let p = checked-pass ((leb n (length b), SHAPE, 0) ∷ []) (after (ask (take n b)) (λ _. taken n)) k h in
    let q = after_taken (ask (take n b)) (λ _. taken n) p.1 in
    let e : n ≡ k = taken_is q.2 in
    let l : n ≤ length b = leb-true _ _ p.0.0 in
    rw (← e) (l, (length-take-le n b l, q.1))
sound (sized w checks ask) b {k} h =
    let n : ℕ = le_at w b 0 in
    let p = checked-pass (sized_checks w checks b) (asks_of w checks ask b) k h in
    let u = append-pass (checks n) ((leb n (length b - w), SHAPE, w) ∷ []) p.0.1 in
    let q = after_taken (moved w (ask (take n (drop w b)))) (λ _. taken (w + n)) p.1 in
    let e : w + n ≡ k = taken_is q.2 in
    let l : w ≤ length b = leb-true _ _ p.0.0 in
    let r : n ≤ length b - w = leb-true _ _ u.1.0 in
    let m : length (take n (drop w b)) ≡ n = length-take-le n (drop w b) (rw length-drop r) in
    rw (← e) (
      omega arith,
      (take w b, take n (drop w b), take-add w n b, length-take-le w b l, sym (le_at-zero w b) ∙ sym m, rw m u.0, moved_taken w _ q.1),
    )
sound (option f) [] h = let z : ◌≡◌ {A = ℕ} 0 1 = cc in absurd (omega arith)
sound (option f) (c ∷ b) {k} h =
    let p = checked-pass (option_checks (c ∷ b)) (elim (eqb (le_at 1 (c ∷ b) 0) 0) [ true ↦ taken 1 | false ↦ shift 1 (read f b) ]) k h in
    let i : c ≤ 1 = omega (arith, leb-true (le_at 1 (c ∷ b) 0) 1 p.0.1.0, le_at-head c b) in
    go (eqb (le_at 1 (c ∷ b) 0) 0) refl p.1 i (λ j. sound f b)
  where
    go : (t : Bool) → eqb (le_at 1 (c ∷ b) 0) 0 ≡ t → elim t as (λ _. Outcome ℕ) [ true ↦ taken 1 | false ↦ shift 1 (read f b) ] ≡ taken k → c ≤ 1
        → ((j : ℕ) → read f b ≡ taken j → (j ≤ length b) × Is f (take j b)) → (k ≤ suc (length b)) × Is (option f) (take k (c ∷ b))
    go true q r i s =
        let e : 1 ≡ k = taken_is r in
        let z : c ≡ 0 = sym (le_at-head c b) ∙ eqb-true _ _ q in
        rw (← e) (omega arith, inl (rw z))
    go false q r i s =
        let j = shift_taken 1 (read f b) r in
        let n : k ≡ suc j.0 = j.2 ∙ (omega arith) in
        let u = s j.0 j.1 in
        let z : c ≡ 1 = omega (arith, eqb-false (le_at 1 (c ∷ b) 0) 0 q, le_at-head c b) in
        rw n (omega (arith, u.0), inr (take j.0 b, rw z, u.1))
sound (pair f g) b {k} h =
    let p = after_taken (read f b) (λ j. shift j (read g (drop j b))) h in
    let q = shift_taken p.0 (read g (drop p.0 b)) p.2 in
    let u = sound f b p.1 in
    let v = sound g (drop p.0 b) q.1 in
    let l : length (drop p.0 b) ≡ length b - p.0 = length-drop p.0 b in
    (omega (arith, u.0, v.0, l, q.2), (take p.0 b, take q.0 (drop p.0 b), ap (λ (n : ℕ). take n b) q.2 ∙ take-add p.0 q.0 b, u.1, v.1))
sound (also f ask) b {k} h =
    let (j, p, q) = after_taken (read f b) (λ k. after (ask (take k b)) (λ _. taken k)) h in
    let (_, r, z) = after_taken (ask (take j b)) (λ _. taken j) q in
    let u = sound f b p in
    rw (← taken_is z) (u.0, (u.1, r))

-- a piece ends at one place, whatever follows: bytes begin with at most one piece of a format
pub is_one : (f : Format) (e x rest more : List ℕ) → Is f e → Is f x → e ++ rest ≡ x ++ more → e ≡ x
is_one f e x rest more h k q =
    let l : length e ≡ length x = taken_is (sym (complete f e rest h) ∙ ap (read f) q ∙ complete f x more k) in
    sym (take-append_seam e rest) ∙ ap (take (length e)) q ∙ ap (λ (n : ℕ). take n (x ++ more)) l ∙ take-append_seam x more

-- the fewest bytes that a piece has
abbrev pub least : Format → ℕ
least (block n ask) = n
least (sized w checks ask) = w
least (option f) = 1
least (pair f g) = least f + least g
least (also f ask) = least f

pub least_le : (f : Format) (e : List ℕ) → Is f e → least f ≤ length e
least_le (block n ask) e h = omega (arith, h.0)
least_le (sized w checks ask) e (x, y, q, i, j, k, m) = omega (arith, ap length q, length-append x y)
least_le (option f) e (inl q) = omega (arith, ap length q)
least_le (option f) e (inr (x, q, h)) = omega (arith, ap length q)
least_le (pair f g) e (x, y, q, h, k) = omega (arith, ap length q, length-append x y, least_le f x h, least_le g y k)
least_le (also f ask) e (h, k) = least_le f e h
