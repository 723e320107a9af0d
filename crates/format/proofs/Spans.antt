-- How long a piece is, by its lengths alone: where it is read, that is where it ends.
-- Assumes nothing.
use mathlib.Core.Path.{◌≡◌, ◌∙◌}
use mathlib.Core.List.{List, [], ◌∷◌}
use mathlib.Core.Bool.{Bool, true, false}
use Prim.Native.Nat.{ℕ, ◌+◌}
use native.Mathlib.Omega.{arith}
use lib.ListN.{length, take, drop}
use lib.Dec.{leb, eqb}
use Rattle.answer.specs.Numbers.{SHAPE}
use Rattle.answer.specs.Outcome.{Outcome, taken, after, moved, shift}
use Rattle.answer.proofs.Checks.{checked-pass}
use Rattle.answer.proofs.Outcomes.{after_taken, shift_taken, taken_is}
use Rattle.wire.specs.Numbers.{le_at}
use Rattle.format.specs.Format.{Format, block, sized, option, pair, also, sized_checks, option_checks, read, span}

pub span-read : (f : Format) (b : List ℕ) {w : ℕ} → read f b ≡ taken w → span f b ≡ w
unfolding read span
span-read (block n ask) b {w} h =
    let p = checked-pass ((leb n (length b), SHAPE, 0) ∷ []) (after (ask (take n b)) (λ _. taken n)) w h in
    taken_is (after_taken (ask (take n b)) (λ _. taken n) p.1).2
span-read (sized v checks ask) b {w} h =
    let n : ℕ = le_at v b 0 in
    let p = checked-pass (sized_checks v checks b) (after (moved v (ask (take n (drop v b)))) (λ _. taken (v + n))) w h in
    taken_is (after_taken (moved v (ask (take n (drop v b)))) (λ _. taken (v + n)) p.1).2
span-read (option f) b {w} h = go (eqb (le_at 1 b 0) 0) (checked-pass (option_checks b) (elim (eqb (le_at 1 b 0) 0) [ true ↦ taken 1 | false ↦ shift 1 (read f (drop 1 b)) ]) w h).1 (λ k. span-read f (drop 1 b))
  where
    go : (z : Bool) → elim z as (λ _. Outcome ℕ) [ true ↦ taken 1 | false ↦ shift 1 (read f (drop 1 b)) ] ≡ taken w
        → ((k : ℕ) → read f (drop 1 b) ≡ taken k → span f (drop 1 b) ≡ k) → elim z as (λ _. ℕ) [ true ↦ 1 | false ↦ 1 + span f (drop 1 b) ] ≡ w
    go true q s = taken_is q
    go false q s = let j = shift_taken 1 (read f (drop 1 b)) q in omega (arith, s j.0 j.1, j.2)
span-read (pair f g) b {w} h =
    let p = after_taken (read f b) (λ k. shift k (read g (drop k b))) h in
    let q = shift_taken p.0 (read g (drop p.0 b)) p.2 in
    rw (span-read f b p.1) (omega (arith, span-read g (drop p.0 b) q.1, q.2))
span-read (also f ask) b {w} h =
    let (j, p, q) = after_taken (read f b) (λ k. after (ask (take k b)) (λ _. taken k)) h in
    let (_, r, z) = after_taken (ask (take j b)) (λ _. taken j) q in
    span-read f b p ∙ taken_is z
