use Rattle.sections.proofs.Rules.{Framing, framing_all, section_rules, keeps_stop}
use Rattle.sections.specs.Steps.{Marks}
use Rattle.answer.proofs.Checks.{left_pass, left_fail}
use borrow.Author.Tests.{le-leb, lt-leb, le-ltb, lt-ltb}
use lib.ListN.{length}
use mathlib.Core.Path.{refl}
use mathlib.Core.List.{List}
use Rattle.wire.specs.Numbers.{le_at}
use Prim.Native.Nat.{ℕ, ◌+◌, ◌-◌, ◌≤◌, ◌<◌}
use native.Mathlib.Omega.{arith}
use Rattle.sections.proofs.section_at.Goals as goal

-- what is asked of a section before its rules: what is left to ask after each
module _ (l : List (List ℕ)) (s : List ℕ) (at : ℕ) (h : 16 ≤ length s - at) where
  left_headed : Framing l s at 1
  left_headed = left_pass (framing_all l s at) (le-leb 16 (length s - at) h)

  module _ (seen : List ℕ) (n : ℕ) (k : Marks seen l n) (f : n < 64) where
    left_few : Framing l s at 2
    left_few = left_pass left_headed (lt-ltb (length l) 64 (omega (arith, k.count)))

    left_whole : le_at 8 s (at + 8) ≤ length s - at - 16 → Framing l s at 3
    left_whole w = left_pass left_few (le-leb (le_at 8 s (at + 8)) (length s - at - 16) w)

pub returns-then-s-at-lt16 : goal.returns-then-s-at-lt16
returns-then-s-at-lt16 c = let a = c.args in λ l k. keeps_stop (left_fail (framing_all l a.s.now a.at) (lt-leb _ _ c.if-s-at-lt16.true)) refl

pub returns-then-n-ge-SECTIONS_MOST : goal.returns-then-n-ge-SECTIONS_MOST
returns-then-n-ge-SECTIONS_MOST c = let a = c.args in λ l k. keeps_stop (left_fail (left_headed l a.s.now a.at c.if-s-at-lt16.false) (le-ltb (length l) 64 (omega (arith, k.count)))) refl

pub returns-then-left-w : goal.returns-then-left-w
returns-then-left-w c = let a = c.args in
    λ l k.
    keeps_stop (left_fail (left_few l a.s.now a.at c.if-s-at-lt16.false a.seen.now a.n k (omega arith))
    (lt-leb (le_at 8 a.s.now (a.at + 8)) (length a.s.now - a.at - 16) (omega (arith, c.u64_at-w.ensures)))) refl

pub returns : goal.returns
returns c = let a = c.args in
    λ l k.
    let whole = left_whole l a.s.now a.at c.if-s-at-lt16.false a.seen.now a.n k (omega arith) (omega (arith, c.u64_at-w.ensures)) in
    section_rules l a.s.now a.at whole (length a.index.now) c.u64_at-w.ensures (c.judged.ensures l a.n k)
