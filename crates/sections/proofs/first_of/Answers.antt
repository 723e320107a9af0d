use Rattle.answer.proofs.Outcomes.{handed_on}
use Rattle.sections.proofs.Firsts.{reader_few, reader_many}
use mathlib.Core.Path.{refl}
use mathlib.Core.Logic.{inl, inr}
use lib.ListN.{drop, length-drop}
use native.Mathlib.Omega.{arith}
use Rattle.sections.proofs.first_of.Goals as goal

pub returns-in_err-first : goal.returns-in_err-first
returns-in_err-first c = rw (c.in_err-first.was, handed_on _ c.in_err-first.field-0.0 c.from_residual.ensures.1) refl

pub returns-then-n-lt-SECTIONS_MOST : goal.returns-then-n-lt-SECTIONS_MOST
returns-then-n-lt-SECTIONS_MOST c = let a = c.args in
    rw c.in_ok-first.was (record { fault = a.fault; is = refl; reader = λ l e q. reader_few l a.at (drop a.at a.s.now) (inl (omega (arith, e, c.if-n-lt-SECTIONS_MOST.true))) q })

pub returns-then-s-at-lt16 : goal.returns-then-s-at-lt16
returns-then-s-at-lt16 c = let a = c.args in
    rw c.in_ok-first.was (record { fault = a.fault; is = refl; reader = λ l e q. reader_few l a.at (drop a.at a.s.now) (inr (omega (arith, length-drop a.at a.s.now, c.if-s-at-lt16.true))) q })

pub returns : goal.returns
returns c = let a = c.args in
    rw c.in_ok-first.was (record { fault = _; is = refl; reader = λ l e q. reader_many l a.at (drop a.at a.s.now) (omega (arith, e, c.if-n-lt-SECTIONS_MOST.false)) (omega (arith, length-drop a.at a.s.now, c.if-s-at-lt16.false)) })
