use mathlib.Core.Path.{refl}
use mathlib.Core.Logic.{inl}
use Rattle.std.proofs.Common.{Ok, Err}
use Rattle.answer.proofs.Outcomes.{handed_on}
use Rattle.sections.specs.Steps.{walked_from}
use Rattle.sections.proofs.Headers.{judged_first}
use Rattle.sections.proofs.may_write.Goals as goal

pub returns-then-blank : goal.returns-then-blank
returns-then-blank c = inl (c.blank.ensures.0 c.if-blank.true)

pub walk-requires : goal.walk-requires
walk-requires c = let p = c.requires in (p.0, p.1, inl refl)

pub returns-in_err-walk : goal.returns-in_err-walk
returns-in_err-walk c = let a = c.args in
    rw (handed_on _ c.in_err-walk.field-0.0 c.from_residual.ensures.1) (judged_first (walked_from a.s.now) a.index.now (Err c.in_err-walk.field-0.0) c.in_err-walk.ensures.answers)

pub returns : goal.returns
returns c = let a = c.args in judged_first (walked_from a.s.now) a.index.now (Ok c.in_ok-walk.field-0) c.in_ok-walk.ensures.answers
