use Rattle.answer.specs.Outcome.{taken}
use Rattle.answer.proofs.Outcomes.{passes}
use Rattle.region.specs.Region.{descriptor_checks}
use Rattle.region.proofs.Cases.{below_next}
use Rattle.answer.proofs.Each.{each_none, each_next, each_stop, each-done}
use Rattle.answer.proofs.Checks.{asked-pass}
use Rattle.std.proofs.Common.{sym, arith}
use Rattle.region.proofs.descriptors.Goals as goal

pub loop-i-init : goal.loop-i-init
loop-i-init c = (each_none (descriptor_checks c.args.s.now), λ j l. absurd (omega arith))

pub returns-in_err-descriptor : goal.returns-in_err-descriptor
returns-in_err-descriptor c = let a = c.args in
    passes _ c.in_err-descriptor.field-0.0 c.from_residual.ensures.1 (sym (each_stop (descriptor_checks a.s.now) c.loop-i.i a.n (taken tt) (omega arith) c.loop-i.invariant.0 (sym c.in_err-descriptor.ensures)))

pub loop-i-preserved : goal.loop-i-preserved
loop-i-preserved c = let a = c.args in (
  each_next (descriptor_checks a.s.now) c.loop-i.i c.loop-i.invariant.0 (asked-pass (descriptor_checks a.s.now c.loop-i.i) c.in_ok-descriptor.ensures),
  below_next a.s.now c.loop-i.i c.loop-i.top _ c.loop-i.invariant.1 (omega arith, omega arith),
)

pub returns : goal.returns
returns c = let a = c.args in
    each-done (descriptor_checks a.s.now) c.loop-i.i a.n (omega arith) (omega arith) c.loop-i.invariant.0
