use Rattle.answer.specs.Outcome.{taken}
use Rattle.answer.proofs.Outcomes.{passes}
use Rattle.region.specs.Region.{ring_checks}
use Rattle.answer.proofs.Each.{each_none, each_next, each_stop, each-done}
use Rattle.answer.proofs.Checks.{asked-pass}
use Rattle.std.proofs.Common.{sym, arith}
use Rattle.region.proofs.ring_headers.Goals as goal

pub loop-i-init : goal.loop-i-init
loop-i-init c = each_none (ring_checks c.args.s.now)

pub returns-in_err-ring_header : goal.returns-in_err-ring_header
returns-in_err-ring_header c = let a = c.args in
    passes _ c.in_err-ring_header.field-0.0 c.from_residual.ensures.1 (sym (each_stop (ring_checks a.s.now) c.loop-i.i a.n (taken tt) (omega arith) c.loop-i.invariant (sym c.in_err-ring_header.ensures)))

pub loop-i-preserved : goal.loop-i-preserved
loop-i-preserved c = let a = c.args in
    each_next (ring_checks a.s.now) c.loop-i.i c.loop-i.invariant (asked-pass (ring_checks a.s.now c.loop-i.i) c.in_ok-ring_header.ensures)

pub returns : goal.returns
returns c = let a = c.args in
    each-done (ring_checks a.s.now) c.loop-i.i a.n (omega arith) (omega arith) c.loop-i.invariant
