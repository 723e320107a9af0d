use Rattle.answer.specs.Outcome.{taken}
use Rattle.region.specs.Region.{apart_check}
use Rattle.answer.proofs.Each.{each_none, each_next, each_stop, each-done}
use Rattle.region.proofs.Cases.{apart_pass, apart_fail}
use Rattle.std.proofs.Common.{sym, arith}
use Rattle.region.proofs.clear.Goals as goal

pub loop-j-init : goal.loop-j-init
loop-j-init c = each_none (apart_check c.args.s.now c.args.i)

pub loop-j-preserved : goal.loop-j-preserved
loop-j-preserved c = let a = c.args in
    each_next (apart_check a.s.now a.i) c.loop-j.j c.loop-j.invariant (apart_pass a.s.now a.i c.loop-j.j c.are_apart.ensures c.if-not-are_apart.false)

pub returns-then-not-are_apart : goal.returns-then-not-are_apart
returns-then-not-are_apart c = let a = c.args in
    sym (each_stop (apart_check a.s.now a.i) c.loop-j.j a.i (taken tt) (omega arith) c.loop-j.invariant (apart_fail a.s.now a.i c.loop-j.j c.are_apart.ensures c.if-not-are_apart.true))

pub returns : goal.returns
returns c = let a = c.args in
    each-done (apart_check a.s.now a.i) c.loop-j.j a.i (omega arith) (omega arith) c.loop-j.invariant
