use Rattle.std.proofs.Common.{◌∙◌, arith}
use Rattle.wire.proofs.Numbers.{cut_none, cut_turn, cut_done}
use Rattle.wire.proofs.cut_at.Goals as goal

pub loop-i-init : goal.loop-i-init
loop-i-init c = (omega arith, cut_none _)

pub overflow_mul-x : goal.overflow_mul-x
overflow_mul-x c = let t = cut_turn c.args.s.now c.loop-i.i c.loop-i.x (λ i. (c.type_inv.s i).fits) (omega arith) (omega arith) c.loop-i.invariant.1 in omega arith

pub overflow_add-x : goal.overflow_add-x
overflow_add-x c = let t = cut_turn c.args.s.now c.loop-i.i c.loop-i.x (λ i. (c.type_inv.s i).fits) (omega arith) (omega arith) c.loop-i.invariant.1 in omega (arith, c.from.ensures)

pub loop-i-preserved : goal.loop-i-preserved
loop-i-preserved c = let t = cut_turn c.args.s.now c.loop-i.i c.loop-i.x (λ i. (c.type_inv.s i).fits) (omega arith) (omega arith) c.loop-i.invariant.1 in (omega arith, omega (arith, c.from.ensures))

pub returns : goal.returns
returns c = c.loop-i.invariant.1 ∙ cut_done _ _ _ (omega arith) (omega arith) (omega arith)
