use Rattle.cards.proofs.Moves.{between, above, rises}
use native.Mathlib.Omega.{arith}
use Prim.Native.Nat.{◌+◌}
use Rattle.cards.proofs.is_raised.Goals as goal

pub returns-then-hi-n : goal.returns-then-hi-n
returns-then-hi-n c = let a = c.args in above a.lo a.hi (a.n + a.d) (omega (arith, c.if-hi-n.true))

pub returns-then-hi-n-2 : goal.returns-then-hi-n-2
returns-then-hi-n-2 c = let a = c.args in above a.lo a.hi (a.n + a.d) (omega (arith, c.if-hi-n.false, c.if-hi-n-2.true))

pub returns-then-n-lo : goal.returns-then-n-lo
returns-then-n-lo c = let a = c.args in rises a.lo a.hi a.d a.n c.if-n-lo.true (omega (arith, c.if-hi-n.false, c.if-hi-n-2.false))

pub returns : goal.returns
returns c = let a = c.args in between a.lo a.hi (a.n + a.d) (omega (arith, c.if-n-lo.false)) (omega (arith, c.if-hi-n.false, c.if-hi-n-2.false))
