use Rattle.cards.proofs.Moves.{between, below, falls}
use native.Mathlib.Omega.{arith}
use Prim.Native.Nat.{◌+◌}
use Rattle.cards.proofs.is_lowered.Goals as goal

pub returns-then-n-lo : goal.returns-then-n-lo
returns-then-n-lo c = let a = c.args in below (a.lo + a.d) (a.hi + a.d) a.n (omega arith)

pub returns-then-hi-n : goal.returns-then-hi-n
returns-then-hi-n c = let a = c.args in falls a.lo a.hi a.d a.n c.if-hi-n.true (omega arith)

pub returns : goal.returns
returns c = let a = c.args in between (a.lo + a.d) (a.hi + a.d) a.n (omega arith) (omega arith)
