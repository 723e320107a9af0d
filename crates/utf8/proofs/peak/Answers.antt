use lib.ListN.{length}
use Prim.Native.Nat.{◌-◌, ◌%◌}
use Rattle.utf8.proofs.Tops.{covered}
use native.Mathlib.Omega.{arith}
use Rattle.utf8.proofs.peak.Goals as goal

pub returns-then-n-lt32 : goal.returns-then-n-lt32
returns-then-n-lt32 c = covered c.args.s.now 16 16 (omega (arith, c.if-n-lt16.false)) (omega (arith, c.if-n-lt32.true)) c.highest-then-n-lt32.ensures c.highest-then-n-lt32-2.ensures (omega arith, omega arith)

pub returns : goal.returns
returns c = let s = c.args.s.now in covered s (length s - length s % 32) 32 (omega (arith, c.if-n-lt32.false)) (omega arith) c.highest-2.ensures c.highest-3.ensures (omega arith, omega arith)
