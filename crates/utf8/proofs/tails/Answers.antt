use native.Mathlib.Omega.{arith}
use Rattle.utf8.proofs.Turns.{came_whole, came_end, came_out, came_in}
use Rattle.utf8.proofs.tails.Goals as goal

pub returns-in_default : goal.returns-in_default
returns-in_default c = let h = c.in-Some.ensures.lookup.3 in came_out c.loop.invariant (omega arith) h.0 (omega (arith, h.1 0))

pub returns-in_default-2 : goal.returns-in_default-2
returns-in_default-2 c = let h = c.in-Some.ensures.lookup.3 in came_out c.loop.invariant (omega arith) h.0 (omega (arith, h.1 0))

pub returns-in_default-3 : goal.returns-in_default-3
returns-in_default-3 c = let h = rw c.in_default.is at c.get.ensures.lookup in came_end c.loop.invariant (omega arith) h.3

pub loop-preserved : goal.loop-preserved
loop-preserved c = let h = c.in-Some.ensures.lookup.3 in came_in c.loop.invariant (omega arith) h.0 (record { low = omega (arith, h.1 0); high = omega (arith, h.1 0) })

pub returns : goal.returns
returns c = came_whole c.loop.invariant (omega arith)
