use native.Mathlib.Omega.{arith}
use Rattle.utf8.specs.Steps.{ends}
use Rattle.utf8.proofs.Table.{hit, miss}
use Rattle.utf8.proofs.Turns.{passes_here, begins, begins_none}
use Rattle.utf8.proofs.utf8_char.Goals as goal

pub returns-in-224 : goal.returns-in-224
returns-in-224 c = begins _ (omega arith) (hit 2 _ (omega arith)) c.then.ensures

pub returns-in-237 : goal.returns-in-237
returns-in-237 c = begins _ (omega arith) (hit 4 _ (omega arith)) c.then-in-237.ensures

pub returns-in-240 : goal.returns-in-240
returns-in-240 c = begins _ (omega arith) (hit 6 _ (omega arith)) c.then-in-240.ensures

pub returns-in-244 : goal.returns-in-244
returns-in-244 c = begins _ (omega arith) (hit 8 _ (omega arith)) c.then-in-244.ensures

pub returns-in-0-to-127 : goal.returns-in-0-to-127
returns-in-0-to-127 c = begins _ (omega arith) (hit 0 _ (omega arith)) (ends (passes_here _ (omega arith)) (omega arith))

pub returns-in-194-to-223 : goal.returns-in-194-to-223
returns-in-194-to-223 c = begins _ (omega arith) (hit 1 _ (omega arith)) c.tails.ensures

pub returns-in-225-to-236 : goal.returns-in-225-to-236
returns-in-225-to-236 c = begins _ (omega arith) (hit 3 _ (omega arith)) c.tails-in-225-to-236.ensures

pub returns-in-238-to-239 : goal.returns-in-238-to-239
returns-in-238-to-239 c = begins _ (omega arith) (hit 5 _ (omega arith)) c.tails-in-238-to-239.ensures

pub returns-in-241-to-243 : goal.returns-in-241-to-243
returns-in-241-to-243 c = begins _ (omega arith) (hit 7 _ (omega arith)) c.tails-in-241-to-243.ensures

pub returns-in_default : goal.returns-in_default
returns-in_default c = begins_none (omega arith) (miss _ (omega arith))

pub returns-in_default-2 : goal.returns-in_default-2
returns-in_default-2 c = begins_none (omega arith) (miss _ (omega arith))
