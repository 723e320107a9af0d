use native.Mathlib.Omega.{arith}
use Rattle.format.proofs.Exits.{block_short, block_done}
use Rattle.format.proofs.block_at.Goals as goal

pub returns-then-left-n : goal.returns-then-left-n
returns-then-left-n c = let a = c.args in block_short a.s.now a.at a.n (omega arith)

pub returns : goal.returns
returns c = let a = c.args in block_done a.s.now a.at a.n (omega arith)
