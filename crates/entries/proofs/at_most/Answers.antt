use Rattle.format.proofs.Listed.{listed_all, listed-none, row_high, row_in}
use native.Mathlib.Omega.{arith}
use Rattle.entries.proofs.at_most.Goals as goal

pub returns-then-most-u8_at : goal.returns-then-most-u8_at
returns-then-most-u8_at c = row_high (listed_all _ c.args.state.now) c.u8_at.ensures c.if-most-u8_at.true

pub returns : goal.returns
returns c = listed-none (row_in (listed_all _ c.args.state.now) c.u8_at.ensures (omega arith) c.if-most-u8_at.false)
