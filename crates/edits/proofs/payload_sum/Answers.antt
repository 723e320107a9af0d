use borrow.Author.Rules.{rules}
use Rattle.edits.proofs.Summing.{summing_start, summing_fits, summing_next, summing_done}
use native.Mathlib.Omega.{arith}
use Rattle.edits.proofs.payload_sum.Goals as goal

pub loop-start-init : goal.loop-start-init
loop-start-init c = summing_start c.requires

pub overflow_add-n : goal.overflow_add-n
overflow_add-n c = search (rules, summing_fits)

pub loop-start-preserved : goal.loop-start-preserved
loop-start-preserved c = search (rules, summing_next)

pub returns : goal.returns
returns c = summing_done c.loop-start.invariant c.loop-start-test.false
