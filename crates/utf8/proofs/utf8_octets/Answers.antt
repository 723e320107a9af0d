use mathlib.Core.Path.{◌∙◌}
use Rattle.answer.proofs.Outcomes.{handed_on}
use native.Mathlib.Omega.{arith}
use Rattle.utf8.proofs.Table.{hit}
use Rattle.utf8.proofs.Turns.{passes_then, passes_first, reaches_ends, reaches_breaks, octets_whole, octets_broken}
use Rattle.utf8.proofs.utf8_octets.Goals as goal

pub loop-i-preserved-then-s-i-lt128 : goal.loop-i-preserved-then-s-i-lt128
loop-i-preserved-then-s-i-lt128 c = passes_then c.loop-i.invariant
    (passes_first (omega arith) (hit 0 _ (omega arith)) c.ascii-i.ensures)

pub returns-in_err-i : goal.returns-in_err-i
returns-in_err-i c = handed_on _ c.in_err-i.field-0.0 c.from_residual.ensures.1 ∙ octets_broken c.loop-i.invariant (reaches_breaks c.utf8_char.ensures c.in_err-i.was)

pub loop-i-preserved : goal.loop-i-preserved
loop-i-preserved c = passes_then c.loop-i.invariant (reaches_ends c.utf8_char.ensures c.in_ok-i.was).0

pub returns : goal.returns
returns c = octets_whole c.loop-i.invariant (omega arith)
