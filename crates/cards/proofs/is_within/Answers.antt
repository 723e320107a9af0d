use Rattle.cards.proofs.Moves.{stays_up, stays_down}
use mathlib.Core.Path.{◌∙◌}
use Rattle.cards.proofs.is_within.Goals as goal

pub returns-then-a-b : goal.returns-then-a-b
returns-then-a-b c = let a = c.args in c.is_raised.ensures ∙ stays_up a.lo a.hi a.n a.a a.b c.if-a-b.true

pub returns : goal.returns
returns c = let a = c.args in c.is_lowered.ensures ∙ stays_down a.lo a.hi a.n a.a a.b c.if-a-b.false
