use Rattle.sections.proofs.Turns.{noted_not, noted_one}
use mathlib.Core.Path.{sym, ◌∙◌}
use Rattle.sections.proofs.note.Goals as goal

pub slot-k-requires : goal.slot-k-requires
slot-k-requires c = sym c.known.ensures ∙ c.if-known.true

pub returns-then-known : goal.returns-then-known
returns-then-known c = let a = c.args in λ l n e d h. noted_one a.seen.now l n a.id e d h c.slot-k.result c.slot-k.ensures.0 c.slot-k.ensures.2

pub returns-else-known : goal.returns-else-known
returns-else-known c = let a = c.args in λ l n e d h. noted_not a.seen.now l n a.id e d h (sym c.known.ensures ∙ c.if-known.false)
