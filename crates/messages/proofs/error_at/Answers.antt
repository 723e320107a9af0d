use mathlib.Core.Path.{sym, ◌∙◌}
use borrow.Author.Tests.{eq-eqb, ne_eqb}
use Rattle.wire.specs.Numbers.{le_at, le}
use Rattle.messages.proofs.error_at.Goals as goal

pub returns-then-u8_at-eq0 : goal.returns-then-u8_at-eq0
returns-then-u8_at-eq0 c = rw (eq-eqb _ _ (sym c.u8_at.ensures ∙ c.if-u8_at-eq0.true)) c.u32_at.ensures

pub returns : goal.returns
unfolding le le_at
returns c = rw (ne_eqb _ _ (λ e. c.if-u8_at-eq0.false (c.u8_at.ensures ∙ e)))
