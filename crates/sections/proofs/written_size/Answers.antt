use borrow.Author.Tests.{eq-eqb, ne_eqb}
use mathlib.Core.Path.{sym, ◌∙◌}
use Rattle.sections.proofs.written_size.Goals as goal

pub returns-then-not-is_list : goal.returns-then-not-is_list
returns-then-not-is_list c = rw (sym c.is_list.ensures ∙ c.if-not-is_list.true)

pub returns-then-w-eq20 : goal.returns-then-w-eq20
returns-then-w-eq20 c = rw (sym c.is_list.ensures ∙ c.if-not-is_list.false, eq-eqb _ 20 c.if-w-eq20.true)

pub returns : goal.returns
returns c = rw (sym c.is_list.ensures ∙ c.if-not-is_list.false, ne_eqb _ 20 c.if-w-eq20.false)
