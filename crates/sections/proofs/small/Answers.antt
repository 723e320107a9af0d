use borrow.Author.Tests.{eq-eqb, ne_eqb}
use Rattle.sections.proofs.small.Goals as goal

pub returns-then-id-eq4 : goal.returns-then-id-eq4
returns-then-id-eq4 c = rw (eq-eqb c.args.id 4 c.if-id-eq4.true)

pub returns : goal.returns
returns c = rw (ne_eqb c.args.id 4 c.if-id-eq4.false)
