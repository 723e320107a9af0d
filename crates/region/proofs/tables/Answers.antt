use Rattle.answer.proofs.Outcomes.{passes}
use Rattle.region.proofs.Cases.{tables_stop, tables_on}
use Rattle.std.proofs.Common.{◌∙◌}
use Rattle.region.proofs.tables.Goals as goal

pub returns-in_err-descriptors : goal.returns-in_err-descriptors
returns-in_err-descriptors c =
    passes _ c.in_err-descriptors.field-0.0 c.from_residual.ensures.1 (tables_stop c.args.s.now (rw c.u32_at-n.ensures at c.in_err-descriptors.ensures))

pub returns : goal.returns
returns c = rw c.u32_at-n.ensures at c.ring_headers.ensures ∙ tables_on c.args.s.now (rw c.u32_at-n.ensures at c.in_ok-descriptors.ensures)
