use Rattle.answer.proofs.Outcomes.{handed_on}
use Rattle.sections.proofs.Headers.{stopped_first}
use Rattle.sections.proofs.behind_header.Goals as goal

pub walk-requires : goal.walk-requires
walk-requires c = let p = c.requires in (p.0, p.1, c.in_ok-may_write.ensures)

pub returns-in_err-may_write : goal.returns-in_err-may_write
returns-in_err-may_write c = rw (handed_on _ c.in_err-may_write.field-0.0 c.from_residual.ensures.1) (stopped_first c.in_err-may_write.ensures)
