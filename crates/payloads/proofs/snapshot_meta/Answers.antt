use Rattle.answer.proofs.Outcomes.{passes}
use Rattle.payloads.proofs.Bodies.{meta_stop, meta_done}
use Rattle.payloads.proofs.snapshot_meta.Goals as goal

pub returns-in_err-fields : goal.returns-in_err-fields
returns-in_err-fields c = let a = c.args in passes _ c.in_err-fields.field-0.0 c.from_residual.ensures.1 (meta_stop a.p.now c.in_err-fields.ensures)

pub returns : goal.returns
returns c = let a = c.args in meta_done a.p.now c.in_ok-fields.ensures
