use Rattle.answer.proofs.Outcomes.{passes}
use Rattle.format.specs.Format.{option, pair, bytes, text}
use Rattle.format.proofs.Exits.{pair_stop, pair_next}
use Rattle.payloads.proofs.fields.Goals as goal

pub returns-in_err-e : goal.returns-in_err-e
returns-in_err-e c = let a = c.args in passes _ c.in_err-e.field-0.0 c.from_residual.ensures.1 (pair_stop a.s.now 0 (bytes 8) (pair (option (bytes 8)) (pair (bytes 8) (option (text 4096)))) c.in_err-e.ensures)

pub returns : goal.returns
returns c = let a = c.args in pair_next a.s.now 0 (bytes 8) (pair (option (bytes 8)) (pair (bytes 8) (option (text 4096)))) c.in_ok-e.ensures c.since_at.ensures
