use Rattle.answer.proofs.Outcomes.{passes}
use Rattle.format.specs.Format.{pair, bytes, text}
use Rattle.format.proofs.Exits.{pair_stop, pair_next}
use Rattle.entries.proofs.disk_at.Goals as goal

pub returns-in_err-e : goal.returns-in_err-e
returns-in_err-e c = let a = c.args in passes _ c.in_err-e.field-0.0 c.from_residual.ensures.1 (pair_stop a.s.now a.at (bytes 4) (pair (text 65536) (text 65536)) c.in_err-e.ensures)

pub returns : goal.returns
returns c = let a = c.args in pair_next a.s.now a.at (bytes 4) (pair (text 65536) (text 65536)) c.in_ok-e.ensures c.texts_at.ensures
