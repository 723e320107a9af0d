use Rattle.messages.proofs.Lengths.{length_form}
use mathlib.Core.Path.{sym}
use Rattle.aipc.proofs.size.Goals as goal

pub returns : goal.returns
returns c = rw (c.numbers_end.ensures.0, c.body_size.ensures.0) (sym (length_form _ _))
