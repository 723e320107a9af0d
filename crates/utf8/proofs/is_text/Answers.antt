use mathlib.Core.Path.{sym, ◌∙◌}
use Rattle.utf8.proofs.Reading.{reads_is}
use Rattle.utf8.proofs.is_text.Goals as goal

pub returns : goal.returns
returns c = c.is_ok.ensures.value ∙ sym (reads_is _ c.text.result c.text.ensures)
