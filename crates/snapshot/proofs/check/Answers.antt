use Rattle.answer.proofs.Outcomes.{verdict-done}
use Rattle.aerosnap.specs.File.{file_of}
use mathlib.Core.Path.{◌∙◌}
use Rattle.snapshot.proofs.check.Goals as goal

pub returns : goal.returns
returns c = c.from.ensures ∙ verdict-done (file_of c.args.file.now) c.faults.result c.faults.ensures
