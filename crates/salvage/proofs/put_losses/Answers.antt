use Rattle.salvage.proofs.Rescuing.{records_none, records_made}
use mathlib.Core.Path.{sym, ◌∙◌}
use Rattle.salvage.proofs.put_losses.Goals as goal

pub returns-then-lost-eq0 : goal.returns-then-lost-eq0
returns-then-lost-eq0 c = records_none c.args.file.now c.requires.0 c.args.losses.now (sym c.requires.2 ∙ c.if-lost-eq0.true)

pub returns : goal.returns
returns c = records_made c.args.file.now c.requires.0 c.args.losses.now c.requires.1 c.requires.3 c.divide.ensures
