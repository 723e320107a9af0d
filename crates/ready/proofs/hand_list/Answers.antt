use mathlib.Core.Path.{refl}
use Rattle.ready.proofs.Exits.{list_done}
use Rattle.ready.proofs.hand_list.Goals as goal

pub returns : goal.returns
returns c = list_done _ _ c.put_missing-n.ensures c.in_ok-roomy.ensures refl c.copy.ensures
