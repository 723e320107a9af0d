use Rattle.sections.proofs.Needed.{starts-placed}
use mathlib.Core.Path.{sym, ◌∙◌}
use native.Mathlib.Omega.{arith}
use Rattle.snapshot.proofs.placed_table.Goals as goal

pub list_table_with-requires : goal.list_table_with-requires
list_table_with-requires c = record { is_list = c.requires; places = (starts-placed c.args.file.now (sym c.in-Few.is ∙ c.places_for.ensures), omega arith) }

pub list_table_with-requires-in-Some : goal.list_table_with-requires-in-Some
list_table_with-requires-in-Some c = record { is_list = c.requires; places = (starts-placed c.args.file.now (sym c.in-Some.is ∙ c.places_for.ensures), omega arith) }

pub list_table_with-requires-in-All : goal.list_table_with-requires-in-All
list_table_with-requires-in-All c = record { is_list = c.requires; places = (starts-placed c.args.file.now (sym c.in-All.is ∙ c.places_for.ensures), omega arith) }
