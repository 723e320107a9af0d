use Rattle.sections.proofs.Needed.{parts_placed}
use mathlib.Core.Path.{sym, ◌∙◌}
use native.Mathlib.Omega.{arith}
use Rattle.edits.proofs.edit_placed.Goals as goal

pub edit_with-requires : goal.edit_with-requires
edit_with-requires c = record { holds = parts_placed c.args.file.now (sym c.in-Few.is ∙ c.places_for.ensures); few = omega arith }

pub edit_with-requires-in-Some : goal.edit_with-requires-in-Some
edit_with-requires-in-Some c = record { holds = parts_placed c.args.file.now (sym c.in-Some.is ∙ c.places_for.ensures); few = omega arith }

pub edit_with-requires-in-All : goal.edit_with-requires-in-All
edit_with-requires-in-All c = record { holds = parts_placed c.args.file.now (sym c.in-All.is ∙ c.places_for.ensures); few = omega arith }
