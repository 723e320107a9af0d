use Rattle.sections.proofs.Needed.{parts_placed}
use mathlib.Core.Path.{sym, ◌∙◌}
use native.Mathlib.Omega.{arith}
use Rattle.edits.proofs.add_placed.Goals as goal

pub add_with-requires : goal.add_with-requires
add_with-requires c = record { holds = parts_placed c.args.file.now (sym c.in-Few.is ∙ c.places_for.ensures); few = omega arith }

pub add_with-requires-in-Some : goal.add_with-requires-in-Some
add_with-requires-in-Some c = record { holds = parts_placed c.args.file.now (sym c.in-Some.is ∙ c.places_for.ensures); few = omega arith }

pub add_with-requires-in-All : goal.add_with-requires-in-All
add_with-requires-in-All c = record { holds = parts_placed c.args.file.now (sym c.in-All.is ∙ c.places_for.ensures); few = omega arith }
