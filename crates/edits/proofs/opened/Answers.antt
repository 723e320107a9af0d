use Rattle.sections.proofs.Needed.{parts_placed}
use mathlib.Core.Path.{sym, ◌∙◌}
use native.Mathlib.Omega.{arith}
use Rattle.edits.proofs.opened.Goals as goal

pub open_with-requires : goal.open_with-requires
open_with-requires c = record { holds = parts_placed c.args.file.now (sym c.in-Few.is ∙ c.places_for.ensures); few = omega arith }

pub open_with-requires-in-Some : goal.open_with-requires-in-Some
open_with-requires-in-Some c = record { holds = parts_placed c.args.file.now (sym c.in-Some.is ∙ c.places_for.ensures); few = omega arith }

pub open_with-requires-in-All : goal.open_with-requires-in-All
open_with-requires-in-All c = record { holds = parts_placed c.args.file.now (sym c.in-All.is ∙ c.places_for.ensures); few = omega arith }
