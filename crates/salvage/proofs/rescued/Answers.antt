use Rattle.sections.proofs.Needed.{parts_placed}
use mathlib.Core.Path.{sym, ◌∙◌}
use native.Mathlib.Omega.{arith}
use Rattle.salvage.proofs.rescued.Goals as goal

pub salvage_with-requires : goal.salvage_with-requires
salvage_with-requires c = record { holds = parts_placed c.args.file.now (sym c.in-Few.is ∙ c.places_for.ensures); few = omega arith }

pub salvage_with-requires-in-Some : goal.salvage_with-requires-in-Some
salvage_with-requires-in-Some c = record { holds = parts_placed c.args.file.now (sym c.in-Some.is ∙ c.places_for.ensures); few = omega arith }

pub salvage_with-requires-in-All : goal.salvage_with-requires-in-All
salvage_with-requires-in-All c = record { holds = parts_placed c.args.file.now (sym c.in-All.is ∙ c.places_for.ensures); few = omega arith }
