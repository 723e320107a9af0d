use Rattle.sheet.specs.Vectors.{rows}
use lib.ListN.{length, take, drop}
use mathlib.Core.Path.{◌≡◌}
use Rattle.sheet.proofs.vectors.Given as goal

abbrev pub invariant-loop-i : goal.invariant-loop-i
invariant-loop-i l = (length l.row-items ≡ 16) × (take l.i l.row-items ≡ rows l.i (drop l.at l.s))
