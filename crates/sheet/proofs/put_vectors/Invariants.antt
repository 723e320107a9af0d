use Rattle.sheet.specs.Vectors.{joined}
use Rattle.wire.specs.Parts.{Wrote}
use mathlib.Core.List.{◌++◌}
use Prim.Native.Nat.{◌+◌, ◌*◌}
use lib.ListN.{take}
use Rattle.sheet.proofs.put_vectors.Given as goal

abbrev pub invariant-loop-i : goal.invariant-loop-i
invariant-loop-i l = Wrote (take l.at l.initial.s ++ joined (take l.i l.a)) l.initial.s l.s (l.at + l.i * 16)
