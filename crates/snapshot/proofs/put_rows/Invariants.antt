use Rattle.snapshot.proofs.Walks.{Rowing}
use Rattle.aerosnap.specs.File.{file_of}
use Rattle.answer.specs.Outcome.{taken}
use lib.ListN.{length}
use Prim.Native.Nat.{ℕ, ◌-◌}
use mathlib.Core.List.{List}
use mathlib.Core.Path.{◌≡◌}
use Rattle.snapshot.proofs.put_rows.Given as goal

abbrev pub invariant-loop-at : goal.invariant-loop-at
invariant-loop-at l = (r : List (List ℕ)) → file_of l.file ≡ taken r → Rowing l.file r l.at l.t l.q l.initial.out l.out

abbrev pub decreases-loop-at : goal.decreases-loop-at
decreases-loop-at l = length l.file - l.at
