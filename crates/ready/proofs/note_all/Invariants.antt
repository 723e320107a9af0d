use Rattle.ready.specs.Steps.{Stands}
use Rattle.ready.proofs.Walks.{Passing}
use Rattle.entries.specs.Code.{describe}
use mathlib.Core.Path.{◌≡◌}
use mathlib.Core.List.{List}
use Prim.Native.Nat.{ℕ, ◌+◌, ◌≤◌}
use lib.ListN.{length}
use Rattle.ready.proofs.note_all.Given as goal

abbrev pub invariant-loop : goal.invariant-loop
invariant-loop l = (length l.notes ≡ length l.initial.notes) × (l.at ≤ length l.list + 4) × ((m : List (List ℕ)) → Stands (describe l.kind) l.list m → Passing (describe l.kind) l.list m l.n l.initial.notes l.notes l.at l.counter)
