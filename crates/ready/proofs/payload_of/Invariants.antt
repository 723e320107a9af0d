use Rattle.ready.specs.Steps.{NamesSections}
use Rattle.ready.proofs.Walks.{Seeks}
use Rattle.std.proofs.Common.{◌≡◌, List, ℕ}
use Rattle.std.specs.Slice.Iter.{chunks_exact_rest, chunks_exact_size}
use Rattle.ready.proofs.payload_of.Given as goal

abbrev pub invariant-loop-row : goal.invariant-loop-row
invariant-loop-row l =
    (goal.iterator-loop-row).can_next l.row-iterator ×
    (goal.iterator-loop-row).is_finite l.row-iterator
    × (chunks_exact_size l.row-iterator ≡ 32) × ((k : List (List ℕ)) → NamesSections l.file k l.table → Seeks l.id l.file (chunks_exact_rest l.row-iterator) k)
