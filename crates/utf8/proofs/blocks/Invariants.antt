use Rattle.std.proofs.Common.{◌≡◌, [], drop}
use Rattle.utf8.specs.Steps.{Passes}
use Rattle.std.specs.Slice.Iter.{chunks_exact_rest, chunks_exact_size}
use Rattle.utf8.proofs.blocks.Given as goal

abbrev pub invariant-loop-block : goal.invariant-loop-block
invariant-loop-block l =
    (goal.iterator-loop-block).can_next l.block-iterator ×
    (goal.iterator-loop-block).is_finite l.block-iterator
    × (chunks_exact_rest l.block-iterator ≡ drop l.at l.s) × (chunks_exact_size l.block-iterator ≡ 32) × Passes l.s l.i [] l.at
