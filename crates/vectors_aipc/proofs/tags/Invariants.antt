-- no more tags are counted than were looked at
use Rattle.std.proofs.Common.{◌≤◌}
use Rattle.vectors_aipc.proofs.tags.Given as goal

abbrev pub invariant-loop-tag : goal.invariant-loop-tag
invariant-loop-tag g l = l.unknown ≤ l.tag
