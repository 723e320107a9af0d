use Rattle.region.specs.Region.{count_of}
use Rattle.region.specs.Steps.{Below, Right}
use Rattle.std.proofs.Common.{◌+◌, ◌*◌, ◌≤◌}
use Rattle.region.proofs.are_right.Given as goal

abbrev pub invariant-loop-i : goal.invariant-loop-i
invariant-loop-i l = (16 + 16 * count_of l.s ≤ l.top) × Below l.s l.i l.top × Right l.s l.i
