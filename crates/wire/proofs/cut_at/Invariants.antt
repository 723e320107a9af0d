use Rattle.wire.specs.Numbers.{le_at}
use Rattle.std.proofs.Common.{◌≡◌, ◌-◌, ◌≤◌, length}
use Rattle.wire.proofs.cut_at.Given as goal

abbrev pub invariant-loop-i : goal.invariant-loop-i
invariant-loop-i l = (length l.s - l.i ≤ length l.s - l.at) × (l.x ≡ le_at 8 l.s l.i)
