use lib.Seq.{paste}
use Rattle.std.proofs.Common.{◌≡◌, length}
use Rattle.wire.proofs.store.Given as goal

abbrev pub invariant-loop-i : goal.invariant-loop-i
invariant-loop-i g l = (l.out ≡ paste l.initial.out l.at l.b-items l.i) × (length l.out ≡ length l.initial.out)
