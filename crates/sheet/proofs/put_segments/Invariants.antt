use Rattle.registers.specs.Registers.{in_turn, segment_over, no_segment}
use mathlib.Core.Path.{◌≡◌}
use Prim.Native.Nat.{ℕ, ◌+◌, ◌*◌}
use lib.ListN.{get_or}
use Rattle.sheet.proofs.put_segments.Given as goal

abbrev pub invariant-loop-i : goal.invariant-loop-i
invariant-loop-i l = l.s ≡ in_turn (λ (k : ℕ). segment_over (k * 18 + 146) (get_or l.a k no_segment)) l.i l.initial.s
