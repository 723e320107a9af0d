use Rattle.registers.specs.Registers.{gather, segment_in}
use mathlib.Core.Path.{◌≡◌}
use Prim.Native.Nat.{ℕ, ◌+◌, ◌*◌}
use lib.ListN.{length, take}
use Rattle.sheet.proofs.segments.Given as goal

abbrev pub invariant-loop-i : goal.invariant-loop-i
invariant-loop-i l = (length l.segment-items ≡ 6) × (take l.i l.segment-items ≡ gather (λ (k : ℕ). segment_in l.s (k * 18 + 146)) l.i)
