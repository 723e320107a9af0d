use Rattle.registers.specs.Registers.{gather}
use Rattle.wire.specs.Numbers.{le_at}
use mathlib.Core.Path.{◌≡◌}
use Prim.Native.Nat.{ℕ, ◌+◌, ◌*◌}
use lib.ListN.{take}
use Rattle.registers.proofs.words.Given as goal

abbrev pub invariant-loop-i : goal.invariant-loop-i
invariant-loop-i l = take l.i l.a ≡ gather (λ (k : ℕ). le_at 8 l.s (k * 8 + l.at)) l.i
