use Rattle.registers.specs.Registers.{in_turn, at}
use mathlib.Core.Path.{◌≡◌}
use Prim.Native.Nat.{ℕ, ◌+◌, ◌*◌}
use lib.ListN.{get_or}
use Rattle.registers.proofs.put_words.Given as goal

abbrev pub invariant-loop-i : goal.invariant-loop-i
invariant-loop-i l = l.s ≡ in_turn (λ (k : ℕ). at (k * 8 + l.at) 8 (get_or l.a k 0)) l.i l.initial.s
