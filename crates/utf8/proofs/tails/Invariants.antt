use Prim.Native.Nat.{◌-◌}
use Rattle.utf8.proofs.Turns.{Came}
use Rattle.utf8.proofs.tails.Given as goal

abbrev pub invariant-loop : goal.invariant-loop
invariant-loop l = Came l.s l.i l.n l.at (l.n - l.counter)
