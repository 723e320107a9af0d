use Rattle.registers.proofs.Arrays.{filled_none, filled_next}
use Rattle.registers.proofs.Places.{read_short}
use Rattle.wire.specs.Numbers.{le_at}
use mathlib.Core.Path.{ap, ◌∙◌}
use Prim.Native.Nat.{◌+◌, ◌*◌}
use native.Mathlib.Omega.{arith}
use Rattle.registers.proofs.words.Goals as goal

pub loop-i-init : goal.loop-i-init
loop-i-init c = filled_none _ c.args.a.now

pub loop-i-preserved : goal.loop-i-preserved
loop-i-preserved c =
    let x = c.args in
    let s = x.s.now in
    filled_next _ c.loop-i.i c.loop-i.a c.u64_at.result c.loop-i.invariant (omega arith) (read_short s (c.loop-i.i * 8 + x.at) (c.u64_at.ensures ∙ ap (le_at 8 s) c.start_of.ensures))
