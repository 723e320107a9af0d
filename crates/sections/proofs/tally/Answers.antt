use lib.Seq.{get_or-set_other}
use lib.ListN.{get_or}
use Prim.Native.Nat.{◌+◌}
use native.Mathlib.Omega.{arith}
use Rattle.sections.proofs.Seats.{tallied-stored}
use Rattle.sections.proofs.tally.Goals as goal

pub overflow_add-dir-2 : goal.overflow_add-dir-2
overflow_add-dir-2 c = omega (arith, c.requires.2, get_or-set_other c.args.dir.now 17 18 (get_or c.args.dir.now 17 0 + c.one_of.result) 0 (λ z. omega arith))

pub returns : goal.returns
returns c = tallied-stored c.args.dir.now c.args.size c.one_of.ensures.0
