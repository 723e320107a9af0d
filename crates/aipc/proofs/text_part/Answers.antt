use Rattle.std.proofs.Common.{Ok, Err}
use native.Mathlib.Omega.{arith}
use Prim.Native.Nat.{◌-◌}
use lib.ListN.{drop, length-take}
use Rattle.utf8.proofs.Reading.{reads_moved, reads_within}
use Rattle.aipc.proofs.text_part.Goals as goal

pub overflow_add-result : goal.overflow_add-result
overflow_add-result c = let a = c.args in
    let k = reads_within _ c.text.result c.text.ensures c.in-Err.is in
    omega (arith, c.requires, k, length-take (a.end - a.start) (drop a.start a.m.now))

pub returns-in-Ok : goal.returns-in-Ok
returns-in-Ok c = reads_moved c.args.start _ (Ok tt) c.in-Ok.ensures

pub returns-in-Err : goal.returns-in-Err
returns-in-Err c = reads_moved c.args.start _ (Err c.in-Err.k) c.in-Err.ensures
