use mathlib.Core.Path.{◌≡◌}
use Prim.Native.Nat.{◌+◌}
use Rattle.messages.specs.Fields.{field_width}
use Rattle.messages.specs.Reading.{numbers_end}
use Rattle.aipc.proofs.Walks.{end_sum}
use native.Mathlib.Omega.{arith}
use Rattle.aipc.proofs.numbers_end.Goals as goal

pub returns : goal.returns
returns c = let f = c.args.f in let ok = c.ok-ok.result in
    let s : numbers_end f ≡ 2 + field_width ok f.a.0 + field_width ok f.b.0 + field_width ok f.c.0 + field_width ok f.d.0 = rw c.ok-ok.ensures (end_sum f) in
    (omega (arith, s), omega arith)
