use Rattle.std.proofs.Common.{◌∙◌, arith}
use Rattle.wire.proofs.Numbers.{le-sum, narrow}
use Rattle.wire.proofs.u16_at.Goals as goal

pub returns-in-Some : goal.returns-in-Some
returns-in-Some c = c.from_le_bytes.ensures ∙ le-sum 1 c.in-Some.bytes c.in-Some.ensures.1 ∙ c.in-Some.ensures.0

pub overflow_cast-result : goal.overflow_cast-result
overflow_cast-result c = let a = c.args in omega (arith, c.cut_at.ensures, (narrow 2 6 a.s.now a.at (λ i. (c.type_inv.s i).fits) c.in-None.ensures).1)

pub returns-in-None : goal.returns-in-None
returns-in-None c = let a = c.args in c.cut_at.ensures ∙ (narrow 2 6 a.s.now a.at (λ i. (c.type_inv.s i).fits) c.in-None.ensures).0
