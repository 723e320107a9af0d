use Rattle.std.proofs.Common.{arith}
use Rattle.std.proofs.lemmas.Grind.{common_steps}
use Rattle.wire.proofs.Numbers.{le_at-one}
use Rattle.wire.proofs.u8_at.Goals as goal

pub returns : goal.returns
returns c = rw le_at-one (grind (arith, common_steps))
