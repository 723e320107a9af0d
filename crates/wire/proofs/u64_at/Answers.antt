use Rattle.std.proofs.Common.{◌∙◌}
use Rattle.wire.proofs.Numbers.{le-sum}
use Rattle.wire.proofs.u64_at.Goals as goal

pub returns-in-Some : goal.returns-in-Some
returns-in-Some c = c.from_le_bytes.ensures ∙ le-sum 7 c.in-Some.bytes c.in-Some.ensures.1 ∙ c.in-Some.ensures.0
