use Rattle.region.proofs.Taken.{region_taken}
use Rattle.std.proofs.Common.{sym}
use Rattle.region.proofs.checked.Goals as goal

pub returns-then-is_right : goal.returns-then-is_right
returns-then-is_right c = sym ((region_taken c.args.s.now).1 (c.is_right.ensures c.if-is_right.true).0)
