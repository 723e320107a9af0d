use Rattle.region.proofs.Taken.{queue_taken}
use Rattle.std.proofs.Common.{sym}
use Rattle.region.proofs.check_queue.Goals as goal

pub returns-then-is_right : goal.returns-then-is_right
returns-then-is_right c = let a = c.args in
    sym ((queue_taken a.s.now a.queue).1 (c.is_right.ensures c.if-is_right.true))
