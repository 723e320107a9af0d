use Rattle.entries.proofs.Lengths.{one-length}
use Rattle.entries.proofs.device_reach.Goals as goal

pub returns : goal.returns
returns c = one-length c.args.b.now 8 8 _ _ _ c.u64_at.ensures c.reach.ensures
