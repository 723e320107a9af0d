use Rattle.entries.proofs.Lengths.{two_lengths}
use Rattle.entries.proofs.disk_reach.Goals as goal

pub returns : goal.returns
returns c = two_lengths c.args.b.now 4 _ _ _ _ _ c.u32_at.ensures c.reach-e.ensures c.u32_at-2.ensures c.reach.ensures
