use Rattle.entries.proofs.Lengths.{two_lengths_also}
use Rattle.entries.proofs.cpu_reach.Goals as goal

pub returns : goal.returns
returns c = λ v. two_lengths_also c.args.b.now 8 _ _ _ _ _ _ c.u32_at.ensures c.reach-e.ensures c.u64_at.ensures c.reach.ensures
