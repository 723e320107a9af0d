use Rattle.rings.proofs.Ends.{commit_ends}
use Rattle.rings.proofs.SoundRing.commit.Goals as goal

pub returns : goal.returns
returns c = let a = c.args in commit_ends c.requires a.start a.end c.in_ok-may_commit.ensures c.put_u32.ensures
