use Rattle.region.proofs.Whole.{part_is}
use Rattle.std.proofs.Common.{◌∙◌}
use Rattle.region.proofs.whole_at.Goals as goal

pub returns : goal.returns
returns c = let a = c.args in c.u32_at.ensures ∙ part_is 4 a.s.now a.at c.requires
