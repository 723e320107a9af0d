use Rattle.region.specs.Region.{ahead}
use Rattle.std.proofs.Common.{arith}
use Rattle.region.proofs.ahead.Goals as goal

pub returns : goal.returns
unfolding ahead
returns c = omega arith
