use Rattle.rings.proofs.Capacity.{sized_of, mask}
use Rattle.region.proofs.Taken.{capacity_power}
use Rattle.std.proofs.Common.{arith}
use Rattle.rings.proofs.SoundRing.position.Goals as goal

pub overflow_sub-result : goal.overflow_sub-result
overflow_sub-result c = let least = (sized_of c.args.self.sized).least in omega arith

pub returns : goal.returns
returns c = mask (capacity_power _ c.args.self.sized) c.args.p
