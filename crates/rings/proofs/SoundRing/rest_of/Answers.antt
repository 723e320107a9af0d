use Rattle.rings.proofs.Capacity.{sized_of, inside}
use Rattle.std.proofs.Common.{arith}
use Rattle.rings.proofs.SoundRing.rest_of.Goals as goal

pub overflow_sub-result : goal.overflow_sub-result
overflow_sub-result c = let l = inside (sized_of c.args.self.sized) c.args.p in omega arith
