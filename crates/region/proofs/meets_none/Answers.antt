use Rattle.region.proofs.Cases.{clear_above}
use Rattle.std.proofs.Common.{arith}
use Rattle.region.proofs.meets_none.Goals as goal

pub returns-then-top-offset_of : goal.returns-then-top-offset_of
returns-then-top-offset_of c = let a = c.args in
    clear_above a.s.now a.i a.top c.requires (omega arith)
