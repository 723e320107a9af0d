use Rattle.edits.proofs.Writing.{low-span}
use mathlib.Core.Path.{ap}
use lib.ListN.{length}
use native.Mathlib.Omega.{arith}
use Rattle.edits.proofs.put_low.Goals as goal

pub put_some-requires : goal.put_some-requires
put_some-requires c = let a = c.args in
    let g = c.requires.0 in
    (g.holds, omega arith, g.first-low, omega (arith, g.low_high, g.high_last), omega (arith, ap length (low-span a.side a.file.now a.site a.cut.low), c.requires.1))

pub returns : goal.returns
returns c = let a = c.args in rw (low-span a.side a.file.now a.site a.cut.low) at c.put_some.ensures
