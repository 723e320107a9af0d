use Rattle.std.proofs.Common.{◌∙◌}
use Rattle.wire.proofs.Numbers.{whole}
use Rattle.wire.proofs.Parts.{tail_whole}
use Rattle.wire.proofs.whole_at.Goals as goal

pub returns : goal.returns
returns g c = let a = c.args in let there = c.in_ok-get.ensures.lookup.0 in
    rw c.copied.ensures (whole _ g.row.N a.s.now a.at there.0 (there.2 ∙ tail_whole a.at a.s.now) c.first_chunk.ensures.cases)
