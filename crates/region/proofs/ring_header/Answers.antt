use Rattle.region.proofs.Cases.{ring_so}
use Rattle.std.proofs.Common.{◌∙◌}
use Rattle.region.proofs.ring_header.Goals as goal

pub returns : goal.returns
returns c = let a = c.args in
    c.ring_fields.ensures ∙ ring_so a.s.now a.i c.offset_of-at.ensures c.ring_at.ensures c.capacity_of.ensures
