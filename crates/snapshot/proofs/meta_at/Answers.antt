use Rattle.snapshot.proofs.MetaSection.{meta_said}
use Rattle.snapshot.proofs.meta_at.Goals as goal

pub returns : goal.returns
returns c = let a = c.args in
    meta_said a.at a.b.now c.u8_at-old.ensures c.time_in-t.ensures.0 c.u8_at-named.ensures c.u64_at-id.ensures c.u64_at-time.ensures c.u64_at.ensures c.following-parent.ensures c.following-place.ensures
    c.u32_at.ensures c.following-length.ensures c.follows-has_parent.ensures c.follows-has_label.ensures
