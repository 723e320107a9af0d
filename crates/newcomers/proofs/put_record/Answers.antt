use Rattle.wire.proofs.Records.{stored_record}
use mathlib.Core.List.{[], ◌∷◌}
use Rattle.newcomers.proofs.put_record.Goals as goal

pub returns : goal.returns
returns c = let a = c.args in
    let d = a.d in
    stored_record ((4, d.id) ∷ (2, d.version) ∷ (2, d.flags) ∷ (8, d.place) ∷ (8, d.length) ∷ []) a.out.now c.requires
    _ c.put_u32.ensures _ c.put_u16.ensures _ c.put_u16-2.ensures _ c.put_u64.ensures _ c.put_u64-2.ensures
