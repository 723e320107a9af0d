use Rattle.wire.proofs.Records.{stored_record}
use Rattle.wire.specs.Numbers.{bytes_of}
use mathlib.Core.List.{[], ◌∷◌}
use Rattle.dskc.proofs.put_header.Goals as goal

pub returns : goal.returns
unfolding bytes_of
returns c = stored_record ((4, 0x4F524541) ∷ (4, 1) ∷ (4, 0x434B5344) ∷ (4, 1) ∷ []) c.args.out.now c.requires
    _ c.put_u32.ensures _ c.put_u32-2.ensures _ c.put_u32-3.ensures _ c.put_u32-4.ensures
