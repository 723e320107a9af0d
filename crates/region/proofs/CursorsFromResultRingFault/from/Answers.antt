use Rattle.region.proofs.Back.{signed_is}
use mir.ValLaws.{to_z-of_z}
use Rattle.std.proofs.Common.{w32}
use Rattle.region.proofs.CursorsFromResultRingFault.from.Goals as goal

pub returns-in-Ok : goal.returns-in-Ok
returns-in-Ok c =
    rw (
      c.in-Ok.is,
      to_z-of_z w32 _ (record { sfits = c.cast_signed.type_inv }),
      to_z-of_z w32 _ (record { sfits = c.cast_signed-in-Ok.type_inv }),
      to_z-of_z w32 _ (record { sfits = c.cast_signed-in-Ok-2.type_inv }),
      c.cast_signed.ensures,
      c.cast_signed-in-Ok.ensures,
      c.cast_signed-in-Ok-2.ensures,
      signed_is c.in-Ok.ring.head,
      signed_is c.in-Ok.ring.reserve,
      signed_is c.in-Ok.ring.commit,
    )
