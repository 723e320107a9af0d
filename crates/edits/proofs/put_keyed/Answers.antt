use Rattle.wire.proofs.Records.{stored_record}
use Rattle.edits.proofs.Entry.{keyed_long, keyed_wrote}
use mathlib.Core.List.{[], ◌∷◌}
use lib.ListN.{length}
use native.Mathlib.Omega.{arith}
use Rattle.edits.proofs.put_keyed.Goals as goal

pub returns : goal.returns
returns c = let a = c.args in
    keyed_wrote a.key a.p.now c.requires (stored_record ((8, a.key) ∷ (8, length a.p.now) ∷ []) a.out.now (omega (arith, c.requires, keyed_long a.key a.p.now)) _ c.put_u64.ensures _ c.put_u64-2.ensures) c.copy.ensures
