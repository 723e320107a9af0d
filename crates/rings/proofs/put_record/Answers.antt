use Rattle.rings.proofs.Filled.{record_so}
use Rattle.std.proofs.Common.{length, refl, arith}
use Rattle.rings.proofs.put_record.Goals as goal

pub returns : goal.returns
returns c = let a = c.args in
    (omega arith, record_so a.at (length a.payload.now) a.payload.now a.out.now _ _ _ refl (omega arith) c.put_u32.ensures c.put_u32-2.ensures c.copy.ensures)
