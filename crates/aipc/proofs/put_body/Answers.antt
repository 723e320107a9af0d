use Rattle.std.proofs.Common.{⊎_elim}
use Rattle.aipc.proofs.Puts.{sized_so}
use Rattle.aipc.proofs.put_body.Goals as goal

pub returns-in-Bytes : goal.returns-in-Bytes
returns-in-Bytes c = let a = c.args in
    let so = sized_so a.at a.bytes.now a.out.now c.put_u32.ensures c.copy.ensures in
    ⊎_elim (λ e. rw e so) (λ e. rw e so) c.in-Bytes.is
