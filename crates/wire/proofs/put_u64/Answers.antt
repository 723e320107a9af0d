use Rattle.wire.proofs.Numbers.{bytes_of-low}
use Rattle.wire.proofs.put_u64.Goals as goal

pub returns : goal.returns
returns c = rw (← bytes_of-low 8 c.args.x, ← c.to_le_bytes.ensures) c.store.ensures
