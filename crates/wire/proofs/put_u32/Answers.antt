use Rattle.wire.proofs.Numbers.{bytes_of-low}
use Rattle.wire.proofs.put_u32.Goals as goal

pub returns : goal.returns
returns c = rw (← bytes_of-low 4 c.args.x, ← c.to_le_bytes.ensures) c.store.ensures
