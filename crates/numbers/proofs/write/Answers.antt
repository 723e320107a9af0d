use Rattle.numbers.proofs.Making.{write_refused, write_made}
use Rattle.numbers.proofs.write.Goals as goal

pub returns-in-Ok : goal.returns-in-Ok
returns-in-Ok c = write_made _ _ _ c.in-Ok.ensures c.write.ensures

pub returns-in-Err : goal.returns-in-Err
returns-in-Err c = rw c.from.ensures (write_refused _ _ _ c.in-Err.ensures)
