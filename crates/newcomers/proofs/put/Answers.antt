use Rattle.newcomers.proofs.Laws.{near_stored, far_stored}
use Rattle.newcomers.proofs.put.Goals as goal

pub returns-then-i-lt-LOOKED_AT-clause-stored : goal.returns-then-i-lt-LOOKED_AT-clause-stored
returns-then-i-lt-LOOKED_AT-clause-stored c = let a = c.args in near_stored a.i a.d a.records.now c.if-i-lt-LOOKED_AT.true c.put_at.ensures

pub returns-clause-stored : goal.returns-clause-stored
returns-clause-stored c = let a = c.args in far_stored a.i a.d a.records.now c.if-i-lt-LOOKED_AT.false
