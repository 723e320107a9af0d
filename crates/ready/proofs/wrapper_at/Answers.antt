use Rattle.ready.proofs.Exits.{wrapper_told}
use Rattle.ready.proofs.wrapper_at.Goals as goal

pub returns : goal.returns
returns c = let a = c.args in wrapper_told a.devices.now a.at c.tail-entry.ensures (rw c.u64_at-len.ensures at c.bytes_in.ensures) c.check-answer.ensures c.if-at-lt4.false
