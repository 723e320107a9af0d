use mathlib.Core.Path.{sym}
use Rattle.std.proofs.Common.{⊎_elim}
use Rattle.messages.proofs.Lengths.{length_sized}
use native.Mathlib.Omega.{arith}
use Rattle.aipc.proofs.body_size.Goals as goal

pub returns-in-Bytes : goal.returns-in-Bytes
returns-in-Bytes c = ⊎_elim (λ e. (rw e (sym (length_sized c.args.bytes.now)), omega arith)) (λ e. (rw e (sym (length_sized c.args.bytes.now)), omega arith)) c.in-Bytes.is
