use Rattle.answer.proofs.Outcomes.{passes}
use Rattle.entries.specs.States.{held_state}
use Rattle.format.specs.Format.{Format, pair, bytes, blob}
use Rattle.format.proofs.Exits.{pair_stop, pair_next}
use Prim.Native.Nat.{ℕ}
use Rattle.entries.proofs.cpu_at.Goals as goal

abbrev rest : ℕ → Format
rest version = pair (held_state version) (blob 8 67108864)

pub returns-in_err-e : goal.returns-in_err-e
returns-in_err-e c = let a = c.args in passes _ c.in_err-e.field-0.0 c.from_residual.ensures.1 (pair_stop a.s.now a.at (bytes 4) (rest a.version) c.in_err-e.ensures)

pub returns : goal.returns
returns c = let a = c.args in pair_next a.s.now a.at (bytes 4) (rest a.version) c.in_ok-e.ensures c.cpu_rest_at.ensures
