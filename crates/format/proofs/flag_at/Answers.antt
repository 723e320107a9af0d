use native.Mathlib.Omega.{arith}
use Rattle.format.proofs.Exits.{flag_bad, flag-absent, flag_present}
use Rattle.format.proofs.flag_at.Goals as goal

pub returns-in-0 : goal.returns-in-0
returns-in-0 c = let a = c.args in flag-absent a.s.now a.at (omega arith) c.in-0.is

pub returns-in-1 : goal.returns-in-1
returns-in-1 c = let a = c.args in flag_present a.s.now a.at (omega arith) (omega arith)

pub returns-in_default : goal.returns-in_default
returns-in_default c = flag_bad _ _ (omega arith) (omega arith)
