use Rattle.sections.proofs.Counts.{entries_list, entries_none}
use mathlib.Core.Path.{sym, ◌∙◌}
use native.Mathlib.Omega.{arith}
use Rattle.sections.proofs.entries_at.Goals as goal

pub returns-then-is_list : goal.returns-then-is_list
returns-then-is_list c = let a = c.args in (entries_list a.s.now a.at c.u32_at.ensures (sym c.is_list.ensures ∙ c.if-is_list.true) c.u32_at-then-is_list.ensures, omega arith)

pub returns : goal.returns
returns c = let a = c.args in (entries_none a.s.now a.at c.u32_at.ensures (sym c.is_list.ensures ∙ c.if-is_list.false), omega arith)
