use Rattle.std.proofs.Common.{rules}
use mathlib.Core.Path.{sym, ◌∙◌}
use Rattle.aipc.proofs.Puts.{put-none, put_low}
use Rattle.aipc.proofs.Walks.{width_none}
use Rattle.aipc.proofs.put_field.Goals as goal

pub returns-in-1 : goal.returns-in-1
returns-in-1 c = let a = c.args in put_low a.at 1 a.c.1 a.out.now (sym c.in-1.is ∙ c.width.ensures.0) c.put_u8.ensures

pub returns-in-2 : goal.returns-in-2
returns-in-2 c = let a = c.args in put_low a.at 2 a.c.1 a.out.now (sym c.in-2.is ∙ c.width.ensures.0) c.put_u16.ensures

pub returns-in-4 : goal.returns-in-4
returns-in-4 c = let a = c.args in put_low a.at 4 a.c.1 a.out.now (sym c.in-4.is ∙ c.width.ensures.0) c.put_u32.ensures

pub returns-in_default : goal.returns-in_default
returns-in_default c = let a = c.args in let e = c.width.ensures.0 in rw (width_none a.ok a.c.0 (search rules) (search rules) (search rules) (search rules)) (put-none _ _ _)
