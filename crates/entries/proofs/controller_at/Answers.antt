use Rattle.answer.proofs.Outcomes.{passes}
use Rattle.entries.proofs.Heads.{unbounded-at}
use mathlib.Core.Path.{◌∙◌}
use Rattle.entries.specs.Kinds.{controller_head, unbounded}
use Rattle.format.specs.Format.{any, sized}
use Rattle.format.proofs.Exits.{pair_stop, pair_next}
use Rattle.entries.proofs.controller_at.Goals as goal

pub returns-in_err-e : goal.returns-in_err-e
returns-in_err-e c = let a = c.args in passes _ c.in_err-e.field-0.0 c.from_residual.ensures.1 (pair_stop a.s.now a.at controller_head (sized 4 unbounded any) c.in_err-e.ensures)

pub returns : goal.returns
returns c = let a = c.args in
    let payload = c.part_at.ensures ∙ unbounded-at a.s.now c.in_ok-e.e (λ i. (c.type_inv.s i).fits) in
    pair_next a.s.now a.at controller_head (sized 4 unbounded any) c.in_ok-e.ensures payload
