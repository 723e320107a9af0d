use mathlib.Core.Path.{ap}
use Rattle.answer.specs.Outcome.{after}
use Rattle.answer.proofs.Outcomes.{handed_on}
use Rattle.sections.specs.Directory.{verdict_of}
use Rattle.sections.proofs.index_file.Goals as goal

pub returns-in_err-divide : goal.returns-in_err-divide
returns-in_err-divide c = let v = c.in_err-divide.ensures in
    rw (handed_on _ c.in_err-divide.field-0.0 c.from_residual.ensures.1) (record { answers = ap (λ o. after o verdict_of) v.answers; index = v.index })
