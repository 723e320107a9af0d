use Rattle.region.proofs.Taken.{capacity_out, capacity_is}
use Rattle.std.proofs.Common.{◌∙◌, ⊎_elim, arith}
use Rattle.region.proofs.is_capacity.Goals as goal

pub returns-then-x-lt64 : goal.returns-then-x-lt64
returns-then-x-lt64 c = capacity_out c.args.x (λ l m. ⊎_elim (λ e. omega arith) (λ e. let f = e.1 in omega arith) c.then-x-lt64.either)

pub returns : goal.returns
returns c = c.is_power_of_two.ensures ∙ capacity_is c.args.x (omega arith) (omega arith)
