use Rattle.snapshot.proofs.MetaSection.{meta_stop, meta_none, meta_fits, meta_there}
use mathlib.Core.Path.{◌∙◌}
use native.Mathlib.Omega.{arith}
use Rattle.snapshot.proofs.meta.Goals as goal

pub returns-then-file-at : goal.returns-then-file-at
returns-then-file-at c = c.silent-then-file-at.ensures ∙ meta_none c.args.file.now c.in-Ok.ensures.answers c.if-file-at.true

pub end_at-e-requires : goal.end_at-e-requires
end_at-e-requires c = omega (arith, meta_fits c.args.file.now c.in-Ok.ensures.answers c.if-file-at.false)

pub overflow_cast-b : goal.overflow_cast-b
overflow_cast-b c = omega (arith, meta_fits c.args.file.now c.in-Ok.ensures.answers c.if-file-at.false)

pub slice_bounds-meta_at-end : goal.slice_bounds-meta_at-end
slice_bounds-meta_at-end c = omega (arith, c.end_at-e.ensures, meta_fits c.args.file.now c.in-Ok.ensures.answers c.if-file-at.false)

pub returns-in-Err : goal.returns-in-Err
returns-in-Err c = rw c.from.ensures at c.silent.ensures ∙ meta_stop c.args.file.now c.in-Err.ensures.answers

pub returns-else-file-at : goal.returns-else-file-at
returns-else-file-at c = c.meta_at.ensures ∙ meta_there c.args.file.now c.in-Ok.ensures.answers c.if-file-at.false c.end_at-e.ensures
