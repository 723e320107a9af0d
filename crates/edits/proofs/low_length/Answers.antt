use Prim.Native.Nat.{◌-◌}
use mathlib.Core.Path.{refl}
use Rattle.edits.specs.Cuts.{Cuts}
use Rattle.edits.proofs.Writing.{cut_at, low-none, low_sum, low_small}
use native.Mathlib.Omega.{arith}
use Rattle.edits.proofs.low_length.Goals as goal

pub returns-then-place-site : goal.returns-then-place-site
returns-then-place-site c =
    let at : let a = c.args in Cuts a.side a.file.now a.index.now a.site (record { low = a.place; high = a.place; count = 0; bytes = 0 }) = cut_at c.requires.0 c.args.place c.requires.1 c.requires.2 in
    low-none (at) c.requires.3 c.if-place-site.true

pub overflow_cast-y : goal.overflow_cast-y
overflow_cast-y c = omega (arith, c.type_inv.index (c.args.place - 1))

pub overflow_add-result : goal.overflow_add-result
overflow_add-result c =
    let at : let a = c.args in Cuts a.side a.file.now a.index.now a.site (record { low = a.place; high = a.place; count = 0; bytes = 0 }) = cut_at c.requires.0 c.args.place c.requires.1 c.requires.2 in
    let k = low_small (at) c.requires.3 c.if-place-site.false c.kind_at.ensures refl c.length_at.ensures in omega (arith, k.0, k.1)

pub overflow_sub-result : goal.overflow_sub-result
overflow_sub-result c =
    let at : let a = c.args in Cuts a.side a.file.now a.index.now a.site (record { low = a.place; high = a.place; count = 0; bytes = 0 }) = cut_at c.requires.0 c.args.place c.requires.1 c.requires.2 in
    (low_small (at) c.requires.3 c.if-place-site.false c.kind_at.ensures refl c.length_at.ensures).2

pub returns : goal.returns
returns c =
    let at : let a = c.args in Cuts a.side a.file.now a.index.now a.site (record { low = a.place; high = a.place; count = 0; bytes = 0 }) = cut_at c.requires.0 c.args.place c.requires.1 c.requires.2 in
    low_sum (at) c.requires.3 c.if-place-site.false c.kind_at.ensures refl c.length_at.ensures
