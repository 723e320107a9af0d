use Rattle.writer.proofs.Around.{starts_none, starts_first}
use Rattle.entries.specs.Code.{describe}
use mathlib.Core.Path.{sym, ◌∙◌}
use lib.Seq.{length-take-le}
use lib.ListN.{length}
use Rattle.writer.proofs.put_by_starts.Goals as goal

pub returns-then-out-n : goal.returns-then-out-n
returns-then-out-n c = let a = c.args in
    starts_none (describe a.kind) a.s.now a.starts.now a.out.now c.if-out-n.true

pub slice_bounds-fill_by_starts-end-2 : goal.slice_bounds-fill_by_starts-end-2
slice_bounds-fill_by_starts-end-2 c = let a = c.args in sym (length-take-le (length a.s.now) a.out.now c.if-out-n.false)

pub fill_by_starts-requires : goal.fill_by_starts-requires
fill_by_starts-requires c = length-take-le (length c.args.s.now) c.args.out.now c.if-out-n.false

pub returns : goal.returns
returns c = let a = c.args in
    starts_first (describe a.kind) a.s.now a.starts.now a.out.now c.if-out-n.false (c.fill_by_starts.auto.out ∙ length-take-le (length a.s.now) a.out.now c.if-out-n.false) c.fill_by_starts.ensures
