use Rattle.writer.proofs.Around.{short_filled, entries_end, starts_filled}
use Rattle.entries.specs.Code.{describe}
use mathlib.Core.Path.{sym}
use lib.Seq.{length-take-le}
use lib.ListN.{length}
use Prim.Native.Nat.{◌+◌, ◌≤◌}
use native.Mathlib.Omega.{arith}
use Rattle.writer.proofs.fill_by_starts.Goals as goal

pub returns-then-s-lt4 : goal.returns-then-s-lt4
returns-then-s-lt4 c = let a = c.args in
    short_filled (describe a.kind) a.s.now a.starts.now c.if-s-lt4.true a.out.now c.requires c.copy.ensures

pub slice_bounds-copy-end : goal.slice_bounds-copy-end
slice_bounds-copy-end c = sym (length-take-le 4 c.args.s.now c.if-s-lt4.false)

pub overflow_add-at : goal.overflow_add-at
overflow_add-at c =
    let ended : 4 + c.put_run-at.result ≤ length c.args.s.now = let a = c.args in
    entries_end (describe a.kind) a.s.now a.starts.now c.if-s-lt4.false a.out.now c.requires c.copy-2.ensures c.put_run-at.ensures in
    omega (arith, ended)

pub slice_bounds-copy-count : goal.slice_bounds-copy-count
slice_bounds-copy-count c =
    let ended : 4 + c.put_run-at.result ≤ length c.args.s.now = let a = c.args in
    entries_end (describe a.kind) a.s.now a.starts.now c.if-s-lt4.false a.out.now c.requires c.copy-2.ensures c.put_run-at.ensures in
    omega (arith, ended)

pub slice_bounds-copy-start : goal.slice_bounds-copy-start
slice_bounds-copy-start c =
    let ended : 4 + c.put_run-at.result ≤ length c.args.s.now = let a = c.args in
    entries_end (describe a.kind) a.s.now a.starts.now c.if-s-lt4.false a.out.now c.requires c.copy-2.ensures c.put_run-at.ensures in
    omega (arith, ended)

pub returns : goal.returns
returns c = let a = c.args in
    starts_filled (describe a.kind) a.s.now a.starts.now c.if-s-lt4.false a.out.now c.requires c.copy-2.ensures c.put_run-at.ensures c.copy-3.ensures
