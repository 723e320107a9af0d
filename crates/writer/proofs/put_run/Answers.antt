use Rattle.writer.proofs.Fits.{fitting-none, fitting_long, fitting_next, fitting_stop}
use Rattle.writer.proofs.Runs.{run_turn, run_end}
use Rattle.entries.specs.Code.{describe}
use native.Mathlib.Omega.{arith}
use Rattle.writer.proofs.put_run.Goals as goal

pub loop-y-init : goal.loop-y-init
loop-y-init c = fitting-none _ _

pub slice_bounds-put_entry-count : goal.slice_bounds-put_entry-count
slice_bounds-put_entry-count c = omega (arith, c.loop-y.invariant.within, fitting_long c.loop-y.invariant)

pub returns-then-out-at : goal.returns-then-out-at
returns-then-out-at c = let a = c.args in
    let turn = run_turn (describe a.kind) a.s.now a.starts.now c.loop-y.invariant c.loop-y-test.true in
    fitting_stop turn c.put_entry-n.ensures.0 c.put_entry-n.ensures.1 (omega arith)

pub loop-y-preserved : goal.loop-y-preserved
loop-y-preserved c = let a = c.args in
    let turn = run_turn (describe a.kind) a.s.now a.starts.now c.loop-y.invariant c.loop-y-test.true in
    fitting_next turn c.put_entry-n.ensures.0 c.put_entry-n.ensures.1 (omega arith)

pub returns : goal.returns
returns c = let a = c.args in run_end (describe a.kind) a.s.now a.starts.now c.loop-y.invariant c.loop-y-test.false
