use Rattle.sections.proofs.Found.{seeking_start, seeking_goes, seeking_none, seeking_found, seeking_few, seeking_next}
use native.Mathlib.Omega.{arith}
use Rattle.sections.proofs.seek.Goals as goal

pub loop-at-init : goal.loop-at-init
loop-at-init c = seeking_start _ _ _ c.requires

pub returns-then-u32_at-id : goal.returns-then-u32_at-id
returns-then-u32_at-id c = seeking_found c.loop-at.invariant c.loop-at-test.true c.u32_at.ensures c.if-u32_at-id.true

pub entries_at-first-requires : goal.entries_at-first-requires
entries_at-first-requires c = c.loop-at.invariant.stand.inside

pub overflow_add-first : goal.overflow_add-first
overflow_add-first c = omega (arith, seeking_few c.loop-at.invariant c.loop-at-test.true c.u32_at.ensures c.if-u32_at-id.false c.entries_at-first.ensures.0)

pub overflow_add-at : goal.overflow_add-at
overflow_add-at c = let g = seeking_goes c.loop-at.invariant c.loop-at-test.true in omega (arith, g.0, g.1, g.2)

pub overflow_add-at-in-loop-at : goal.overflow_add-at-in-loop-at
overflow_add-at-in-loop-at c = let g = seeking_goes c.loop-at.invariant c.loop-at-test.true in omega (arith, g.1, g.2, c.u64_at.ensures)

pub overflow_add-at-in-loop-at-2 : goal.overflow_add-at-in-loop-at-2
overflow_add-at-in-loop-at-2 c = let g = seeking_goes c.loop-at.invariant c.loop-at-test.true in omega (arith, g.1, g.2, c.u64_at.ensures)

pub loop-at-smaller : goal.loop-at-smaller
loop-at-smaller c = let g = seeking_goes c.loop-at.invariant c.loop-at-test.true in omega (arith, g.0, g.1, c.u64_at.ensures)

pub loop-at-preserved : goal.loop-at-preserved
loop-at-preserved c = rw c.u64_at.ensures (seeking_next c.loop-at.invariant c.loop-at-test.true c.u32_at.ensures c.if-u32_at-id.false c.entries_at-first.ensures.0)

pub returns : goal.returns
returns c = seeking_none c.loop-at.invariant c.loop-at-test.false
