use Rattle.entries.proofs.States.{state_small}
use native.Mathlib.Omega.{arith}
use Rattle.entries.proofs.held_fine.Goals as goal

pub overflow_add-result : goal.overflow_add-result
overflow_add-result c = omega (arith, state_small c.args.version c.tail-state.result.now c.in-Err.ensures)
