use Rattle.answer.proofs.Outcomes.{passes}
use Rattle.entries.proofs.States.{held_place}
use Rattle.entries.specs.States.{cpu_length_checks, held_checks}
use Rattle.format.proofs.Exits.{sized_inside, asked_stop, asked-done, asked_fault}
use Rattle.format.proofs.Placed.{asked_at, also_at}
use Rattle.format.specs.Format.{Format, any, sized, also}
use Rattle.format.specs.Places.{read_at}
use Rattle.answer.specs.Outcome.{after}
use mathlib.Core.Path.{◌≡◌}
use mathlib.Core.List.{List}
use Prim.Native.Nat.{ℕ}
use native.Mathlib.Omega.{arith}
use Rattle.entries.proofs.state_at.Goals as goal

abbrev plain : ℕ → Format
plain version = sized 4 (cpu_length_checks version) any

asks : (version : ℕ) (s : List ℕ) (at : ℕ) → read_at (also (plain version) (held_checks version)) s at ≡ after (read_at (plain version) s at) (asked_at (held_checks version) s at)
asks version s at = also_at (plain version) (held_checks version) s at

pub slice_bounds-held_fine-end : goal.slice_bounds-held_fine-end
slice_bounds-held_fine-end c = let a = c.args in omega (arith, sized_inside a.s.now a.at 4 (cpu_length_checks a.version) any c.in_ok-e.ensures (omega arith))

pub overflow_add-result : goal.overflow_add-result
overflow_add-result c = let a = c.args in omega (arith, held_place a.version a.s.now a.at c.in_ok-e.ensures c.in-Err.ensures)

pub returns-in_err-e : goal.returns-in_err-e
returns-in_err-e c = let a = c.args in
    passes _ c.in_err-e.field-0.0 c.from_residual.ensures.1 (asked_stop (held_checks a.version) a.s.now a.at (asks a.version a.s.now a.at) c.in_err-e.ensures)

pub returns-in-Err : goal.returns-in-Err
returns-in-Err c = let a = c.args in
    asked_fault (held_checks a.version) a.s.now a.at (asks a.version a.s.now a.at) c.in_ok-e.ensures c.in-Err.ensures

pub returns-in-Ok : goal.returns-in-Ok
returns-in-Ok c = let a = c.args in
    asked-done (held_checks a.version) a.s.now a.at (asks a.version a.s.now a.at) c.in_ok-e.ensures c.in-Ok.ensures
