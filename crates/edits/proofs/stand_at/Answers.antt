use Rattle.answer.specs.Outcome.{room}
use Rattle.answer.specs.Calls.{asked}
use Rattle.answer.proofs.Outcomes.{handed_on, room_holds}
use native.Mathlib.Omega.{arith}
use mathlib.Core.Path.{refl, ap, ◌∙◌}
use Prim.Native.Nat.{ℕ, ◌+◌}
use Rattle.edits.proofs.stand_at.Goals as goal

pub resized-new-requires : goal.resized-new-requires
resized-new-requires c = let m = c.requires.0 in rw c.list_length-long.ensures (m.shows, m.sections, m.takes, m.bytes, omega (arith, m.small))

pub returns-in_err-roomy : goal.returns-in_err-roomy
returns-in_err-roomy c = rw (handed_on _ c.in_err-roomy.field-0.0 c.from_residual.ensures.1)
    (c.in_err-roomy.ensures ∙ ap (λ (n : ℕ). asked (room c.args.have n)) (rw c.list_length-long.ensures at c.resized-new.ensures.1))

pub returns : goal.returns
returns c = let l = c.list_length-long.ensures in
    (refl, refl, refl, ap (λ (n : ℕ). n + c.args.grown) l, rw l at c.resized-new.ensures.0, rw l at c.resized-new.ensures.1, room_holds c.args.have c.resized-new.result.bytes c.in_ok-roomy.ensures)
