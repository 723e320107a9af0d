use Rattle.aipc.proofs.Writes.{writing_checks}
use Rattle.aipc.proofs.Going.{part_stops, part_goes}
use Rattle.messages.specs.Writing.{form_bytes}
use lib.ListN.{length}
use Rattle.aipc.specs.Steps.{write_faults, limits}
use Rattle.answer.specs.Outcome.{taken, checked}
use Rattle.answer.specs.Calls.{asked}
use mathlib.Core.Path.{sym, ◌∙◌}
use Rattle.aipc.proofs.write_test.Goals as goal

pub returns-in_err-faults : goal.returns-in_err-faults
returns-in_err-faults c = let a = c.args in
    part_stops (write_faults a.f a.bytes.now) tt _ c.in_err-faults.ensures c.from_residual.result (checked (limits (length (form_bytes a.f a.bytes.now)) a.have) (taken tt)) c.from_residual.ensures.1 ∙ sym (writing_checks a.f a.bytes.now a.have (taken tt))

pub returns : goal.returns
returns c = let a = c.args in
    c.limits.ensures ∙ rw c.requires (part_goes (write_faults a.f a.bytes.now) tt (λ _. asked (limits (length (form_bytes a.f a.bytes.now)) a.have)) c.in_ok-faults.ensures) ∙ sym (writing_checks a.f a.bytes.now a.have (taken tt))
