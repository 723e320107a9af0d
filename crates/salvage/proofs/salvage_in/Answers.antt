use Rattle.answer.proofs.Outcomes.{handed_on}
use Rattle.sections.proofs.Directed.{filed_long, filed_short}
use Rattle.salvage.proofs.Rescuing.{losses_few, salvage-room, salvage-rows, salvage_ready, salvage-done}
use mathlib.Core.Path.{◌∙◌}
use native.Mathlib.Omega.{arith}
use Rattle.salvage.proofs.salvage_in.Goals as goal

pub returns-in_err-roomy : goal.returns-in_err-roomy
returns-in_err-roomy c = let a = c.args in
    rw (handed_on _ c.in_err-roomy.field-0.0 c.from_residual.ensures.1)
    (salvage-room a.file.now c.requires.0.passes a.out.now a.losses.now (c.noted.ensures ∙ c.requires.0.directory.bytes) c.in_err-roomy.field-0.0 c.in_err-roomy.ensures)

pub overflow_mul-lost : goal.overflow_mul-lost
overflow_mul-lost c = omega (arith, c.requires.1, losses_few c.args.file.now, (filed_short c.requires.0).1)

pub returns-in_err-roomy-2 : goal.returns-in_err-roomy-2
returns-in_err-roomy-2 c = let a = c.args in
    rw (handed_on _ c.in_err-roomy-2.field-0.0 c.from_residual-in_err-roomy-2.ensures.1)
    (salvage-rows a.file.now c.requires.0.passes a.out.now a.losses.now (c.noted.ensures ∙ c.requires.0.directory.bytes) c.in_ok-roomy.ensures c.requires.1 c.in_err-roomy-2.field-0.0 c.in_err-roomy-2.ensures)

pub put_form-bytes-requires : goal.put_form-bytes-requires
put_form-bytes-requires c = let a = c.args in
    (c.requires.0, (salvage_ready a.file.now c.requires.0.passes a.out.now a.losses.now (c.noted.ensures ∙ c.requires.0.directory.bytes) c.in_ok-roomy.ensures c.requires.1 c.in_ok-roomy-2.ensures).0)

pub put_losses-requires : goal.put_losses-requires
put_losses-requires c = let a = c.args in
    (c.requires.0.passes, filed_long c.requires.0, c.requires.1, (salvage_ready a.file.now c.requires.0.passes a.out.now a.losses.now (c.noted.ensures ∙ c.requires.0.directory.bytes) c.in_ok-roomy.ensures c.requires.1 c.in_ok-roomy-2.ensures).1)

pub returns : goal.returns
returns c = let a = c.args in
    salvage-done a.file.now c.requires.0.passes a.out.now a.losses.now (c.noted.ensures ∙ c.requires.0.directory.bytes) c.in_ok-roomy.ensures c.requires.1 c.in_ok-roomy-2.ensures c.put_form-bytes.ensures c.put_losses.ensures
