use Rattle.answer.proofs.Outcomes.{passes}
use Rattle.dskc.proofs.Headers.{first_wrong, second_left}
use Rattle.wire.specs.Numbers.{Bytes}
use mathlib.Core.Path.{◌∙◌}
use Rattle.dskc.proofs.header.Goals as goal

pub returns-in_err-tagged : goal.returns-in_err-tagged
returns-in_err-tagged c =
    let bytes : Bytes c.args.s.now = λ i. (c.type_inv.s i).fits in
    passes _ c.in_err-tagged.field-0.0 c.from_residual.ensures.1 (first_wrong c.args.s.now bytes c.if-s-gt-WRAPPER_MOST.false c.if-s-lt16.false c.in_err-tagged.ensures)

pub returns : goal.returns
returns c =
    let bytes : Bytes c.args.s.now = λ i. (c.type_inv.s i).fits in
    c.tagged-2.ensures ∙ second_left c.args.s.now bytes c.if-s-gt-WRAPPER_MOST.false c.if-s-lt16.false c.in_ok-tagged.ensures
