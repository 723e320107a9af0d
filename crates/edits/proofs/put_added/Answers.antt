use Rattle.answer.proofs.Outcomes.{handed_on}
use Rattle.edits.proofs.Tabled.{table_moves, answer_refused, answer_taken}
use Rattle.wire.specs.Numbers.{Bytes}
use native.Mathlib.Omega.{arith}
use Rattle.edits.proofs.put_added.Goals as goal

pub card_before-before-requires : goal.card_before-before-requires
card_before-before-requires c = c.requires.modest

pub card_behind-behind-requires : goal.card_behind-behind-requires
card_behind-behind-requires c = c.requires.modest

pub returns-in_err-moved : goal.returns-in_err-moved
returns-in_err-moved c =
    let bytes : Bytes c.args.table.now = λ j. omega (arith, c.type_inv.table j) in
    rw (handed_on _ (record { index = 0; fault = c.in_err-moved.field-0.0 }) c.from_residual.ensures.1)
    (answer_refused (record { index = 0; fault = c.in_err-moved.field-0.0 }) (table_moves bytes c.requires c.args.card c.card_before-before.ensures c.card_behind-behind.ensures c.in_err-moved.ensures))

pub returns : goal.returns
returns c =
    let bytes : Bytes c.args.table.now = λ j. omega (arith, c.type_inv.table j) in
    answer_taken (table_moves bytes c.requires c.args.card c.card_before-before.ensures c.card_behind-behind.ensures c.in_ok-moved.ensures) c.put_table-bytes.ensures
