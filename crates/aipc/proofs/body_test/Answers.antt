use Rattle.answer.proofs.Outcomes.{passes}
use Rattle.aipc.specs.Steps.{text_part}
use Rattle.aipc.proofs.Going.{part_stops, part_goes, part_passes}
use Rattle.aipc.proofs.Walks.{data_within, text_goes, both_stop, both_go}
use Rattle.messages.specs.Reading.{left_over_checks, data_fits, body_checks, data_length}
use Rattle.answer.specs.Calls.{asked}
use Prim.Native.Nat.{ℕ, ◌+◌}
use mathlib.Core.Path.{◌∙◌}
use Rattle.aipc.proofs.body_test.Goals as goal

pub returns-in-Empty : goal.returns-in-Empty
unfolding body_checks
returns-in-Empty c = rw c.in-Empty.is c.ended.ensures

pub returns-in_err-end-in-Bytes : goal.returns-in_err-end-in-Bytes
unfolding body_checks
returns-in_err-end-in-Bytes c = let a = c.args in
    rw c.in-Bytes.is (part_stops (data_fits a.at a.m.now) _ _ c.in_err-end-in-Bytes.ensures c.from_residual.result _ c.from_residual.ensures.1)

pub returns-in_ok-end-in-Bytes : goal.returns-in_ok-end-in-Bytes
unfolding body_checks
returns-in_ok-end-in-Bytes c = let a = c.args in
    rw c.in-Bytes.is (c.ended-in-Bytes.ensures ∙ part_goes (data_fits a.at a.m.now) _ (λ (e : ℕ). asked (left_over_checks a.m.now e)) c.in_ok-end-in-Bytes.ensures)

pub returns-in_err-end-in-Text : goal.returns-in_err-end-in-Text
unfolding body_checks
returns-in_err-end-in-Text c = let a = c.args in
    rw c.in-Text.is (part_stops (data_fits a.at a.m.now) _ _ c.in_err-end-in-Text.ensures c.from_residual-in_err-end-in-Text.result _ c.from_residual-in_err-end-in-Text.ensures.1)

pub text_part-requires : goal.text_part-requires
text_part-requires c = let a = c.args in data_within a.at a.m.now (part_passes (data_fits a.at a.m.now) (a.at + 4 + data_length a.at a.m.now) c.in_ok-end-in-Text.ensures)

pub returns-in_err-text_part-in-Text : goal.returns-in_err-text_part-in-Text
returns-in_err-text_part-in-Text c = let a = c.args in
    let e = c.in_ok-end-in-Text.end in
    rw c.in-Text.is (passes _ c.in_err-text_part-in-Text.field-0.0 c.from_residual-in_err-text_part-in-Text.ensures.1
    (both_stop (text_part (a.at + 4) e a.m.now) (left_over_checks a.m.now e) c.in_err-text_part-in-Text.ensures ∙ text_goes a.at a.m.now c.in_ok-end-in-Text.ensures))

pub returns-in_ok-text_part-in-Text : goal.returns-in_ok-text_part-in-Text
returns-in_ok-text_part-in-Text c = let a = c.args in
    let e = c.in_ok-end-in-Text.end in
    rw c.in-Text.is (c.ended-in-Text.ensures ∙ both_go (text_part (a.at + 4) e a.m.now) (left_over_checks a.m.now e) c.in_ok-text_part-in-Text.ensures ∙ text_goes a.at a.m.now c.in_ok-end-in-Text.ensures)
