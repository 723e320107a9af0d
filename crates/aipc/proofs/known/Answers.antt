use Rattle.answer.specs.Outcome.{taken}
use Rattle.aipc.proofs.Walks.{end_small}
use Rattle.aipc.proofs.Going.{part_stops, part_passes, part_goes}
use Rattle.aipc.specs.Steps.{behind, formed}
use Rattle.messages.specs.Reading.{cell_checks, body_checks, numbers_end, message_content}
use Rattle.kinds.specs.Kinds.{cells, ok_of}
use native.Mathlib.Omega.{arith}
use Prim.Native.Nat.{ℕ}
use mathlib.Core.Path.{◌∙◌, ap}
use Rattle.aipc.proofs.known.Goals as goal

pub returns-in_err-at : goal.returns-in_err-at
unfolding formed
returns-in_err-at c = let a = c.args in
    part_stops (cell_checks (ok_of a.f) (cells a.f) 2 a.m.now) (numbers_end a.f) _ c.in_err-at.ensures c.from_residual.result (behind a.message a.f.body (numbers_end a.f) a.m.now) c.from_residual.ensures.1

pub body_test-requires : goal.body_test-requires
body_test-requires c = let a = c.args in omega (arith, end_small a.f, (part_passes (cell_checks (ok_of a.f) (cells a.f) 2 a.m.now) (numbers_end a.f) c.in_ok-at.ensures).1)

pub content-requires : goal.content-requires
content-requires c = let a = c.args in omega (arith, end_small a.f, (part_passes (cell_checks (ok_of a.f) (cells a.f) 2 a.m.now) (numbers_end a.f) c.in_ok-at.ensures).1)

pub returns-in_err-body_test : goal.returns-in_err-body_test
unfolding formed behind
returns-in_err-body_test c = let a = c.args in
    let e = c.in_ok-at.at in
    part_stops (body_checks a.f.body e a.m.now) tt _ c.in_err-body_test.ensures c.from_residual-in_err-body_test.result (taken (message_content a.message a.f.body e a.m.now)) c.from_residual-in_err-body_test.ensures.1
    ∙ part_goes (cell_checks (ok_of a.f) (cells a.f) 2 a.m.now) (numbers_end a.f) (λ (n : ℕ). behind a.message a.f.body n a.m.now) c.in_ok-at.ensures

pub returns : goal.returns
unfolding formed behind
returns c = let a = c.args in
    let e = c.in_ok-at.at in
    ap taken c.content.ensures ∙ part_goes (body_checks a.f.body e a.m.now) tt (λ _. taken (message_content a.message a.f.body e a.m.now)) c.in_ok-body_test.ensures
    ∙ part_goes (cell_checks (ok_of a.f) (cells a.f) 2 a.m.now) (numbers_end a.f) (λ (n : ℕ). behind a.message a.f.body n a.m.now) c.in_ok-at.ensures
