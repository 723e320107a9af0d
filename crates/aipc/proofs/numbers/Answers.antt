use Rattle.answer.proofs.Outcomes.{passes}
use Rattle.kinds.specs.Kinds.{cells, ok_of}
use Rattle.aipc.proofs.Walks.{walked_checks, first_stops, second_stops, third_stops, fourth_ends}
use mathlib.Core.Path.{◌∙◌}
use Rattle.aipc.proofs.numbers.Goals as goal

pub returns-in_err-a : goal.returns-in_err-a
returns-in_err-a c = let f = c.args.f in let m = c.args.m.now in
    passes _ c.in_err-a.field-0.0 c.from_residual.ensures.1 (first_stops (ok_of f) f.a f.b f.c f.d m (rw c.ok-ok.ensures at c.in_err-a.ensures) ∙ walked_checks (ok_of f) (cells f) m 2)

pub returns-in_err-b : goal.returns-in_err-b
returns-in_err-b c = let f = c.args.f in let m = c.args.m.now in
    passes _ c.in_err-b.field-0.0 c.from_residual-in_err-b.ensures.1 (second_stops (ok_of f) f.a f.b f.c f.d m (rw c.ok-ok.ensures at c.in_ok-a.ensures) (rw c.ok-ok.ensures at c.in_err-b.ensures) ∙ walked_checks (ok_of f) (cells f) m 2)

pub returns-in_err-c : goal.returns-in_err-c
returns-in_err-c c = let f = c.args.f in let m = c.args.m.now in
    passes _ c.in_err-c.field-0.0 c.from_residual-in_err-c.ensures.1 (third_stops (ok_of f) f.a f.b f.c f.d m (rw c.ok-ok.ensures at c.in_ok-a.ensures) (rw c.ok-ok.ensures at c.in_ok-b.ensures) (rw c.ok-ok.ensures at c.in_err-c.ensures) ∙ walked_checks (ok_of f) (cells f) m 2)

pub returns : goal.returns
returns c = let f = c.args.f in let m = c.args.m.now in
    c.field_at-4.ensures ∙ (rw c.ok-ok.ensures (fourth_ends (ok_of f) f.a f.b f.c f.d m (rw c.ok-ok.ensures at c.in_ok-a.ensures) (rw c.ok-ok.ensures at c.in_ok-b.ensures) (rw c.ok-ok.ensures at c.in_ok-c.ensures)) ∙ walked_checks (ok_of f) (cells f) m 2)
