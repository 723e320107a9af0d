use Rattle.answer.proofs.Outcomes.{handed_on, fills_stop}
use Rattle.fields.proofs.Outcomes.{reads_fault, reads_fine, reads_lacks}
use Rattle.fields.proofs.FieldName.read.Goals as goal

pub returns-in_err-spot : goal.returns-in_err-spot
returns-in_err-spot c =
    let a = c.args in
    rw (handed_on _ c.in_err-spot.field-0.0 c.from_residual.ensures.1) (fills_stop _ c.in_err-spot.field-0.0 (reads_lacks a.self.kind a.state.now a.self.number a.self.index _ c.in_err-spot.ensures))

pub returns-in_err-judge : goal.returns-in_err-judge
returns-in_err-judge c =
    let a = c.args in
    rw (handed_on _ c.in_err-judge.field-0.0 c.from_residual-in_err-judge.ensures.1) (fills_stop _ c.in_err-judge.field-0.0 (reads_fault a.self.kind a.state.now a.self.number a.self.index _ c.in_ok-spot.ensures c.in_err-judge.ensures))

pub returns : goal.returns
returns c =
    let a = c.args in
    rw (reads_fine a.self.kind a.state.now a.self.number a.self.index _ c.in_ok-spot.ensures c.in_ok-judge.ensures) c.hand_out.ensures
