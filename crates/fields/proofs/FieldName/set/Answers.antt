use native.Mathlib.Omega.{arith}
use mathlib.Core.Path.{sym, ◌∙◌}
use borrow.Author.Tests.{eq-eqb, ne_eqb}
use lib.ListN.{length}
use Rattle.answer.proofs.Outcomes.{handed_on}
use Rattle.fields.proofs.Outcomes.{found, changes_refused, sets_tried, sets_wide, sets_lacks, sets_length}
use Rattle.fields.proofs.FieldName.set.Goals as goal

pub returns-then-not-right_length : goal.returns-then-not-right_length
returns-then-not-right_length c =
    let a = c.args in changes_refused (sets_length a.self.kind a.self.number a.self.index a.v.now a.state.now (sym c.right_length.ensures ∙ c.if-not-right_length.true))

pub returns-in_err-spot : goal.returns-in_err-spot
returns-in_err-spot c =
    let a = c.args in
    rw (handed_on _ c.in_err-spot.field-0.0 c.from_residual.ensures.1) (changes_refused (sets_lacks a.self.kind a.self.number a.self.index a.v.now a.state.now (sym c.right_length.ensures ∙ c.if-not-right_length.false) c.in_err-spot.ensures))

pub returns-then-v-spot : goal.returns-then-v-spot
returns-then-v-spot c =
    let a = c.args in
    changes_refused (sets_wide a.self.kind a.self.number a.self.index a.v.now a.state.now (sym c.right_length.ensures ∙ c.if-not-right_length.false) c.in_ok-spot.ensures (ne_eqb _ _ c.if-v-spot.true))

pub store_at-requires : goal.store_at-requires
store_at-requires c =
    let a = c.args in
    let g = found a.self.kind a.self.number a.self.index (length a.state.now) c.in_ok-spot.ensures in
    (omega (arith, g.ends, c.if-v-spot.false), omega (arith, g.short, c.if-v-spot.false))

pub returns : goal.returns
returns c =
    let a = c.args in
    rw (sets_tried a.self.kind a.self.number a.self.index a.v.now a.state.now (sym c.right_length.ensures ∙ c.if-not-right_length.false) c.in_ok-spot.ensures (eq-eqb _ _ c.if-v-spot.false)) c.store_at.ensures
