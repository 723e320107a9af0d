use mathlib.Core.Path.{sym, ap, ◌∙◌}
use mathlib.Core.List.{List}
use Prim.Native.Nat.{ℕ}
use lib.ListN.{replicate}
use Rattle.wire.specs.Parts.{splice}
use Rattle.answer.proofs.Checks.{asked_stop, asked-pass, pass-checked}
use Rattle.answer.specs.Calls.{outcome_of, asked}
use Rattle.answer.specs.Outcome.{taken}
use Rattle.fields.specs.Fields.{state_checks}
use Rattle.fields.proofs.Splices.{stored, undone}
use Rattle.fields.proofs.Outcomes.{changes_refused, changes_taken}
use Rattle.fields.proofs.store_at.Goals as goal

pub returns-in-Err : goal.returns-in-Err
returns-in-Err c =
    let a = c.args in
    let new = splice a.at a.v.now a.s.now in
    let two = stored a.at a.v.now a.s.now (replicate 512 0) c.requires.0 c.copy_from_slice-2.ensures.after in
    let bad = sym (ap outcome_of c.in-Err.is) ∙ c.judge.ensures ∙ ap (λ (l : List ℕ). asked (state_checks a.kind l)) two in
    let same = undone a.at a.v.now a.s.now (replicate 512 0) c.requires.0 c.copy_from_slice-2.ensures.after c.copy_from_slice.ensures.after c.copy_from_slice-in-Err.ensures.after in
    rw same (changes_refused (asked_stop (state_checks a.kind new) (taken new) bad))

pub returns : goal.returns
returns c =
    let a = c.args in
    let new = splice a.at a.v.now a.s.now in
    let two = stored a.at a.v.now a.s.now (replicate 512 0) c.requires.0 c.copy_from_slice-2.ensures.after in
    let good = sym (ap outcome_of c.in_default.is) ∙ c.judge.ensures ∙ ap (λ (l : List ℕ). asked (state_checks a.kind l)) two in
    changes_taken (pass-checked (state_checks a.kind new) (taken new) (asked-pass (state_checks a.kind new) good)) two
