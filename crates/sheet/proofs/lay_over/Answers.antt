use mathlib.Core.Path.{◌≡◌, sym, ap, ◌∙◌}
use mathlib.Core.List.{List, ◌++◌}
use native.Mathlib.Omega.{arith}
use Prim.Native.Nat.{ℕ, min}
use lib.ListN.{length, drop, replicate}
use lib.Seq.{length-take-le}
use Rattle.answer.proofs.Checks.{asked_stop, asked-pass, pass-checked}
use Rattle.answer.specs.Calls.{outcome_of, asked}
use Rattle.answer.specs.Outcome.{taken}
use Rattle.fields.proofs.Outcomes.{changes_refused, changes_taken}
use Rattle.fields.specs.Fields.{state_checks}
use Rattle.fields.specs.declared.State.TheVariants.{Cpu}
use Rattle.sheet.specs.Sheet.{cpu_over}
use Rattle.sheet.proofs.Answers.{cpu_wide, over-stored, over_apart, over-length, reach_over, restored}
use Rattle.sheet.proofs.lay_over.Goals as goal
use Rattle.sheet.proofs.lay_over.Goals.{then-not-right_length-via-then-not-right_length, then-not-right_length-via-else-not-right_length+then-not-agrees}

pub returns-then-not-right_length : goal.returns-then-not-right_length
returns-then-not-right_length c =
    let a = c.args in
    elim c.then-not-right_length.branch [
      | then-not-right_length-via-then-not-right_length w ↦ changes_refused (over-length a.sheet a.state.now (sym c.right_length.ensures ∙ w.if-not-right_length.true))
      | then-not-right_length-via-else-not-right_length+then-not-agrees w ↦ changes_refused (over_apart a.sheet a.state.now (sym c.right_length.ensures ∙ w.if-not-right_length.false) (sym w.agrees.ensures ∙ w.if-not-agrees.true))
    ]

pub write_cpu-requires : goal.write_cpu-requires
write_cpu-requires c =
    let s = c.args.state.now in
    let wide = cpu_wide s (sym c.right_length.ensures ∙ c.if-not-right_length.false) in
    let few : c.min-n.result ≡ min (length s) 1191 = c.min-n.ensures in
    let long = length-take-le c.min-n.result s (omega arith) in
    omega arith

pub returns-in-Err : goal.returns-in-Err
returns-in-Err c =
    let s = c.args.state.now in
    let n = c.min-n.result in
    let few : n ≡ min (length s) 1191 = c.min-n.ensures in
    let new = cpu_over c.args.sheet s in
    let written : c.write_cpu.new.s ++ drop n s ≡ new = reach_over s few c.args.sheet c.write_cpu.ensures in
    let bad = sym (ap outcome_of c.in-Err.is) ∙ c.judge.ensures ∙ ap (λ (l : List ℕ). asked (state_checks Cpu l)) written in
    let same = restored s few (replicate 1191 0) c.write_cpu.new.s c.write_cpu.auto.s c.copy_from_slice.ensures.after c.copy_from_slice-in-Err.ensures.after in
    rw same (changes_refused (over-stored c.args.sheet s (sym c.right_length.ensures ∙ c.if-not-right_length.false) (sym c.agrees.ensures ∙ c.if-not-agrees.false) ∙ asked_stop (state_checks Cpu new) (taken new) bad))

pub returns : goal.returns
returns c =
    let s = c.args.state.now in
    let n = c.min-n.result in
    let few : n ≡ min (length s) 1191 = c.min-n.ensures in
    let new = cpu_over c.args.sheet s in
    let written : c.write_cpu.new.s ++ drop n s ≡ new = reach_over s few c.args.sheet c.write_cpu.ensures in
    let good = sym (ap outcome_of c.in_default.is) ∙ c.judge.ensures ∙ ap (λ (l : List ℕ). asked (state_checks Cpu l)) written in
    rw c.count_of.ensures (changes_taken (over-stored c.args.sheet s (sym c.right_length.ensures ∙ c.if-not-right_length.false) (sym c.agrees.ensures ∙ c.if-not-agrees.false) ∙ pass-checked (state_checks Cpu new) (taken new) (asked-pass (state_checks Cpu new) good)) written)
