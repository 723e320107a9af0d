use Rattle.edits.proofs.Landing.{landing, fair, free_within, free_lands, new_short, target-same, wants-same}
use Rattle.edits.proofs.Judging.{keyed_have, keyed_absent, keyed_there, keyed_free}
use Rattle.edits.proofs.Plan.{planning_of, measured_of}
use Rattle.edits.specs.declared.Edit.{Edit as Given}
use Rattle.edits.specs.Edits.{edit_of}
use Rattle.edits.specs.Cuts.{bare, side_for, old_entries}
use Rattle.aerosnap.specs.Content.{kind_at}
use Rattle.aerosnap.specs.Adding.{Name, side_of}
use Rattle.aerosnap.specs.Edits.{Edit, target, wants, key_of}
use Rattle.std.proofs.Common.{Result, ℕ}
use Rattle.lists.specs.Promises.{find_in}
use mathlib.Core.Bool.{Bool}
use mathlib.Core.List.{List}
use mathlib.Core.Path.{◌≡◌, sym, ◌∙◌, subst}
use native.Mathlib.Omega.{arith}
use Rattle.edits.proofs.plan_list.Goals as goal

-- the edit with what it brings
module _ (edit : Given) (a b file : List ℕ) where
  abbrev its : Edit
  its = edit_of edit a b

  -- what was found, and whether it was wanted
  abbrev place : Name → Result ℕ ℕ
  place n = find_in (kind_at (side_of n)).key (key_of n) (old_entries (side_of n) file)

  found : {f : Result ℕ ℕ} → f ≡ find_in (kind_at (side_for edit)).key (key_of (target (bare edit))) (old_entries (side_for edit) file) → f ≡ place (target its)
  found {f} h = subst (λ (n : Name). f ≡ place n) (target-same edit a b) h

  wanted : {r v : Bool} → r ≡ wants (bare edit) → r ≡ v → wants its ≡ v
  wanted e q = sym (wants-same edit a b) ∙ sym e ∙ q

pub returns-then-not-wants : goal.returns-then-not-wants
returns-then-not-wants c = let a = c.args in
    keyed_have (edit_of a.edit a.a.now a.b.now) a.file.now c.requires.whole_file.0.read a.have (found a.edit a.a.now a.b.now a.file.now c.in-Ok.ensures) (wanted a.edit a.a.now a.b.now a.file.now c.wants.ensures c.if-not-wants.true)

pub plan_there-requires : goal.plan_there-requires
plan_there-requires c = record { whole_file = c.requires.whole_file; pass = (c.requires.pass, sym c.wants.ensures ∙ c.if-not-wants.false, c.in-Ok.ensures) }

pub returns-then-wants : goal.returns-then-wants
returns-then-wants c = let a = c.args in
    keyed_absent (edit_of a.edit a.a.now a.b.now) a.file.now c.requires.whole_file.0.read a.have (found a.edit a.a.now a.b.now a.file.now c.in-Err.ensures) (wanted a.edit a.a.now a.b.now a.file.now c.wants-in-Err.ensures c.if-wants.true)

pub cut_free-cut-requires : goal.cut_free-cut-requires
cut_free-cut-requires c = let a = c.args in
    let its = landing a.edit a.a.now a.b.now c.requires.whole_file.0.read c.requires.pass c.requires.whole_file.1 in
    let f = found a.edit a.a.now a.b.now a.file.now c.in-Err.ensures in
    let n = wanted a.edit a.a.now a.b.now a.file.now c.wants-in-Err.ensures c.if-wants.false in
    (fair its _ (free_within its f n), omega (arith, c.entry_size.ensures, new_short (edit_of a.edit a.a.now a.b.now) c.requires.pass))

pub plan_at-requires : goal.plan_at-requires
plan_at-requires c = let a = c.args in
    let its = landing a.edit a.a.now a.b.now c.requires.whole_file.0.read c.requires.pass c.requires.whole_file.1 in
    let f = found a.edit a.a.now a.b.now a.file.now c.in-Err.ensures in
    let n = wanted a.edit a.a.now a.b.now a.file.now c.wants-in-Err.ensures c.if-wants.false in
    let planned = planning_of a.edit a.a.now a.b.now c.side_of.ensures c.requires.pass c.requires.whole_file.0 (free_lands its f n (rw c.entry_size.ensures at c.cut_free-cut.ensures)) in
    (planned.whole, measured_of planned)

pub returns-else-not-wants : goal.returns-else-not-wants
returns-else-not-wants c = let a = c.args in
    rw (keyed_there (edit_of a.edit a.a.now a.b.now) a.file.now c.requires.whole_file.0.read a.have (found a.edit a.a.now a.b.now a.file.now c.in-Ok.ensures) (wanted a.edit a.a.now a.b.now a.file.now c.wants.ensures c.if-not-wants.false)) c.plan_there.ensures

pub returns-else-wants : goal.returns-else-wants
returns-else-wants c = let a = c.args in
    let e = edit_of a.edit a.a.now a.b.now in
    let its = landing a.edit a.a.now a.b.now c.requires.whole_file.0.read c.requires.pass c.requires.whole_file.1 in
    let f = found a.edit a.a.now a.b.now a.file.now c.in-Err.ensures in
    let n = wanted a.edit a.a.now a.b.now a.file.now c.wants-in-Err.ensures c.if-wants.false in
    let planned = planning_of a.edit a.a.now a.b.now c.side_of.ensures c.requires.pass c.requires.whole_file.0 (free_lands its f n (rw c.entry_size.ensures at c.cut_free-cut.ensures)) in
    rw (keyed_free e a.file.now c.requires.whole_file.0.read a.have f n) (c.plan_at.ensures e planned)
