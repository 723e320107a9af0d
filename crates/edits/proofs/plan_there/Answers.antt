use Rattle.edits.proofs.Landing.{Landing, landing, fair, there-within, gone_within, there_lands, new_short, target-same, side_same, wants-same}
use Rattle.edits.proofs.Plan.{planning_of, measured_of}
use Rattle.edits.specs.declared.Edit.{Edit as Given}
use Rattle.edits.specs.declared.Site.{Site}
use Rattle.edits.specs.Edits.{edit_of}
use Rattle.edits.specs.Cuts.{bare, side_for, own_rows, HoldsList, old_entries, site_bytes}
use Rattle.answer.specs.Outcome.{Pass}
use Rattle.writer.specs.Runs.{entry_by}
use Rattle.sections.specs.Walks.{Read}
use Rattle.aerosnap.specs.declared.Side.{Side}
use Rattle.aerosnap.specs.Content.{kind_at}
use Rattle.aerosnap.specs.Adding.{Name, side_of}
use Rattle.aerosnap.specs.Edits.{Edit, target, wants, key_of}
use Rattle.entries.specs.Kinds.{Description}
use Rattle.std.proofs.Common.{Ok}
use Rattle.lists.specs.Promises.{find_in}
use mathlib.Core.Bool.{true}
use mathlib.Core.List.{List}
use mathlib.Core.Path.{◌≡◌, sym, ◌∙◌, ap, subst}
use Prim.Native.Nat.{ℕ, ◌+◌, ◌-◌, ◌≤◌, ◌<◌}
use lib.ListN.{length, get_or}
use native.Mathlib.Omega.{arith}
use Rattle.edits.proofs.plan_there.Goals as goal

-- an edit that wants the entry q of its list, where that stands
module _ (edit : Given) (a b file index : List ℕ) (site : Site) (q : ℕ) (read : Read file) (pass : Pass (own_rows (edit_of edit a b))) (holds : HoldsList (side_for edit) file index site)
    (is_wanted : wants (bare edit) ≡ true) (found : Ok q ≡ find_in (kind_at (side_for edit)).key (key_of (target (bare edit))) (old_entries (side_for edit) file)) where
  abbrev e : Edit
  e = edit_of edit a b

  its : Landing e file index site
  its = landing edit a b read pass holds

  there : Ok q ≡ find_in (kind_at (side_of (target e))).key (key_of (target e)) (old_entries (side_of (target e)) file)
  there = subst (λ (n : Name). Ok q ≡ find_in (kind_at (side_of n)).key (key_of n) (old_entries (side_of n) file)) (target-same edit a b) found

  wanted : wants e ≡ true
  wanted = sym (wants-same edit a b) ∙ is_wanted

  within : q + 1 ≤ site.last - site.first
  within = there-within its there wanted

  inside : site.first + q < length index
  inside = omega (arith, within, holds.lasts, holds.firsts)

  -- how many bytes it has
  gone : {d : Description} {side : Side} {n : ℕ} → d ≡ kind_at side → side ≡ side_for edit → n ≡ length (entry_by d (site_bytes file site) (get_or index (site.first + q) 0))
      → n ≡ length (entry_by (kind_at (side_of (target e))) (site_bytes file site) (get_or index (site.first + q) 0))
  gone k i h = h ∙ ap (λ (d : Description). length (entry_by d (site_bytes file site) (get_or index (site.first + q) 0))) (k ∙ ap kind_at (i ∙ side_same edit a b))

pub overflow_add-low : goal.overflow_add-low
overflow_add-low c = let a = c.args in let p = c.requires in
    omega (arith, inside a.edit a.a.now a.b.now a.file.now a.index.now a.site a.q p.whole_file.0.read p.pass.0 p.whole_file.1 p.pass.1 p.pass.2, c.ranges)

pub offset_bounds-index-low : goal.offset_bounds-index-low
offset_bounds-index-low c = let a = c.args in let p = c.requires in
    omega (arith, inside a.edit a.a.now a.b.now a.file.now a.index.now a.site a.q p.whole_file.0.read p.pass.0 p.whole_file.1 p.pass.1 p.pass.2, c.ranges)

pub bounds-index-low : goal.bounds-index-low
bounds-index-low c = let a = c.args in let p = c.requires in
    omega (arith, inside a.edit a.a.now a.b.now a.file.now a.index.now a.site a.q p.whole_file.0.read p.pass.0 p.whole_file.1 p.pass.1 p.pass.2)

pub overflow_cast-index : goal.overflow_cast-index
overflow_cast-index c = omega (arith, c.type_inv.index (c.args.site.first + c.args.q))

pub cut_there-cut-requires : goal.cut_there-cut-requires
cut_there-cut-requires c = let a = c.args in let p = c.requires in
    let its = its a.edit a.a.now a.b.now a.file.now a.index.now a.site a.q p.whole_file.0.read p.pass.0 p.whole_file.1 p.pass.1 p.pass.2 in
    let there = there a.edit a.a.now a.b.now a.file.now a.index.now a.site a.q p.whole_file.0.read p.pass.0 p.whole_file.1 p.pass.1 p.pass.2 in
    let wanted = wanted a.edit a.a.now a.b.now a.file.now a.index.now a.site a.q p.whole_file.0.read p.pass.0 p.whole_file.1 p.pass.1 p.pass.2 in
    let within = within a.edit a.a.now a.b.now a.file.now a.index.now a.site a.q p.whole_file.0.read p.pass.0 p.whole_file.1 p.pass.1 p.pass.2 in
    let gone = gone a.edit a.a.now a.b.now a.file.now a.index.now a.site a.q p.whole_file.0.read p.pass.0 p.whole_file.1 p.pass.1 p.pass.2 c.kind_at.ensures c.side_of-side.ensures c.length_at-gone.ensures in
    (fair its (a.q + 1) within, omega (arith, c.entry_size.ensures, new_short (edit_of a.edit a.a.now a.b.now) p.pass.0), gone_within its there wanted gone)

pub plan_at-requires : goal.plan_at-requires
plan_at-requires c = let a = c.args in let p = c.requires in
    let its = its a.edit a.a.now a.b.now a.file.now a.index.now a.site a.q p.whole_file.0.read p.pass.0 p.whole_file.1 p.pass.1 p.pass.2 in
    let there = there a.edit a.a.now a.b.now a.file.now a.index.now a.site a.q p.whole_file.0.read p.pass.0 p.whole_file.1 p.pass.1 p.pass.2 in
    let wanted = wanted a.edit a.a.now a.b.now a.file.now a.index.now a.site a.q p.whole_file.0.read p.pass.0 p.whole_file.1 p.pass.1 p.pass.2 in
    let gone = gone a.edit a.a.now a.b.now a.file.now a.index.now a.site a.q p.whole_file.0.read p.pass.0 p.whole_file.1 p.pass.1 p.pass.2 c.kind_at.ensures c.side_of-side.ensures c.length_at-gone.ensures in
    let planned = planning_of a.edit a.a.now a.b.now c.side_of-side.ensures p.pass.0 p.whole_file.0 (there_lands its there wanted gone (rw c.entry_size.ensures at c.cut_there-cut.ensures)) in
    (planned.whole, measured_of planned)

pub returns : goal.returns
returns c = let a = c.args in let p = c.requires in
    let its = its a.edit a.a.now a.b.now a.file.now a.index.now a.site a.q p.whole_file.0.read p.pass.0 p.whole_file.1 p.pass.1 p.pass.2 in
    let there = there a.edit a.a.now a.b.now a.file.now a.index.now a.site a.q p.whole_file.0.read p.pass.0 p.whole_file.1 p.pass.1 p.pass.2 in
    let wanted = wanted a.edit a.a.now a.b.now a.file.now a.index.now a.site a.q p.whole_file.0.read p.pass.0 p.whole_file.1 p.pass.1 p.pass.2 in
    let gone = gone a.edit a.a.now a.b.now a.file.now a.index.now a.site a.q p.whole_file.0.read p.pass.0 p.whole_file.1 p.pass.1 p.pass.2 c.kind_at.ensures c.side_of-side.ensures c.length_at-gone.ensures in
    c.plan_at.ensures (edit_of a.edit a.a.now a.b.now) (planning_of a.edit a.a.now a.b.now c.side_of-side.ensures p.pass.0 p.whole_file.0 (there_lands its there wanted gone (rw c.entry_size.ensures at c.cut_there-cut.ensures)))
