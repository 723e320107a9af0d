use Rattle.answer.proofs.Outcomes.{handed_on}
use Rattle.edits.proofs.Plan.{ready_is, ready_fills, ready_holds}
use Rattle.edits.proofs.Carding.{ready_modest, ready_moves}
use Rattle.cards.proofs.Answers.{beside_refused, beside_taken}
use Rattle.edits.proofs.Landing.{side_same}
use Rattle.edits.specs.Edits.{edit_of}
use Rattle.edits.specs.Cuts.{PayloadWith, side_for, entry_for, file_bytes}
use Rattle.edits.specs.Steps.{Holds}
use Rattle.aerosnap.specs.declared.Side.{Side}
use Rattle.aerosnap.specs.Adding.{side_of}
use Rattle.aerosnap.specs.Edits.{Edit, target}
use lib.ListN.{length}
use mathlib.Core.Path.{◌≡◌, sym, ◌∙◌, subst}
use Rattle.edits.proofs.put_change.Goals as goal

pub card_before-requires : goal.card_before-requires
card_before-requires c =
    let edit : Edit = let a = c.args in edit_of a.edit a.a.now a.b.now in
    ready_modest (c.requires)

pub card_behind-requires : goal.card_behind-requires
card_behind-requires c =
    let edit : Edit = let a = c.args in edit_of a.edit a.a.now a.b.now in
    ready_modest (c.requires)

pub put_edited-bytes-requires : goal.put_edited-bytes-requires
put_edited-bytes-requires c =
    let edit : Edit = let a = c.args in edit_of a.edit a.a.now a.b.now in
    let same : side_for c.args.edit ≡ side_of (target (edit)) = side_same c.args.edit c.args.a.now c.args.b.now in
    let a = c.args in
    let z = c.requires in
    record { whole_file = (z.whole, rw (same) z.lands.cuts); pass = (z.own, subst (λ (i : Side). PayloadWith i a.file.now a.x.site a.x.cut (length (entry_for (edit)))) (sym (same)) (ready_fills z), subst (λ (i : Side). Holds (length a.out.now) (file_bytes i a.file.now a.x.site a.x.cut (entry_for (edit)))) (sym (same)) (ready_holds z)) }

pub returns-in_err-moved : goal.returns-in_err-moved
returns-in_err-moved c = let a = c.args in
    rw (handed_on _ (record { index = 0; fault = c.in_err-moved.field-0.0 }) c.from_residual.ensures.1)
    (beside_refused 0 (ready_moves c.requires a.card (c.side_of-side.ensures ∙ side_same a.edit a.a.now a.b.now) c.card_before.ensures c.card_behind.ensures c.in_err-moved.ensures))

pub returns : goal.returns
returns c = let a = c.args in
    let same = side_same a.edit a.a.now a.b.now in
    beside_taken 0 (ready_moves c.requires a.card (c.side_of-side.ensures ∙ same) c.card_before.ensures c.card_behind.ensures c.in_ok-moved.ensures)
    (rw (ready_is c.requires) (rw same at c.put_edited-bytes.ensures))
