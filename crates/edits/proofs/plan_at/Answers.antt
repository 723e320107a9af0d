use Rattle.answer.proofs.Outcomes.{handed_on}
use Rattle.edits.proofs.Judging.{resize}
use Rattle.edits.proofs.Plan.{plan_stop, plan_fits}
use Rattle.entries.specs.Kinds.{Description}
use Rattle.sections.proofs.Directed.{whole-held}
use Rattle.sections.specs.Walks.{sections_in}
use Rattle.aerosnap.specs.Content.{content_of, secs, render}
use lib.ListN.{length}
use mathlib.Core.Path.{◌≡◌, ◌∙◌, ap, refl}
use Rattle.edits.proofs.plan_at.Goals as goal

pub resized-new-requires : goal.resized-new-requires
resized-new-requires c =
    let numbers : let s = c.args.file.now in (c.sized-old.result.sections ≡ length (secs (content_of (sections_in s)))) × (c.sized-old.result.bytes ≡ length (render (content_of (sections_in s)))) = rw (whole-held c.requires.0) at c.sized-old.ensures in
    let z = numbers in resize c.requires.0.read c.requires.1 z.0 z.1 c.list_length.ensures

pub returns-in_err-bounds : goal.returns-in_err-bounds
returns-in_err-bounds c = λ e z.
    let numbers : let s = c.args.file.now in (c.sized-old.result.sections ≡ length (secs (content_of (sections_in s)))) × (c.sized-old.result.bytes ≡ length (render (content_of (sections_in s)))) = rw (whole-held c.requires.0) at c.sized-old.ensures in
    rw (handed_on _ c.in_err-bounds.field-0.0 c.from_residual.ensures.1)
    (plan_stop z numbers.0 numbers.1 c.list_length.ensures c.resized-new.ensures.0 c.resized-new.ensures.1 c.args.have
    (c.most_of.ensures ∙ ap (λ (d : Description). d.most) c.kind_at.ensures) c.id_at.ensures.0 c.in_err-bounds.ensures refl)

pub returns : goal.returns
returns c = λ e z.
    let numbers : let s = c.args.file.now in (c.sized-old.result.sections ≡ length (secs (content_of (sections_in s)))) × (c.sized-old.result.bytes ≡ length (render (content_of (sections_in s)))) = rw (whole-held c.requires.0) at c.sized-old.ensures in
    plan_fits z numbers.0 numbers.1 c.list_length.ensures c.resized-new.ensures.0 c.resized-new.ensures.1 c.args.have
    (c.most_of.ensures ∙ ap (λ (d : Description). d.most) c.kind_at.ensures) c.id_at.ensures.0 c.in_ok-bounds.ensures refl
