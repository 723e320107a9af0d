use Rattle.sections.proofs.Directed.{whole-held}
use Rattle.sections.specs.Walks.{sections_in}
use Rattle.edits.proofs.Carding.{open_light, open_taken}
use Rattle.aerosnap.specs.Content.{content_of, secs, render}
use mathlib.Core.Path.{◌≡◌, refl}
use lib.ListN.{length}
use Rattle.edits.proofs.card_by.Goals as goal

pub sized-size-requires : goal.sized-size-requires
sized-size-requires c = c.requires.filed

pub payload_sum-sum-requires : goal.payload_sum-sum-requires
payload_sum-sum-requires c = open_light c.requires.read c.site_at-site.ensures

pub returns : goal.returns
returns c = let s = c.args.file.now in
    let numbers : (c.sized-size.result.sections ≡ length (secs (content_of (sections_in s)))) × (c.sized-size.result.bytes ≡ length (render (content_of (sections_in s)))) = rw (whole-held c.requires) at c.sized-size.ensures in
    open_taken c.requires.read c.site_at-site.ensures numbers.0 numbers.1 refl c.payload_sum-sum.ensures
