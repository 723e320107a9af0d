use Rattle.edits.proofs.Sites.{searched}
use Rattle.aerosnap.specs.Content.{kind_at}
use mathlib.Core.Path.{◌∙◌, ap}
use Rattle.edits.proofs.search.Goals as goal

pub returns : goal.returns
returns c = searched c.requires (c.kind_at.ensures ∙ ap kind_at c.side_of.ensures) c.edit_key.ensures c.find_ordered.ensures
