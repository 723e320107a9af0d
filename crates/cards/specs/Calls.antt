-- The public calls that edit a file beside a card, `have` being the length of the lent output: what they answer with an index, which is 0 but where there are many.
-- Assumes nothing.
use Rattle.std.specs.Prelude.{List, ℕ}
use Rattle.answer.specs.Outcome.{Outcome}
use Rattle.aerosnap.specs.Adding.{device, disk, device_named, disk_named}
use Rattle.aerosnap.specs.Edits.{Edit, add, remove, replace}
use Rattle.cards.specs.declared.Card.{Card}
use Rattle.cards.specs.Cards.{open_file, edit_card}

abbrev pub open_call : List ℕ → Outcome Card
open_call file = open_file file

-- a call with one edit
abbrev pub edit_call : ℕ → Card → List ℕ → Edit → ℕ × Outcome (List ℕ × Card)
edit_call have card file e = (0, edit_card have card file e)

abbrev pub add_device_call : ℕ → Card → List ℕ → ℕ → ℕ → ℕ → List ℕ → ℕ × Outcome (List ℕ × Card)
add_device_call have card file id version flags payload = edit_call have card file (add (device id version flags payload))

abbrev pub add_disk_call : ℕ → Card → List ℕ → ℕ → List ℕ → List ℕ → ℕ × Outcome (List ℕ × Card)
add_disk_call have card file id base overlay = edit_call have card file (add (disk id base overlay))

abbrev pub remove_device_call : ℕ → Card → List ℕ → ℕ → ℕ → ℕ → ℕ × Outcome (List ℕ × Card)
remove_device_call have card file id version flags = edit_call have card file (remove (device_named id version flags))

abbrev pub remove_disk_call : ℕ → Card → List ℕ → ℕ → ℕ × Outcome (List ℕ × Card)
remove_disk_call have card file id = edit_call have card file (remove (disk_named id))

abbrev pub replace_device_call : ℕ → Card → List ℕ → ℕ → ℕ → ℕ → List ℕ → ℕ × Outcome (List ℕ × Card)
replace_device_call have card file id version flags payload = edit_call have card file (replace id version flags payload)
