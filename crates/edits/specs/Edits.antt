-- An edit by its numbers, as its caller names it.
-- Assumes nothing.
use Rattle.std.specs.Prelude.{List, ℕ}
use Rattle.aerosnap.specs.Adding.{device, disk, device_named, disk_named}
use Rattle.aerosnap.specs.Edits.{Edit, add, remove, replace}
use Rattle.edits.specs.declared.Edit as code
use Rattle.edits.specs.declared.Edit.TheVariants.{AddDevice, AddDisk, RemoveDevice, RemoveDisk, ReplaceDevice}

-- the edit that the numbers stand for, with what it brings beside them: a payload, or two images
abbrev pub edit_of : code.Edit → List ℕ → List ℕ → Edit
edit_of (AddDevice id v f) a b = add (device id v f a)
edit_of (AddDisk id) a b = add (disk id a b)
edit_of (RemoveDevice id v f) a b = remove (device_named id v f)
edit_of (RemoveDisk id) a b = remove (disk_named id)
edit_of (ReplaceDevice id v f) a b = replace id v f a
