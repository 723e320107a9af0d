use Rattle.edits.proofs.Entry.{device_number, disk_number}
use native.Mathlib.Omega.{arith}
use mathlib.Core.Path.{◌∙◌}
use Rattle.edits.proofs.edit_key.Goals as goal

pub returns-in-AddDevice : goal.returns-in-AddDevice
returns-in-AddDevice c = rw c.in-AddDevice.is (c.device_key.ensures ∙ device_number c.in-AddDevice.id c.in-AddDevice.version c.in-AddDevice.flags (omega arith) (omega arith) (omega arith))

pub returns-in-AddDisk : goal.returns-in-AddDisk
returns-in-AddDisk c = rw c.in-AddDisk.is (disk_number c.in-AddDisk.id (omega arith))

pub returns-in-RemoveDevice : goal.returns-in-RemoveDevice
returns-in-RemoveDevice c = rw c.in-RemoveDevice.is (c.device_key-in-RemoveDevice.ensures ∙ device_number c.in-RemoveDevice.id c.in-RemoveDevice.version c.in-RemoveDevice.flags (omega arith) (omega arith) (omega arith))

pub returns-in-RemoveDisk : goal.returns-in-RemoveDisk
returns-in-RemoveDisk c = rw c.in-RemoveDisk.is (disk_number c.in-RemoveDisk.id (omega arith))

pub returns-in-ReplaceDevice : goal.returns-in-ReplaceDevice
returns-in-ReplaceDevice c = rw c.in-ReplaceDevice.is (c.device_key-in-ReplaceDevice.ensures ∙ device_number c.in-ReplaceDevice.id c.in-ReplaceDevice.version c.in-ReplaceDevice.flags (omega arith) (omega arith) (omega arith))
