use Rattle.edits.proofs.Landing.{device-size, disk-size, images_short}
use native.Mathlib.Omega.{arith}
use mathlib.Core.Path.{refl}
use Rattle.edits.proofs.entry_size.Goals as goal

pub overflow_add-result-in-AddDisk-2 : goal.overflow_add-result-in-AddDisk-2
overflow_add-result-in-AddDisk-2 c = let k = images_short c.in-AddDisk.field-0 c.args.a.now c.args.b.now (rw c.in-AddDisk.is at c.requires) in omega (arith, k.0, k.1)

pub returns-in-AddDevice : goal.returns-in-AddDevice
returns-in-AddDevice c = rw c.in-AddDevice.is (device-size c.in-AddDevice.field-0 c.in-AddDevice.field-1 c.in-AddDevice.field-2 c.args.a.now refl)

pub returns-in-AddDisk : goal.returns-in-AddDisk
returns-in-AddDisk c = rw c.in-AddDisk.is (disk-size c.in-AddDisk.field-0 c.args.a.now c.args.b.now)

pub returns-in-ReplaceDevice : goal.returns-in-ReplaceDevice
returns-in-ReplaceDevice c = rw c.in-ReplaceDevice.is (device-size c.in-ReplaceDevice.field-0 c.in-ReplaceDevice.field-1 c.in-ReplaceDevice.field-2 c.args.a.now refl)
