use Rattle.edits.proofs.Landing.{images_short}
use Rattle.edits.proofs.put_new.Goals as goal

pub put_device-requires : goal.put_device-requires
put_device-requires c = rw c.in-AddDevice.is at c.requires.1

pub put_disk-requires : goal.put_disk-requires
put_disk-requires c = let k = images_short c.in-AddDisk.id c.args.a.now c.args.b.now (rw c.in-AddDisk.is at c.requires.0) in
    (rw c.in-AddDisk.is at c.requires.1, k.0, k.1)

pub put_device-requires-in-ReplaceDevice : goal.put_device-requires-in-ReplaceDevice
put_device-requires-in-ReplaceDevice c = rw c.in-ReplaceDevice.is at c.requires.1

pub returns-in-AddDevice : goal.returns-in-AddDevice
returns-in-AddDevice c = rw c.in-AddDevice.is c.put_device.ensures

pub returns-in-AddDisk : goal.returns-in-AddDisk
returns-in-AddDisk c = rw c.in-AddDisk.is c.put_disk.ensures

pub returns-in-ReplaceDevice : goal.returns-in-ReplaceDevice
returns-in-ReplaceDevice c = rw c.in-ReplaceDevice.is c.put_device-in-ReplaceDevice.ensures
