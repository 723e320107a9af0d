use Rattle.edits.proofs.own.Goals as goal

pub returns-in-AddDevice : goal.returns-in-AddDevice
returns-in-AddDevice c = rw c.in-AddDevice.is c.payload.ensures

pub returns-in-AddDisk : goal.returns-in-AddDisk
returns-in-AddDisk c = rw c.in-AddDisk.is c.images.ensures

pub returns-in-ReplaceDevice : goal.returns-in-ReplaceDevice
returns-in-ReplaceDevice c = rw c.in-ReplaceDevice.is c.payload-in-ReplaceDevice.ensures
