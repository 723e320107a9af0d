use Rattle.edits.proofs.Entry.{disk_wrote}
use Rattle.edits.proofs.put_disk.Goals as goal

pub returns : goal.returns
returns c = let a = c.args in
    disk_wrote a.id a.base.now a.overlay.now c.requires.0 c.put_u32.ensures c.put_u32-2.ensures c.copy.ensures c.put_u32-3.ensures c.copy-2.ensures
