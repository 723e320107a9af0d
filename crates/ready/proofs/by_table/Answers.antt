use Rattle.ready.proofs.Contents.{judged}
use Rattle.ready.proofs.by_table.Goals as goal

pub returns : goal.returns
returns c = let l = c.requires.0 in
    judged c.args.file.now c.args.list.now l c.requires.1 _ _ (c.payload_of-devices.ensures l c.requires.2) (c.payload_of-disks.ensures l c.requires.2) c.look.ensures c.hand_list.ensures
