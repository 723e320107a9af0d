use Rattle.edits.proofs.Entry.{device_wrote}
use Rattle.aerosnap.proofs.Framed.{length-framed}
use native.Mathlib.Omega.{arith}
use Rattle.edits.proofs.put_device.Goals as goal

pub put_frame-requires : goal.put_frame-requires
put_frame-requires c = let a = c.args in omega (arith, c.requires, length-framed a.id a.version a.flags a.p.now)

pub returns : goal.returns
returns c = let a = c.args in
    device_wrote a.id a.version a.flags a.p.now c.requires c.put_frame.ensures c.copy.ensures
