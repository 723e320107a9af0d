use Rattle.edits.proofs.Entry.{head_wrote, frame_long}
use Rattle.wire.proofs.Parts.{none}
use Rattle.wire.proofs.Numbers.{length-bytes_of}
use Rattle.wire.specs.Numbers.{bytes_of}
use Rattle.edits.specs.Steps.{frame}
use lib.ListN.{length, length-append}
use borrow.Author.Tests.{le-leb, lt-leb}
use Prim.Native.Nat.{◌≤◌}
use native.Mathlib.Omega.{arith}
use Rattle.edits.proofs.put_head.Goals as goal

pub returns-then-bytes-le4 : goal.returns-then-bytes-le4
returns-then-bytes-le4 c = let a = c.args in rw (le-leb a.bytes 4 c.if-bytes-le4.true) (none a.out.now)

pub put_frame-requires : goal.put_frame-requires
put_frame-requires c =
    let room : 20 ≤ length c.args.out.now = let a = c.args in
    omega (arith, rw (lt-leb a.bytes 4 c.if-bytes-le4.false) at c.requires, length-append (frame a.id 1 0 a.bytes) (bytes_of 4 a.count), frame_long a.id 1 0 a.bytes, length-bytes_of 4 a.count) in
    omega (arith, room)

pub returns : goal.returns
returns c =
    let room : 20 ≤ length c.args.out.now = let a = c.args in
    omega (arith, rw (lt-leb a.bytes 4 c.if-bytes-le4.false) at c.requires, length-append (frame a.id 1 0 a.bytes) (bytes_of 4 a.count), frame_long a.id 1 0 a.bytes, length-bytes_of 4 a.count) in
    let a = c.args in
    rw (lt-leb a.bytes 4 c.if-bytes-le4.false) (head_wrote a.id a.count a.bytes (room) c.put_frame.ensures c.put_u32.ensures)
