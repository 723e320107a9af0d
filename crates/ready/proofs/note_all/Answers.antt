use Rattle.format.specs.Format.{span}
use Rattle.ready.proofs.Walks.{passing_start, passing_next, passing_end, pass-room}
use Rattle.entries.specs.Code.{describe}
use mathlib.Core.Path.{refl, ◌∙◌}
use Prim.Native.Nat.{◌+◌, ◌≤◌}
use lib.ListN.{length, drop}
use native.Mathlib.Omega.{arith}
use Rattle.ready.proofs.note_all.Goals as goal

pub loop-init : goal.loop-init
loop-init c = (refl, omega arith, λ m v. passing_start _ c.u32_at-n.ensures v)

pub loop-preserved : goal.loop-preserved
loop-preserved c =
    let room : c.loop.at + c.length_in-at.result ≤ length c.args.list.now + 4 = let s = c.args.list.now in
    rw c.length_in-at.ensures (pass-room (span (describe c.args.kind).form (drop c.loop.at s)) c.loop.at s c.loop.invariant.1) in
    let a = c.args in (
      c.note.auto.notes ∙ c.loop.invariant.0,
      room,
      λ m v. rw c.note.ensures (passing_next a.kind (c.loop.invariant.2 m v) c.loop-test.true c.loop.invariant.0 c.u32_at.ensures c.length_in-at.ensures),
    )

pub returns : goal.returns
returns c = λ m v. passing_end (c.loop.invariant.2 m v) c.loop-test.false
