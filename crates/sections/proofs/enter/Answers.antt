use Rattle.sections.proofs.Seats.{entering, written_most}
use native.Mathlib.Omega.{arith}
use Prim.Native.Nat.{◌+◌}
use Rattle.sections.proofs.enter.Goals as goal

pub overflow_cast-written_size : goal.overflow_cast-written_size
overflow_cast-written_size c = omega (arith, c.written_size.ensures, written_most c.args.id c.args.w, c.requires.3)

pub tally-requires : goal.tally-requires
tally-requires c = let a = c.args in
    let e = entering a.dir.now a.w a.id a.at (19 + a.used) c.requires.0 c.requires.2 c.requires.3 in
    rw (c.seat.ensures, c.written_size.ensures) (e.long, e.sections, e.bytes)

pub returns : goal.returns
returns c = rw (← c.seat.ensures, ← c.written_size.ensures) c.tally.ensures
