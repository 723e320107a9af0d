-- A length without a bound is one with the greatest that it can say.
-- Assumes nothing.
use mathlib.Core.Path.{◌≡◌}
use mathlib.Core.List.{List}
use Prim.Native.Nat.{ℕ, ◌≤◌}
use native.Mathlib.Omega.{arith}
use lib.ListN.{drop}
use borrow.Author.Tests.{le-leb}
use Rattle.wire.specs.Numbers.{Bytes, le_at}
use Rattle.wire.proofs.Numbers.{le_at_here, le_at_bound}
use Rattle.format.specs.Format.{any, sized, blob, read}
use Rattle.format.specs.Places.{read_at}
use Rattle.entries.specs.Kinds.{unbounded}

pub unbounded-at : (s : List ℕ) (at : ℕ) → Bytes s → read_at (blob 4 4294967295) s at ≡ read_at (sized 4 unbounded any) s at
unfolding read
unbounded-at s at b =
    let h : le_at 4 (drop at s) 0 ≤ 4294967295 = rw le_at_here (omega (arith, le_at_bound 4 s at b)) in
    rw (le-leb (le_at 4 (drop at s) 0) 4294967295 h)
