use Rattle.wire.specs.Numbers.{le_at}
use lib.ListN.{length, take, drop}
use Rattle.sections.proofs.Rules.{ruled_not, part_length, none_kept, keeps_done}
use Rattle.aerosnap.specs.Known as spec
use native.Mathlib.Nat.{add-sub_cancel_left}
use Prim.Native.Nat.{◌+◌}
use mathlib.Core.Path.{sym, ◌∙◌, ap}
use native.Mathlib.Omega.{arith}
use Rattle.sections.proofs.judged.Goals as goal

pub returns-then-not-known : goal.returns-then-not-known
returns-then-not-known c = let a = c.args in
    let s = a.s.now in
    let unknown = ap spec.known (sym c.u32_at-id.ensures) ∙ sym c.known.ensures ∙ c.if-not-known.true in
    let none = none_kept (le_at 4 s a.at) (le_at 2 s (a.at + 4)) (length a.index.now) (take a.m (drop (a.at + 16) s)) a.index.now unknown in
    λ l n m. keeps_done (ruled_not l a.at _ _ _ _ unknown) none.0 none.1

pub ruled-requires : goal.ruled-requires
ruled-requires c = let a = c.args in
    (sym c.known.ensures ∙ c.if-not-known.false, omega (arith, part_length a.s.now (a.at + 16) a.m (omega arith)))

pub returns : goal.returns
returns c = λ l n m. rw (← c.u32_at-id.ensures, ← c.u16_at-version.ensures, ← c.u16_at-flags.ensures) (rw add-sub_cancel_left at (c.ruled.ensures l n m))
