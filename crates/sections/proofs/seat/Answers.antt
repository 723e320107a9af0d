use Rattle.aerosnap.specs.Known as spec
use Rattle.aerosnap.proofs.Slots.{known_range}
use lib.ListN.{length-set}
use mathlib.Core.Path.{◌≡◌, sym, ◌∙◌}
use mathlib.Core.Bool.{true}
use native.Mathlib.Omega.{arith}
use Rattle.sections.proofs.seat.Goals as goal

pub bounds-dir-k : goal.bounds-dir-k
bounds-dir-k c =
    let is_known : spec.known c.args.id ≡ true = sym c.known.ensures ∙ c.if-known.true in
    omega (arith, (known_range c.args.id (is_known)).1, c.requires.0)

pub bounds-dir-k-then-known : goal.bounds-dir-k-then-known
bounds-dir-k-then-known c =
    let is_known : spec.known c.args.id ≡ true = sym c.known.ensures ∙ c.if-known.true in
    simp length-set (omega (arith, (known_range c.args.id (is_known)).1, c.requires.0))

pub returns-then-known : goal.returns-then-known
returns-then-known c =
    let is_known : spec.known c.args.id ≡ true = sym c.known.ensures ∙ c.if-known.true in
    rw (is_known)

pub returns : goal.returns
returns c = rw (sym c.known.ensures ∙ c.if-known.false)
