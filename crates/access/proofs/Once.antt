-- The promise fixes its answer: any two that it allows are equal.
-- Assumes nothing.
use mathlib.Core.Path.{◌≡◌, sym, ◌∙◌}
use Prim.Native.Nat.{ℕ}
use Rattle.access.specs.declared.Access.{Access}
use Rattle.access.specs.Access.{access_of}

pub parts_once : (w : ℕ) {r s : Access} → r ≡ access_of w → s ≡ access_of w → r ≡ s
parts_once w e f = e ∙ sym f
