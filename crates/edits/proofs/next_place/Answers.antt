use native.Mathlib.Omega.{arith}
use Rattle.edits.proofs.Turning.{turn_place, turn_within, turn_end}
use Rattle.edits.specs.Rows.{place_in, before, old_from}
use mathlib.Core.Path.{◌≡◌, ◌∙◌, ap}
use Prim.Native.Nat.{ℕ, ◌+◌}
use Rattle.edits.proofs.next_place.Goals as goal

pub returns-then-p-last : goal.returns-then-p-last
returns-then-p-last c = let a = c.args in (omega (arith, turn_end c.requires.0 c.requires.1 c.requires.2 a.table.now a.y c.if-p-last.true), omega (arith, c.requires.2))

pub overflow_add-result : goal.overflow_add-result
overflow_add-result c =
    let next : let a = c.args in a.p + c.place_of.result ≡ a.p + before a.table.now a.y (old_from a.file.now a.site a.p) = let a = c.args in
    ap (λ (k : ℕ). a.p + k) (c.place_of.ensures ∙ ap place_in (turn_place c.requires.0 c.requires.1 c.requires.2 c.key_at-k.ensures c.find.ensures)) in
    let a = c.args in omega (arith, next, turn_within c.requires.0 c.requires.1 c.requires.2 a.table.now a.y)

pub returns : goal.returns
returns c =
    let next : let a = c.args in a.p + c.place_of.result ≡ a.p + before a.table.now a.y (old_from a.file.now a.site a.p) = let a = c.args in
    ap (λ (k : ℕ). a.p + k) (c.place_of.ensures ∙ ap place_in (turn_place c.requires.0 c.requires.1 c.requires.2 c.key_at-k.ensures c.find.ensures)) in
    let a = c.args in (next, omega (arith, next, turn_within c.requires.0 c.requires.1 c.requires.2 a.table.now a.y))
