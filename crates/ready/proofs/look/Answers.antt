use Rattle.ready.specs.Steps.{wrapper_at, seen}
use Rattle.ready.proofs.Exits.{seen-then, seen-else, nine}
use mathlib.Core.Path.{◌≡◌, ◌∙◌, ap}
use mathlib.Core.Bool.{not, ◌||◌}
use lib.Dec.{eqb}
use lib.ListN.{get_or}
use native.Mathlib.Omega.{arith}
use Rattle.ready.proofs.look.Goals.{then-d-ne0, else-d-ne0}
use Rattle.ready.proofs.look.Goals as goal

pub returns : goal.returns
returns c = λ m k v w.
    let s = c.args.devices.now in
    let n = c.note_all.new.notes in
    let d = c.note_all.ensures m v in
    let e = c.note_all-2.ensures k w in
    let b : c.if-d-ne0.controller ≡ (not (eqb (get_or n 2 0) 0) || not (eqb (get_or n 21 0) 0)) = elim c.if-d-ne0.branch [
      | then-d-ne0 x ↦ x.controller-is ∙ seen-then _ _ x.if-d-ne0.true
      | else-d-ne0 x ↦ x.controller-is ∙ seen-else _ _ x.if-d-ne0.false
    ] in
    let o : c.if-d-ne0.controller ≡ (seen 2 m || seen 21 m) = b ∙ rw (d 2 (omega arith), d 21 (omega arith)) in
    nine (d 3 (omega arith)) (d 4 (omega arith)) (c.wrapper_at-wrapper.ensures ∙ ap (wrapper_at s) (d 6 (omega arith))) (d 13 (omega arith)) (d 16 (omega arith)) (d 17 (omega arith)) o (e 0 (omega arith)) (e 1 (omega arith))
