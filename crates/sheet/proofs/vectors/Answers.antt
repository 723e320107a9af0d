use Rattle.sheet.proofs.Rows.{read_on}
use Rattle.sheet.specs.Vectors.{rows}
use mathlib.Core.List.{List}
use lib.Seq.{drop-drop}
use Prim.Native.Nat.{ℕ, ◌*◌}
use lib.ListN.{take, drop, length-set}
use mathlib.Core.Path.{refl, sym, ap, ◌∙◌}
use native.Mathlib.Omega.{arith}
use Rattle.sheet.proofs.vectors.Goals as goal

pub loop-i-init : goal.loop-i-init
unfolding rows
loop-i-init c = (refl, refl)

pub loop-i-preserved : goal.loop-i-preserved
loop-i-preserved c =
    let s = c.args.s.now in
    let at = c.args.at in
    let i = c.loop-i.i in
    let v = c.loop-i.invariant in
    (length-set c.loop-i.row-items i c.part.result ∙ v.0, read_on i c.loop-i.row-items (drop at s) c.part.result (omega arith) v.1 (c.part.ensures ∙ ap (λ (l : List ℕ). take 16 l) (sym (drop-drop (i * 16) at s))))
