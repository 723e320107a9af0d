use Rattle.sheet.proofs.Rows.{write_on}
use Rattle.sheet.specs.Vectors.{joined}
use Rattle.wire.proofs.Parts.{no_part, as_splice, put-fits}
use Rattle.fields.proofs.Splices.{mid_is}
use borrow.Rule.Slice.PartMut.{put_mid}
use lib.ListN.{length, take, drop, get_or, length-drop}
use lib.Seq.{length-take-le, take_all}
use Prim.Native.Nat.{ℕ, ◌+◌, ◌-◌, ◌*◌, ◌≤◌}
use mathlib.Core.List.{List, []}
use mathlib.Core.Path.{◌≡◌, sym, ap, ◌∙◌}
use native.Mathlib.Omega.{arith}
use Rattle.sheet.proofs.put_vectors.Goals as goal

pub loop-i-init : goal.loop-i-init
unfolding joined
loop-i-init c = no_part c.args.s.now c.args.at (omega arith)

pub loop-i-preserved : goal.loop-i-preserved
loop-i-preserved c =
    let rows = c.args.a.now in
    let i = c.loop-i.i in
    let s = c.loop-i.s in
    let start : ℕ = c.args.at + i * 16 in
    let row = get_or rows i [] in
    let room : start + 16 ≤ length s = omega (arith, c.requires) in
    let w : start + 16 - start ≡ 16 = omega arith in
    let long : start + 16 - start ≤ length (drop start s) = rw (length-drop) (omega arith) in
    let same : c.copy_from_slice.new.self ≡ row = c.copy_from_slice.ensures.after in
    let n : length row ≡ 16 = sym (ap length same) ∙ c.copy_from_slice.ensures.len ∙ length-take-le (start + 16 - start) (drop start s) long ∙ w in
    write_on i rows c.args.at (omega arith) n (omega arith) c.loop-i.invariant
    (ap (λ (l : List ℕ). put_mid start (start + 16 - start) s l) same ∙ mid_is start (start + 16 - start) row s (w ∙ sym n) ∙ sym (put-fits start row s (omega arith)))

pub returns : goal.returns
returns c =
    let rows = c.args.a.now in
    let e : c.loop-i.i ≡ 16 = omega arith in
    let whole : take c.loop-i.i rows ≡ rows = take_all c.loop-i.i rows (omega arith) in
    as_splice c.args.s.now (joined rows) c.loop-i.s c.args.at _ (omega (arith, c.requires)) (rw whole at c.loop-i.invariant)
