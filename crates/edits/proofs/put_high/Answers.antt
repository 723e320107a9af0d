use Rattle.edits.proofs.Writing.{high_wrote, tail_part, high_inside, high_part}
use Rattle.writer.proofs.Fits.{wrote_first}
use Rattle.wire.proofs.Parts.{wrote_put, wrote_length}
use Rattle.wire.specs.Parts.{Wrote, put}
use Rattle.edits.specs.Cuts.{old_tail, high_bytes}
use mathlib.Core.List.{List, ◌++◌}
use mathlib.Core.Path.{◌≡◌, sym, ◌∙◌, ap}
use Prim.Native.Nat.{ℕ, ◌+◌, ◌-◌, ◌≤◌}
use lib.ListN.{length, length-append}
use native.Mathlib.Omega.{arith}
use Rattle.edits.proofs.put_high.Goals as goal

pub overflow_sub-at : goal.overflow_sub-at
overflow_sub-at c =
    let entries : List ℕ = let a = c.args in high_bytes a.side a.file.now a.site a.cut in
    let tail : List ℕ = let a = c.args in old_tail a.side a.file.now in
    let left_is : c.args.left ≡ length (entries ++ tail) = c.requires.1 ∙ sym (length-append (entries) (tail)) in
    high_inside c.requires.0.holds c.if-site.true (c.args.cut.high - c.args.site.first) (left_is)

pub returns-then-site : goal.returns-then-site
returns-then-site c =
    let entries : List ℕ = let a = c.args in high_bytes a.side a.file.now a.site a.cut in
    let tail : List ℕ = let a = c.args in old_tail a.side a.file.now in
    let left_is : c.args.left ≡ length (entries ++ tail) = c.requires.1 ∙ sym (length-append (entries) (tail)) in
    let a = c.args in
    let e = high_part c.requires.0.holds c.if-site.true (a.cut.high - a.site.first) (left_is) in
    rw (left_is) (wrote_first (omega (arith, left_is, c.requires.2)) (c.copy.ensures ∙ ap (λ (b : List ℕ). put 0 b a.out.now) e))

pub overflow_sub-from : goal.overflow_sub-from
overflow_sub-from c =
    let tail : List ℕ = let a = c.args in old_tail a.side a.file.now in
    let entries : List ℕ = let a = c.args in high_bytes a.side a.file.now a.site a.cut in
    let wrote : Wrote (entries) c.args.out.now c.put_entries-i.new.out c.put_entries-i.result = high_wrote c.requires.0 c.kind_at.ensures (omega (arith, c.requires.1, c.requires.2)) c.put_entries-i.ensures in
    let rest_is : (c.args.left - c.put_entries-i.result ≡ length (tail)) × (c.put_entries-i.result ≤ c.args.left) = (omega (arith, c.requires.1, (wrote).count), omega (arith, c.requires.1, (wrote).count)) in
    (rest_is).1

pub overflow_sub-from-2 : goal.overflow_sub-from-2
overflow_sub-from-2 c =
    let tail : List ℕ = let a = c.args in old_tail a.side a.file.now in
    let entries : List ℕ = let a = c.args in high_bytes a.side a.file.now a.site a.cut in
    let wrote : Wrote (entries) c.args.out.now c.put_entries-i.new.out c.put_entries-i.result = high_wrote c.requires.0 c.kind_at.ensures (omega (arith, c.requires.1, c.requires.2)) c.put_entries-i.ensures in
    let rest_is : (c.args.left - c.put_entries-i.result ≡ length (tail)) × (c.put_entries-i.result ≤ c.args.left) = (omega (arith, c.requires.1, (wrote).count), omega (arith, c.requires.1, (wrote).count)) in
    omega (arith, (rest_is).0, c.requires.0.holds.tail-in)

pub returns : goal.returns
returns c =
    let tail : List ℕ = let a = c.args in old_tail a.side a.file.now in
    let entries : List ℕ = let a = c.args in high_bytes a.side a.file.now a.site a.cut in
    let wrote : Wrote (entries) c.args.out.now c.put_entries-i.new.out c.put_entries-i.result = high_wrote c.requires.0 c.kind_at.ensures (omega (arith, c.requires.1, c.requires.2)) c.put_entries-i.ensures in
    let rest_is : (c.args.left - c.put_entries-i.result ≡ length (tail)) × (c.put_entries-i.result ≤ c.args.left) = (omega (arith, c.requires.1, (wrote).count), omega (arith, c.requires.1, (wrote).count)) in
    let a = c.args in
    let e = tail_part c.requires.0.holds (a.left - c.put_entries-i.result) (rest_is).0 in
    let n : c.put_entries-i.result + length (tail) ≡ a.left = omega (arith, (rest_is).0, (rest_is).1) in
    rw n at (wrote_put (wrote) (tail) (omega (arith, n, c.requires.2, wrote_length (wrote) (omega (arith, c.requires.1, c.requires.2)))) (c.copy-2.ensures ∙ ap (λ (b : List ℕ). put c.put_entries-i.result b c.put_entries-i.new.out) e))
