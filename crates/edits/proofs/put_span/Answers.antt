use Rattle.edits.proofs.Writing.{low_inside, span_long, span_part, span_wrote}
use Rattle.writer.proofs.Fits.{wrote_first}
use Rattle.wire.specs.Parts.{put}
use Rattle.edits.specs.Cuts.{span_bytes}
use mathlib.Core.List.{List}
use mathlib.Core.Path.{◌≡◌, ◌∙◌, ap}
use Prim.Native.Nat.{ℕ, ◌+◌, ◌-◌, ◌≤◌}
use lib.ListN.{length}
use native.Mathlib.Omega.{arith}
use Rattle.edits.proofs.put_span.Goals as goal

pub low_length-requires : goal.low_length-requires
low_length-requires c = (c.requires.0, c.requires.1, omega (arith, c.requires.2, c.requires.3), c.if-site.true)

pub overflow_add-i-then-site : goal.overflow_add-i-then-site
overflow_add-i-then-site c = omega (arith, low_inside c.requires.0 c.if-site.true (c.args.from - c.args.site.first) c.low_length.ensures, c.requires.0.ends)

pub low_length-requires-then-site : goal.low_length-requires-then-site
low_length-requires-then-site c = (c.requires.0, omega (arith, c.requires.1, c.requires.2), c.requires.3, c.if-site.true)

pub overflow_add-j-then-site : goal.overflow_add-j-then-site
overflow_add-j-then-site c =
    let ends : let a = c.args in a.site.begin + 4 + c.low_length-then-site.result ≤ a.site.end = low_inside c.requires.0 c.if-site.true (c.args.to - c.args.site.first) c.low_length-then-site.ensures in
    omega (arith, ends, c.requires.0.ends)

pub slice_bounds-copy-count : goal.slice_bounds-copy-count
slice_bounds-copy-count c =
    let long : let a = c.args in c.low_length-then-site.result ≡ c.low_length.result + length (span_bytes a.side a.file.now a.site a.from a.to) = span_long c.requires.0 c.if-site.true c.requires.1 c.requires.2 c.low_length.ensures c.low_length-then-site.ensures in
    omega (arith, long)

pub slice_bounds-copy-start : goal.slice_bounds-copy-start
slice_bounds-copy-start c =
    let long : let a = c.args in c.low_length-then-site.result ≡ c.low_length.result + length (span_bytes a.side a.file.now a.site a.from a.to) = span_long c.requires.0 c.if-site.true c.requires.1 c.requires.2 c.low_length.ensures c.low_length-then-site.ensures in
    omega (arith, long)

pub slice_bounds-copy-end : goal.slice_bounds-copy-end
slice_bounds-copy-end c =
    let ends : let a = c.args in a.site.begin + 4 + c.low_length-then-site.result ≤ a.site.end = low_inside c.requires.0 c.if-site.true (c.args.to - c.args.site.first) c.low_length-then-site.ensures in
    omega (arith, ends, c.requires.0.ends)

pub overflow_sub-result : goal.overflow_sub-result
overflow_sub-result c =
    let long : let a = c.args in c.low_length-then-site.result ≡ c.low_length.result + length (span_bytes a.side a.file.now a.site a.from a.to) = span_long c.requires.0 c.if-site.true c.requires.1 c.requires.2 c.low_length.ensures c.low_length-then-site.ensures in
    omega (arith, long)

pub returns-then-site : goal.returns-then-site
returns-then-site c =
    let long : let a = c.args in c.low_length-then-site.result ≡ c.low_length.result + length (span_bytes a.side a.file.now a.site a.from a.to) = span_long c.requires.0 c.if-site.true c.requires.1 c.requires.2 c.low_length.ensures c.low_length-then-site.ensures in
    let a = c.args in
    let x : ℕ = a.site.begin + 4 + c.low_length.result in
    let y : ℕ = a.site.begin + 4 + c.low_length-then-site.result in
    let n : y - x ≡ length (span_bytes a.side a.file.now a.site a.from a.to) = omega (arith, long) in
    let e = span_part c.requires.0 c.if-site.true c.requires.1 c.requires.2 c.low_length.ensures c.low_length-then-site.ensures in
    rw n (wrote_first c.requires.4 (c.copy.ensures ∙ ap (λ (b : List ℕ). put 0 b a.out.now) e))

pub returns : goal.returns
returns c = span_wrote c.requires.0 c.requires.1 c.requires.2 c.requires.3 c.kind_at.ensures c.requires.4 c.put_entries.ensures
