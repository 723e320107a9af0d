use Rattle.registers.proofs.Arrays.{turned_none, turned_next}
use Rattle.registers.proofs.Places.{put_short}
use Rattle.wire.specs.Numbers.{bytes_of}
use Rattle.wire.specs.Parts.{put}
use mathlib.Core.Path.{ap, ◌∙◌}
use Prim.Native.Nat.{ℕ, ◌+◌, ◌*◌}
use lib.ListN.{get_or}
use Rattle.registers.proofs.put_words.Goals as goal

pub loop-i-init : goal.loop-i-init
loop-i-init c = turned_none _ c.args.s.now

pub loop-i-preserved : goal.loop-i-preserved
loop-i-preserved c =
    let x = c.args in
    let i = c.loop-i.i in
    let s = c.loop-i.s in
    let word = get_or x.a.now i 0 in
    turned_next _ i x.s.now c.loop-i.invariant (put_short s (i * 8 + x.at) word (c.put_u64.ensures ∙ ap (λ (j : ℕ). put j (bytes_of 8 word) s) c.start_of.ensures))
