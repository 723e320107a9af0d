use Rattle.ready.specs.Steps.{names, wanted_name}
use Rattle.ready.proofs.Exits.{name_part, name_id, not_put, pair_put}
use mathlib.Core.Path.{◌∙◌, ap}
use Prim.Native.Nat.{ℕ, ◌+◌}
use Rattle.wire.specs.Numbers.{bytes_of}
use Rattle.wire.specs.Parts.{put}
use Rattle.ready.proofs.put_name.Goals as goal

pub returns-then-there : goal.returns-then-there
returns-then-there c = let a = c.args in rw c.if-there.true (not_put a.out.now a.at (wanted_name a.i))

pub returns : goal.returns
returns c = let a = c.args in
    rw c.if-there.false
    (pair_put a.out.now a.at (wanted_name a.i) c.requires.1 (c.put_u32.ensures ∙ ap (λ (x : ℕ). put a.at (bytes_of 4 x) a.out.now) (name_part names a.i)) (c.put_u32-2.ensures ∙ ap (λ (x : ℕ). put (a.at + 4) (bytes_of 4 x) c.put_u32.new.out) (name_id names a.i)))
