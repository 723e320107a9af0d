use Rattle.std.proofs.Common.{◌∙◌, ap, ℕ, [], ◌∷◌, arith}
use Rattle.wire.specs.Numbers.{bytes_of}
use Rattle.wire.specs.Parts.{put}
use Rattle.wire.proofs.put_u8.Goals as goal

pub returns : goal.returns
unfolding bytes_of
returns c = let a = c.args in c.store.ensures ∙ ap (λ (x : ℕ). put a.at (x ∷ []) a.out.now) (omega arith)
