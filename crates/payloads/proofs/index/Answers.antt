use mathlib.Core.Path.{refl}
use Rattle.payloads.proofs.Bodies.{kept_long}
use Rattle.payloads.proofs.index.Goals as goal

pub returns-then-p-gt-FILE_MOST : goal.returns-then-p-gt-FILE_MOST
returns-then-p-gt-FILE_MOST c = let a = c.args in
    kept_long a.id a.version a.p.now c.if-p-gt-FILE_MOST.true refl
