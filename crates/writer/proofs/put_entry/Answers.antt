use Rattle.writer.proofs.Runs.{cut_within, cut_is}
use Rattle.entries.specs.Code.{describe}
use lib.Seq.{length-take-le}
use mathlib.Core.Path.{sym}
use Rattle.writer.proofs.put_entry.Goals as goal

pub slice_bounds-copy-end : goal.slice_bounds-copy-end
slice_bounds-copy-end c = let a = c.args in sym (length-take-le _ _ (cut_within (describe a.kind) a.s.now a.y c.length_at-n.ensures c.tail-b.ensures))

pub returns : goal.returns
returns c = let a = c.args in (c.length_at-n.ensures, rw (cut_is (describe a.kind) a.s.now a.y c.length_at-n.ensures c.tail-b.ensures) at c.copy.ensures)
