use Rattle.newcomers.proofs.Laws.{length_record, put-at}
use Rattle.newcomers.specs.Records.{record_of, record_put}
use Rattle.wire.proofs.Parts.{length_tail, put_refused}
use Prim.Native.Nat.{◌+◌, ◌*◌}
use lib.ListN.{length}
use borrow.Author.Tests.{leb-true}
use mathlib.Core.Path.{refl, sym, ◌∙◌}
use native.Mathlib.Omega.{arith}
use Rattle.newcomers.proofs.put_at.Goals as goal

pub slice_bounds-put_record-count : goal.slice_bounds-put_record-count
slice_bounds-put_record-count c = let a = c.args in let g = leb-true (a.i * 24 + 24) (length a.records.now) (sym c.fits.ensures ∙ c.if-fits.true) in omega (arith, g)

pub slice_bounds-put_record-start : goal.slice_bounds-put_record-start
slice_bounds-put_record-start c = let a = c.args in let g = leb-true (a.i * 24 + 24) (length a.records.now) (sym c.fits.ensures ∙ c.if-fits.true) in omega (arith, g)

pub put_record-requires : goal.put_record-requires
put_record-requires c = let a = c.args in let g = leb-true (a.i * 24 + 24) (length a.records.now) (sym c.fits.ensures ∙ c.if-fits.true) in rw (length_tail (a.i * 24) a.records.now) (omega (arith, g))

pub returns-then-fits : goal.returns-then-fits
unfolding record_put
returns-then-fits c = let a = c.args in put-at (a.i * 24) (record_of a.d) a.records.now (length_record a.d) (sym c.fits.ensures ∙ c.if-fits.true) c.put_record.ensures

pub returns-else-fits : goal.returns-else-fits
unfolding record_put
returns-else-fits c = let a = c.args in put_refused (a.i * 24) (record_of a.d) a.records.now (length_record a.d) (sym c.fits.ensures ∙ c.if-fits.false) refl
