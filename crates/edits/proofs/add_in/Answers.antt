use Rattle.answer.proofs.Outcomes.{handed_on}
use Rattle.sections.proofs.Directed.{indexed_whole, indexed_fault}
use Rattle.edits.proofs.Tabled.{answer_refused, refused_file}
use lib.ListN.{length}
use mathlib.Core.Logic.{inl, inr}
use native.Mathlib.Omega.{arith}
use mathlib.Core.Path.{refl}
use Rattle.edits.proofs.add_in.Goals as goal

pub returns-in_err-index_file : goal.returns-in_err-index_file
returns-in_err-index_file c = let a = c.args in
    rw (handed_on _ (record { index = 0; fault = c.in_err-index_file.field-0.0 }) c.from_residual.ensures.1)
    (answer_refused (record { index = 0; fault = c.in_err-index_file.field-0.0 }) (refused_file (length a.out.now) a.card a.file.now a.table.now a.store.now (indexed_fault a.file.now a.index.now c.requires c.index_file.ensures c.in_err-index_file.was)))

pub site_at-site-requires : goal.site_at-site-requires
site_at-site-requires c = indexed_whole c.args.file.now c.args.index.now c.requires c.index_file.ensures c.in_ok-index_file.was

pub add_with_rows-requires : goal.add_with_rows-requires
add_with_rows-requires c = record { lists = (indexed_whole c.args.file.now c.args.index.now c.requires c.index_file.ensures c.in_ok-index_file.was, c.site_at-site.ensures); places = (omega arith, inl (omega arith)) }

pub add_with_rows-requires-2 : goal.add_with_rows-requires-2
add_with_rows-requires-2 c = record { lists = (indexed_whole c.args.file.now c.args.index.now c.requires c.index_file.ensures c.in_ok-index_file.was, c.site_at-site.ensures); places = (omega arith, inr refl) }
