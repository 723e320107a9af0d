use Rattle.answer.proofs.Checks.{asked-pass}
use Rattle.answer.proofs.Outcomes.{handed_on}
use Rattle.sections.proofs.Directed.{indexed_whole, indexed_fault}
use Rattle.edits.specs.Edits.{edit_of}
use Rattle.edits.specs.Cuts.{own_rows}
use Rattle.edits.proofs.Judging.{call_stop, call_own, call_goes}
use Rattle.edits.proofs.plan_in.Goals as goal

pub returns-in_err-index_file : goal.returns-in_err-index_file
returns-in_err-index_file c = let a = c.args in
    rw (handed_on _ c.in_err-index_file.field-0.0 c.from_residual.ensures.1)
    (call_stop (edit_of a.edit a.a.now a.b.now) a.file.now a.have (indexed_fault a.file.now a.index.now c.requires c.index_file.ensures c.in_err-index_file.was))

pub returns-in_err-own : goal.returns-in_err-own
returns-in_err-own c = let a = c.args in
    let whole = indexed_whole a.file.now a.index.now c.requires c.index_file.ensures c.in_ok-index_file.was in
    rw (handed_on _ c.in_err-own.field-0.0 c.from_residual-in_err-own.ensures.1) (call_own (edit_of a.edit a.a.now a.b.now) a.file.now whole.read a.have c.in_err-own.ensures)

pub site_at-site-requires : goal.site_at-site-requires
site_at-site-requires c = indexed_whole c.args.file.now c.args.index.now c.requires c.index_file.ensures c.in_ok-index_file.was

pub plan_list-requires : goal.plan_list-requires
plan_list-requires c = let a = c.args in
    let whole = indexed_whole a.file.now a.index.now c.requires c.index_file.ensures c.in_ok-index_file.was in
    record { whole_file = (whole, rw c.side_of.ensures at c.site_at-site.ensures); pass = asked-pass (own_rows (edit_of a.edit a.a.now a.b.now)) c.in_ok-own.ensures }

pub returns : goal.returns
returns c = let a = c.args in
    let whole = indexed_whole a.file.now a.index.now c.requires c.index_file.ensures c.in_ok-index_file.was in
    rw (call_goes (edit_of a.edit a.a.now a.b.now) a.file.now whole.read a.have c.in_ok-own.ensures) at c.plan_list.ensures
