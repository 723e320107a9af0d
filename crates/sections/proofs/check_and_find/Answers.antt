use Rattle.answer.proofs.Outcomes.{handed_on}
use Rattle.sections.proofs.Found.{made_read, found_stop, found_at}
use lib.ListN.{length}
use Rattle.sections.proofs.check_and_find.Goals as goal

pub seek-requires : goal.seek-requires
seek-requires c = made_read c.args.file.now length c.in_ok-scan.ensures.answers

pub returns-in_err-scan : goal.returns-in_err-scan
returns-in_err-scan c = rw (handed_on _ c.in_err-scan.field-0.0 c.from_residual.ensures.1) (found_stop c.args.id c.args.file.now c.in_err-scan.ensures)

pub returns : goal.returns
returns c = found_at c.args.id c.args.file.now c.seek.result c.in_ok-scan.ensures c.seek.ensures
