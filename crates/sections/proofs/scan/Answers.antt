use Rattle.answer.proofs.Outcomes.{handed_on}
use Rattle.sections.proofs.Headers.{scan_stop, scan-walk, scan-fits}
use Rattle.sections.proofs.scan.Goals as goal

pub behind_header-requires : goal.behind_header-requires
behind_header-requires c = scan-fits c.args.file.now c.in_ok-header.ensures

pub returns-in_err-header : goal.returns-in_err-header
returns-in_err-header c = rw (handed_on _ c.in_err-header.field-0.0 c.from_residual.ensures.1) (scan_stop c.args.file.now c.in_err-header.ensures)

pub returns : goal.returns
returns c = scan-walk c.args.file.now c.in_ok-header.ensures c.behind_header.ensures
