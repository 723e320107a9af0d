use Rattle.answer.proofs.Outcomes.{passes}
use Rattle.snapshot.proofs.Reading.{faults_stop, faults_fine}
use Rattle.snapshot.proofs.faults.Goals as goal

pub returns-in_err-scan : goal.returns-in_err-scan
returns-in_err-scan c = passes _ c.in_err-scan.field-0.0 c.from_residual.ensures.1 (faults_stop c.args.file.now c.in_err-scan.ensures.answers)

pub returns : goal.returns
returns c = faults_fine c.args.file.now c.in_ok-scan.ensures.answers
