use Rattle.answer.proofs.Checks.{asked-pass}
use Rattle.answer.proofs.Outcomes.{handed_on}
use Rattle.aerosnap.specs.File.{header_checks}
use Rattle.sections.proofs.Directories.{divides_fault, divides_room, divides_done, header_passes}
use Rattle.sections.proofs.divide.Goals as goal

pub returns-in_err-header : goal.returns-in_err-header
returns-in_err-header c = let a = c.args in
    rw (handed_on _ c.in_err-header.field-0.0 c.from_residual.ensures.1) (divides_fault a.file.now a.index.now a.losses.now c.in_err-header.ensures)

pub returns-then-index-lt-DIRECTORY : goal.returns-then-index-lt-DIRECTORY
returns-then-index-lt-DIRECTORY c = let a = c.args in
    divides_room a.file.now a.index.now a.losses.now (asked-pass (header_checks a.file.now) c.in_ok-header.ensures) c.if-index-lt-DIRECTORY.true

pub divide_in-requires : goal.divide_in-requires
divide_in-requires c =
    let p = header_passes c.args.file.now (asked-pass (header_checks c.args.file.now) c.in_ok-header.ensures) in
    (p.0, p.1, c.if-index-lt-DIRECTORY.false)

pub returns : goal.returns
returns c = let a = c.args in
    divides_done a.file.now a.index.now a.losses.now (asked-pass (header_checks a.file.now) c.in_ok-header.ensures) c.if-index-lt-DIRECTORY.false c.divide_in.ensures
