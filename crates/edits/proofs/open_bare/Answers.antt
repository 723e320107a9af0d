use Rattle.answer.proofs.Outcomes.{passes, made_stop, made_taken}
use Rattle.aerosnap.specs.File.{file_of}
use Rattle.canon.proofs.Forms.{bare}
use Rattle.edits.proofs.Carding.{open_none, open_stop}
use lib.ListN.{length}
use mathlib.Core.Path.{sym}
use Rattle.edits.proofs.open_bare.Goals as goal

pub returns-in_err-scan : goal.returns-in_err-scan
returns-in_err-scan c = let s = c.args.file.now in
    passes _ c.in_err-scan.field-0.0 c.from_residual.ensures.1 (sym (open_stop s (made_stop (file_of s) length c.in_err-scan.ensures.answers)))

pub returns : goal.returns
returns c = let s = c.args.file.now in sym (open_none s (bare s c.requires (made_taken (file_of s) length c.in_ok-scan.ensures.answers).1))
