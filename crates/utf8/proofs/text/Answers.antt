use mathlib.Core.Path.{sym}
use Rattle.utf8.proofs.Reading.{scan_reads}
use Rattle.utf8.proofs.text.Goals as goal

pub returns-then-all_ascii : goal.returns-then-all_ascii
returns-then-all_ascii c = scan_reads _ _ (sym (c.all_ascii.ensures c.if-all_ascii.true))

pub returns : goal.returns
returns c = scan_reads _ _ c.utf8_octets.ensures
