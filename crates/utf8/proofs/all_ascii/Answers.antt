use borrow.Author.Tests.{ltb-true}
use Rattle.utf8.proofs.Turns.{run_whole}
use Rattle.utf8.proofs.all_ascii.Goals as goal

pub returns : goal.returns
returns c e = run_whole _ _ (ltb-true _ _ e) c.peak.ensures
