use Rattle.aipc.proofs.Writes.{write_refused, write_taken}
use Rattle.std.proofs.lemmas.Result.{err_from_is_err_and}
use Rattle.aipc.proofs.try_write.Goals as goal

pub returns-in_err-write_test : goal.returns-in_err-write_test
returns-in_err-write_test c = let p = err_from_is_err_and c.from_residual.result c.from_residual.ensures.1 in
    write_refused _ _ _ _ c.form_of-f.ensures c.in_err-write_test.ensures (rw (p.1, p.2))

pub returns : goal.returns
returns c = write_taken _ _ _ _ c.form_of-f.ensures c.in_ok-write_test.ensures c.size-need.ensures c.put_form.ensures
