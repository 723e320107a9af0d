use Rattle.aipc.proofs.Puts.{put_four}
use Rattle.aipc.proofs.put_numbers.Goals as goal

pub returns : goal.returns
returns c = let a = c.args in let e = c.ok-ok.ensures in
    put_four a.f a.out.now (rw e at c.width-second.ensures.0) (rw e at c.width.ensures.0) (rw e at c.width-2.ensures.0)
    (rw e at c.put_field.ensures) (rw e at c.put_field-2.ensures) (rw e at c.put_field-3.ensures) (rw e at c.put_field-4.ensures)
