use Rattle.aipc.specs.Steps.{put_form}
use Rattle.aipc.proofs.put_form.Goals as goal

pub returns : goal.returns
unfolding put_form
returns c = rw (← c.put_u16.ensures, ← c.put_numbers.ensures, ← c.numbers_end.ensures.0) c.put_body.ensures
