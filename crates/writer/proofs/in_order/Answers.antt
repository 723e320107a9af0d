use Rattle.std.proofs.lemmas.List.Sorted.{non_decreasing_from_is_sorted}
use Rattle.writer.proofs.Straight.{order_sorted}
use Rattle.writer.proofs.in_order.Goals as goal

pub returns : goal.returns
returns c = order_sorted _ _ (non_decreasing_from_is_sorted _ _ c.is_sorted.ensures.cases)
