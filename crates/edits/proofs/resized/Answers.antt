use Rattle.edits.proofs.Changed.{shown_most, space_most, space_back}
use native.Mathlib.Omega.{arith}
use Rattle.edits.proofs.resized.Goals as goal

pub list_extent-less-requires : goal.list_extent-less-requires
list_extent-less-requires c = space_back c.args.old c.requires.2 c.requires.3

pub overflow_add-result : goal.overflow_add-result
overflow_add-result c = omega (arith, c.list_extent-less.ensures.0, c.list_extent-more.ensures.0, shown_most c.args.new, c.requires.1)

pub overflow_add-result-2 : goal.overflow_add-result-2
overflow_add-result-2 c = omega (arith, c.list_extent-less.ensures.1, c.list_extent-more.ensures.1, space_most c.args.new, c.requires.3, c.requires.4)
