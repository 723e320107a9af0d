use Rattle.writer.proofs.Whole.{straight_done, by_starts-done}
use Rattle.entries.specs.declared.Kind.TheVariants.{Controllers}
use Rattle.entries.proofs.Lawful.{lawful}
use Rattle.wire.specs.Numbers.{Bytes}
use mathlib.Core.Path.{sym, ◌∙◌}
use Rattle.dskc.proofs.put_list.Goals as goal

pub returns-then-in_order : goal.returns-then-in_order
returns-then-in_order c =
    let bytes : Bytes c.args.s.now = λ i. (c.type_inv.s i).fits in
    straight_done (lawful Controllers) c.requires.0 (sym c.in_order.ensures ∙ c.if-in_order.true) (bytes) c.requires.1 c.copy.ensures

pub returns-else-in_order : goal.returns-else-in_order
returns-else-in_order c =
    let bytes : Bytes c.args.s.now = λ i. (c.type_inv.s i).fits in
    by_starts-done (lawful Controllers) c.requires.0 (bytes) c.requires.1 c.put_by_starts.ensures
