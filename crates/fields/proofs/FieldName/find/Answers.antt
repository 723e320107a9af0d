use native.Mathlib.Omega.{arith}
use Rattle.fields.proofs.Table.{small_is, stride}
use Rattle.fields.proofs.FieldName.find.Goals as goal

pub overflow_mul-at : goal.overflow_mul-at
overflow_mul-at c = omega (arith, stride c.args.self.kind c.args.self.number (rw c.in_ok-row.ensures.ok_part at c.row.ensures) c.args.self.index c.if-row-self.false)

pub overflow_add-at : goal.overflow_add-at
overflow_add-at c =
    let e = rw c.in_ok-row.ensures.ok_part at c.row.ensures in
    omega (arith, stride c.args.self.kind c.args.self.number e c.args.self.index c.if-row-self.false, (small_is c.args.self.kind c.args.self.number e).at)
