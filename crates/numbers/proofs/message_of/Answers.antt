use mathlib.Core.Path.{ap}
use mathlib.Core.Bool.{not}
use native.Mathlib.Omega.{arith}
use Rattle.numbers.proofs.Making.{made_wide_tag, made}
use Rattle.numbers.proofs.message_of.Goals as goal

pub returns-in_default : goal.returns-in_default
returns-in_default c = let h = c.in_default.ensures in made_wide_tag c.args.n (omega (arith, h))

pub returns-then-not-f : goal.returns-then-not-f
returns-then-not-f c = (made c.args.n c.in-Ok.ensures.1 c.narrowed-message.ensures c.form_of-f.ensures).unknown c.if-not-f.true

pub returns-then-not-same_numbers : goal.returns-then-not-same_numbers
returns-then-not-same_numbers c = (made c.args.n c.in-Ok.ensures.1 c.narrowed-message.ensures c.form_of-f.ensures).lost c.if-not-f.false c.same_numbers.ensures (ap not c.if-not-same_numbers.true)

pub returns : goal.returns
returns c = (made c.args.n c.in-Ok.ensures.1 c.narrowed-message.ensures c.form_of-f.ensures).kept c.if-not-f.false c.same_numbers.ensures (ap not c.if-not-same_numbers.false)
