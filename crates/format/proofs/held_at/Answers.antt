use native.Mathlib.Omega.{arith}
use mathlib.Core.Path.{refl}
use mathlib.Core.List.{[]}
use lib.Dec.{leb}
use borrow.Author.Tests.{le-leb, lt-leb}
use Rattle.answer.specs.Numbers.{LIMIT}
use Rattle.format.specs.Format.{at_most}
use Rattle.format.proofs.Exits.{sized_bad, sized_cut, sized_whole}
use Rattle.format.proofs.held_at.Goals as goal

pub returns-then-most-n : goal.returns-then-most-n
returns-then-most-n c = let a = c.args in sized_bad a.s.now a.at a.w a.n (at_most a.most) c.requires.1 (omega arith) LIMIT (leb a.n a.most) [] refl (lt-leb _ _ c.if-most-n.true)

pub returns-then-left-n : goal.returns-then-left-n
returns-then-left-n c = let a = c.args in sized_cut a.s.now a.at a.w a.n (at_most a.most) c.requires.1 (omega arith) (le-leb _ _ c.if-most-n.false, tt) (omega arith)

pub returns : goal.returns
returns c = let a = c.args in sized_whole a.s.now a.at a.w a.n (at_most a.most) c.requires.1 (omega arith) (le-leb _ _ c.if-most-n.false, tt) (omega arith)
