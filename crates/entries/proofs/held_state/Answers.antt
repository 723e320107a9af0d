use Rattle.format.proofs.Exits.{sized_short, sized_bad, sized_cut, sized_whole}
use Rattle.entries.specs.States.{cpu_length_checks}
use Rattle.format.specs.Format.{any}
use Rattle.answer.specs.Numbers.{SHAPE}
use mathlib.Core.List.{[]}
use mathlib.Core.Path.{refl, sym, ◌∙◌}
use native.Mathlib.Omega.{arith}
use Rattle.entries.proofs.held_state.Goals as goal

pub returns-then-left-lt4 : goal.returns-then-left-lt4
returns-then-left-lt4 c = let a = c.args in sized_short a.s.now a.at 4 (cpu_length_checks a.version) any (omega arith)

pub returns-then-not-cpu_length : goal.returns-then-not-cpu_length
returns-then-not-cpu_length c = let a = c.args in
    sized_bad a.s.now a.at 4 _ (cpu_length_checks a.version) c.u32_at-n.ensures (omega arith) SHAPE _ [] refl (sym c.cpu_length.ensures ∙ c.if-not-cpu_length.true)

pub returns-then-s-b : goal.returns-then-s-b
returns-then-s-b c = let a = c.args in
    sized_cut a.s.now a.at 4 _ (cpu_length_checks a.version) c.u32_at-n.ensures (omega arith) (sym c.cpu_length.ensures ∙ c.if-not-cpu_length.false, tt) (omega arith)

pub returns : goal.returns
returns c = let a = c.args in
    sized_whole a.s.now a.at 4 _ (cpu_length_checks a.version) c.u32_at-n.ensures (omega arith) (sym c.cpu_length.ensures ∙ c.if-not-cpu_length.false, tt) (omega arith)
