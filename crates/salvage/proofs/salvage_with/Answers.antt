use Rattle.answer.proofs.Outcomes.{handed_on}
use Rattle.sections.specs.Steps.{HoldsParts}
use Rattle.sections.proofs.Directed.{divided_whole, divided_lost}
use Rattle.salvage.proofs.Rescuing.{divided_fault, salvage_stop}
use mathlib.Core.Path.{sym, ◌∙◌, ap, subst}
use Rattle.std.proofs.Common.{Ok}
use mathlib.Core.List.{List}
use Prim.Native.Nat.{ℕ}
use lib.ListN.{length, replicate, length-replicate}
use Rattle.salvage.proofs.salvage_with.Goals as goal

-- so many zeros have room for the parts
roomy : (s : List ℕ) (n : ℕ) → HoldsParts s n → HoldsParts s (length {A = ℕ} (replicate n 0))
roomy s n h = subst (HoldsParts s) (sym (length-replicate n 0)) h

pub returns-in_err-divide : goal.returns-in_err-divide
returns-in_err-divide g c = let a = c.args in
    rw (handed_on _ c.in_err-divide.field-0.0 c.from_residual.ensures.1)
    (salvage_stop a.file.now a.out.now a.losses.now c.in_err-divide.field-0.0 (divided_fault a.file.now (replicate g.row.N 0) _ (roomy a.file.now g.row.N c.requires.holds) c.divide.ensures c.in_err-divide.was (length a.out.now) (length a.losses.now)))

pub salvage_in-requires : goal.salvage_in-requires
salvage_in-requires g c = let s = c.args.file.now in divided_whole s (replicate g.row.N 0) (roomy s g.row.N c.requires.holds) c.divide.ensures (c.in_ok-divide.was ∙ ap Ok c.in-None.is)

pub salvage_in-requires-in-Some : goal.salvage_in-requires-in-Some
salvage_in-requires-in-Some g c = let s = c.args.file.now in divided_lost s (replicate g.row.N 0) (roomy s g.row.N c.requires.holds) c.divide.ensures (c.in_ok-divide.was ∙ ap Ok c.in-Some.is)
