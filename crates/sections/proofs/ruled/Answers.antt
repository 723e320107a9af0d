use Rattle.answer.proofs.Checks.{left_pass, left_fail}
use Rattle.sections.proofs.Rules.{Ruling, ruled_all, ruled_fault, ruled_fine, some_flags, zero_flags, read_stop, read_stays, read_took, fault_place, keeps_stop, keeps_done, marked, unmarked}
use Rattle.sections.specs.Steps.{Marks}
use Rattle.aerosnap.specs.Known.{known, slot, takes}
use Rattle.aerosnap.specs.File.{devices_most}
use mathlib.Core.Path.{refl, ◌≡◌, sym, ◌∙◌}
use mathlib.Core.Logic.{◌≢◌}
use mathlib.Core.List.{List}
use mathlib.Core.Bool.{true, not, ◌||◌}
use Prim.Native.Nat.{ℕ, ◌≤◌}
use lib.ListN.{length, get_or}
use lib.Dec.{leb, eqb}
use native.Mathlib.Omega.{arith}
use Rattle.sections.proofs.ruled.Goals as goal

-- the rules of a section in their order: what is left to ask after each
module _ (l : List (List ℕ)) (at id version flags : ℕ) (p : List ℕ) (k : known id ≡ true) where
  left_all : Ruling l at id version flags p 0
  left_all = ruled_all l at id version flags p k

  module _ (t : takes id version ≡ true) where
    left_versioned : Ruling l at id version flags p 1
    left_versioned = left_pass left_all t

    module _ (z : flags ≤ 0) where
      left_unflagged : Ruling l at id version flags p 2
      left_unflagged = left_pass left_versioned (zero_flags flags z)

      module _ (seen : List ℕ) (n j : ℕ) (m : Marks seen l n) (e : (j ≡ slot id) × (1 ≤ j) × (j ≤ 8)) (u : get_or seen j 0 ≢ 1) where
        left_alone : Ruling l at id version flags p 3
        left_alone = left_pass left_unflagged (unmarked seen l n id j m e.0 e.1 e.2 u)

        left_small : (not (eqb id 4) || leb (length p) devices_most) ≡ true → Ruling l at id version flags p 4
        left_small s = left_pass left_alone s

pub returns-then-not-takes : goal.returns-then-not-takes
returns-then-not-takes c = let a = c.args in
    λ l n m. keeps_stop (left_fail (left_all l a.at a.id a.version a.flags a.p.now c.requires.0) (sym c.takes.ensures ∙ c.if-not-takes.true)) refl

pub returns-then-flags-gt0 : goal.returns-then-flags-gt0
returns-then-flags-gt0 c = let a = c.args in
    λ l n m. keeps_stop (left_fail (left_versioned l a.at a.id a.version a.flags a.p.now c.requires.0 (sym c.takes.ensures ∙ c.if-not-takes.false)) (some_flags a.flags c.if-flags-gt0.true)) refl

pub returns-then-seen-k-eq1 : goal.returns-then-seen-k-eq1
returns-then-seen-k-eq1 c = let a = c.args in let e = c.slot-k.ensures in
    λ l n m.
    keeps_stop (left_fail (left_unflagged l a.at a.id a.version a.flags a.p.now c.requires.0 (sym c.takes.ensures ∙ c.if-not-takes.false) c.if-flags-gt0.false)
    (marked a.seen.now l n a.id _ m e.0 e.1 e.2 c.if-seen-k-eq1.true)) refl

pub returns-then-not-small : goal.returns-then-not-small
returns-then-not-small c = let a = c.args in
    λ l n m.
    keeps_stop (left_fail (left_alone l a.at a.id a.version a.flags a.p.now c.requires.0 (sym c.takes.ensures ∙ c.if-not-takes.false) c.if-flags-gt0.false a.seen.now n _ m c.slot-k.ensures c.if-seen-k-eq1.false)
    (sym c.small.ensures ∙ c.if-not-small.true)) refl

pub overflow_add-result-in-Err-2 : goal.overflow_add-result-in-Err-2
overflow_add-result-in-Err-2 c = let a = c.args in
    omega (arith, fault_place a.id a.version a.p.now (omega (arith, c.requires.1)) (read_stop a.id a.version a.p.now a.index.now c.index.ensures c.in-Err.is))

pub returns-in-Err : goal.returns-in-Err
returns-in-Err c = let a = c.args in
    λ l n m.
    let small = left_small l a.at a.id a.version a.flags a.p.now c.requires.0 (sym c.takes.ensures ∙ c.if-not-takes.false) c.if-flags-gt0.false a.seen.now n _ m c.slot-k.ensures c.if-seen-k-eq1.false (sym c.small.ensures ∙ c.if-not-small.false) in
    keeps_stop (ruled_fault a.at a.id a.version a.p.now small (omega (arith, c.requires.1)) (read_stop a.id a.version a.p.now a.index.now c.index.ensures c.in-Err.is))
    (read_stays a.id a.version a.p.now a.index.now c.index.ensures c.in-Err.is)

pub returns-in-Ok : goal.returns-in-Ok
returns-in-Ok c = let a = c.args in
    let took = read_took a.id a.version a.p.now a.index.now c.index.ensures c.in-Ok.is in
    λ l n m.
    let small = left_small l a.at a.id a.version a.flags a.p.now c.requires.0 (sym c.takes.ensures ∙ c.if-not-takes.false) c.if-flags-gt0.false a.seen.now n _ m c.slot-k.ensures c.if-seen-k-eq1.false (sym c.small.ensures ∙ c.if-not-small.false) in
    keeps_done (ruled_fine a.at a.id a.version a.p.now small (omega (arith, c.requires.1)) took.fine) took.count took.kept
