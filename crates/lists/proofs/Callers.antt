-- What a caller of `index` learns: from any promise of its kind, and with room for the starts.
-- Assumes nothing.
use mathlib.Core.Path.{◌≡◌, refl, sym, ◌∙◌, ap}
use mathlib.Core.List.{List}
use Prim.Native.Nat.{ℕ, ◌≤◌}
use native.Mathlib.Omega.{arith}
use lib.ListN.{length, take}
use borrow.Author.Tests.{le-leb}
use Rattle.std.proofs.Common.{Ok, Err}
use Rattle.answer.specs.declared.Fault.{Fault}
use Rattle.answer.specs.Outcome.{Outcome, taken, refused, checked, after}
use Rattle.answer.specs.Calls.{fault_of}
use Rattle.answer.specs.Refusals.{number_of}
use Rattle.answer.proofs.Checks.{checked-after}
use Rattle.answer.proofs.Outcomes.{taken_is, taken_refused}
use Rattle.entries.specs.Kinds.{Description}
use Rattle.entries.proofs.Lawful.{Lawful}
use Rattle.lists.specs.Lists.{list_at, part_checks, whole, index_of}
use Rattle.lists.specs.Steps.{list_of}
use Rattle.lists.specs.Promises.{Indexed}
use Rattle.lists.proofs.Taken.{list_sound}
use Rattle.lists.proofs.Ordered.{index_length}
use Rattle.sorting.proofs.Shift.{take-over}

-- ---- from a promise

pub indexed_stop : (o : Outcome (List ℕ)) {old new : List ℕ} {f : Fault} → Indexed o old (Err f) new → o ≡ fault_of f
indexed_stop (taken l) i = absurd (taken_refused (sym i.answers))
indexed_stop (refused n p) {f = f} i = let e : refused (number_of f.0) f.1 ≡ refused n p = i.answers in cc

pub indexed_done : (o : Outcome (List ℕ)) {old new : List ℕ} {n : ℕ} → Indexed o old (Ok n) new → o ≡ taken (take n new)
indexed_done (taken l) {old} {new} {n} i = ap taken (sym (ap (take n) i.leaves ∙ take-over l old n (sym (taken_is i.answers))))
indexed_done (refused n p) i = absurd (taken_refused i.answers)

-- ---- with room for the starts

-- a definition that goes on from the list goes on from there
pub list_then : {A : Type 0} (d : Description) (s : List ℕ) (f : List ℕ → Outcome A) → checked (part_checks s) (after (list_at d s) f) ≡ after (list_of d s) f
list_then d s f = sym (checked-after (part_checks s) (list_at d s) f)

-- where there are places for as many as there may be, all are kept
pub index_roomy : {d : Description} → Lawful d → (m : ℕ) (s : List ℕ) → d.most ≤ m → index_of d m s ≡ list_of d s
index_roomy {d} K m s h = ap (checked (part_checks s)) (go (list_at d s) refl)
  where
    go : (o : Outcome (List ℕ)) → list_at d s ≡ o → after o (λ l. taken (whole m l)) ≡ o
    go (taken l) e = let n : length l ≤ m = omega (arith, index_length K s e, (list_sound K s e).few) in rw (le-leb (length l) m n)
    go (refused n p) e = refl
