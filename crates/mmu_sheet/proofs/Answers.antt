-- The calls on sheets: the code's answers against the definitions.
-- Assumes nothing.
use mathlib.Core.Path.{◌≡◌}
use mathlib.Core.List.{List}
use Prim.Native.Nat.{ℕ}
use Rattle.answer.specs.Outcome.{taken, refused}
use Rattle.answer.specs.Calls.{asked}
use Rattle.answer.proofs.Checks.{asked_stop, asked-pass, pass-checked}
use Rattle.fields.specs.declared.State.TheVariants.{Mmu}
use Rattle.fields.specs.Fields.{state_checks}
use Rattle.mmu_sheet.specs.declared.MmuSheet.{MmuSheet}
use Rattle.mmu_sheet.specs.Sheet.{mmu_of, mmu_over}
use Rattle.mmu_sheet.specs.Calls.{mmu_call, mmu_over_call}

module _ (s : List ℕ) {n p : ℕ} (e : refused n p ≡ asked (state_checks Mmu s)) where
  pub mmu_fault : mmu_call s ≡ refused n p
  unfolding mmu_call
  mmu_fault = asked_stop (state_checks Mmu s) (taken (mmu_of s)) e

  pub over_fault : (m : MmuSheet) → mmu_over_call m s ≡ refused n p
  unfolding mmu_over_call state_checks
  over_fault m = asked_stop (state_checks Mmu s) (taken (mmu_over m s)) e

module _ (s : List ℕ) (e : taken tt ≡ asked (state_checks Mmu s)) where
  pub mmu_fine : mmu_call s ≡ taken (mmu_of s)
  unfolding mmu_call
  mmu_fine = pass-checked (state_checks Mmu s) (taken (mmu_of s)) (asked-pass (state_checks Mmu s) e)

  pub over_fine : (m : MmuSheet) → mmu_over_call m s ≡ taken (mmu_over m s)
  unfolding mmu_over_call state_checks
  over_fine m = pass-checked (state_checks Mmu s) (taken (mmu_over m s)) (asked-pass (state_checks Mmu s) e)
