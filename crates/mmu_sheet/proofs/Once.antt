-- Each promise fixes its answer and every byte of lent memory: any two that it allows are equal.
-- Assumes nothing.
use mathlib.Core.Path.{◌≡◌}
use mathlib.Core.List.{List}
use Prim.Native.Nat.{ℕ}
use Rattle.answer.specs.declared.Answer.{Answer}
use Rattle.answer.proofs.Once.{equal_once}
use Rattle.fields.specs.Fields.{Changes}
use Rattle.fields.proofs.Once.{changes_once}
use Rattle.mmu_sheet.specs.declared.MmuSheet.{MmuSheet}
use Rattle.mmu_sheet.specs.declared.MmuShown.{MmuShown}
use Rattle.mmu_sheet.specs.Calls.{mmu_shown, mmu_call, mmu_over_call}
use Rattle.std.proofs.Common.{Result}
use Rattle.answer.specs.declared.Fault.{Fault}
use Rattle.answer.specs.Calls.{outcome_of}

pub mmu_once : (b : List ℕ) {r s : MmuShown} → r ≡ mmu_shown (mmu_call b) → s ≡ mmu_shown (mmu_call b) → r ≡ s
mmu_once b e f = equal_once e f

module _ (b : List ℕ) {r s : Answer} {new now : List ℕ} where
  pub mmu_over_once : (m : MmuSheet) → Changes 264 (mmu_over_call m b) b r new → Changes 264 (mmu_over_call m b) b s now → (r ≡ s) × (new ≡ now)
  mmu_over_once m x y = changes_once x y

pub mmu_shown_from_once : (o : Result MmuSheet Fault) {r s : MmuShown} → r ≡ mmu_shown (outcome_of o) → s ≡ mmu_shown (outcome_of o) → r ≡ s
mmu_shown_from_once o e f = equal_once e f
