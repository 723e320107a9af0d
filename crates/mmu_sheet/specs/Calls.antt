-- The calls on MMU sheets: what is asked, in its order, and what is answered.
-- Assumes nothing.
use Rattle.std.specs.Prelude.{List, [], ◌∷◌, ℕ, replicate}
use Rattle.answer.specs.Numbers.{SHAPE}
use Rattle.answer.specs.Outcome.{Outcome, taken, refused, checked}
use Rattle.fields.specs.declared.State.TheVariants.{Mmu}
use Rattle.fields.specs.Fields.{right_length, state_checks}
use Rattle.mmu_sheet.specs.declared.MmuSheet.{MmuSheet}
use Rattle.mmu_sheet.specs.declared.MmuShown.{MmuShown}
use Rattle.mmu_sheet.specs.Sheet.{mmu_of, mmu_over}

-- reading: the length, which is all that is asked
unfoldable pub mmu_call : List ℕ → Outcome MmuSheet
mmu_call s = checked (state_checks Mmu s) (taken (mmu_of s))

-- number, place and sheet; beside a refusal the sheet of a state of zeros
abbrev pub mmu_shown : Outcome MmuSheet → MmuShown
mmu_shown (taken m) = record { number = 0; place = 0; sheet = m }
mmu_shown (refused n p) = record { number = n; place = p; sheet = mmu_of (replicate 264 0) }

-- writing over a state: its length
unfoldable pub mmu_over_call : MmuSheet → List ℕ → Outcome (List ℕ)
mmu_over_call m s = checked ((right_length Mmu s, SHAPE, 0) ∷ []) (taken (mmu_over m s))
