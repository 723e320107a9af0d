-- A sheet and the table of fields agree: each member of a state's sheet is the bytes of its field in the state.
-- Assumes nothing.
use mathlib.Core.Path.{◌≡◌, refl}
use mathlib.Core.Bool.{true}
use mathlib.Core.List.{List}
use Prim.Native.Nat.{ℕ}
use lib.ListN.{length}
use Rattle.wire.specs.Numbers.{Bytes}
use Rattle.fields.specs.declared.State.TheVariants.{Mmu}
use Rattle.fields.specs.Layout.{field_table, row_at}
use Rattle.fields.specs.Fields.{has_in, bytes_at}
use Rattle.registers.specs.Registers.{gather}
use Rattle.registers.proofs.Tied.{Agree, tied, one, numbers, parts, selectors}
use Rattle.mmu_sheet.specs.Sheet.{mmu_of}
use Rattle.mmu_sheet.specs.Members.{mmu_members, mmu_member}

module _ (s : List ℕ) (b : Bytes s) where
  mmu_agree : Agree s (field_table Mmu) (mmu_members (mmu_of s))
  unfolding gather
  mmu_agree = (
    numbers s b 5 0,
    (
      numbers s b 8 40,
      (
        numbers s b 13 104,
        (
          one s b 208 8,
          (
            one s b 216 2,
            (
              one s b 218 8,
              (
                one s b 226 2,
                (
                  selectors s b 2 228,
                  (
                    parts s b 2 228 2 8 (λ x. x.base) (λ k. refl),
                    (parts s b 2 228 10 4 (λ x. x.limit) (λ k. refl), (parts s b 2 228 14 4 (λ x. x.access) (λ k. refl), tt)),
                  ),
                ),
              ),
            ),
          ),
        ),
      ),
    ),
  )

  pub mmu_ties : (n i : ℕ) → has_in (row_at Mmu n) i (length s) ≡ true → mmu_member (mmu_of s) n i ≡ bytes_at (row_at Mmu n) i s
  unfolding row_at mmu_member
  mmu_ties n i h = tied s (field_table Mmu) (mmu_members (mmu_of s)) mmu_agree n i h
