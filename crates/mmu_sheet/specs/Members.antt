-- Which field of the table each member of a sheet is: the bytes of the members, in the order of the fields' numbers, each by its index.
-- Assumes nothing.
use Rattle.std.specs.Prelude.{List, [], ◌∷◌, ℕ, get_or}
use Rattle.wire.specs.Numbers.{bytes_of}
use Rattle.registers.specs.declared.Segment.{Segment}
use Rattle.registers.specs.Registers.{no_segment, no_member}
use Rattle.mmu_sheet.specs.declared.MmuSheet.{MmuSheet}

-- LDTR, TR
abbrev pub system : MmuSheet → List Segment
system m = m.ldtr ∷ m.tr ∷ []

abbrev pub mmu_members : MmuSheet → List (ℕ → List ℕ)
mmu_members m =
    (λ i. bytes_of 8 (get_or m.control i 0))
    ∷ (λ i. bytes_of 8 (get_or m.debug i 0))
    ∷ (λ i. bytes_of 8 (get_or m.msr i 0))
    ∷ (λ i. bytes_of 8 m.gdtr.base)
    ∷ (λ i. bytes_of 2 m.gdtr.limit)
    ∷ (λ i. bytes_of 8 m.idtr.base)
    ∷ (λ i. bytes_of 2 m.idtr.limit)
    ∷ (λ i. bytes_of 2 (get_or (system m) i no_segment).selector)
    ∷ (λ i. bytes_of 8 (get_or (system m) i no_segment).base)
    ∷ (λ i. bytes_of 4 (get_or (system m) i no_segment).limit)
    ∷ (λ i. bytes_of 4 (get_or (system m) i no_segment).access)
    ∷ []

-- the bytes of field n, index i
unfoldable pub mmu_member : MmuSheet → ℕ → ℕ → List ℕ
mmu_member m n i = get_or (mmu_members m) n no_member i
