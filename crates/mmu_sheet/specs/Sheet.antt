-- MMU states of version 2 as structs of their fields, and a struct's fields written over a state.
-- That what stands in a struct is the field of the table is a law (proofs/Ties); the layout is said in `fields`.
-- Assumes nothing.
use Rattle.std.specs.Prelude.{List, ℕ, ◌+◌}
use Rattle.wire.specs.Numbers.{le_at}
use Rattle.registers.specs.Registers.{at, words_at, words_over, segment_in, segment_over}
use Rattle.mmu_sheet.specs.declared.Bound.{Bound}
use Rattle.mmu_sheet.specs.declared.MmuSheet.{MmuSheet}

-- ---- a state read

abbrev pub bound_at : List ℕ → ℕ → Bound
bound_at s at = record { base = le_at 8 s at; limit = le_at 2 s (at + 8) }

-- CR0, CR2, CR3, CR4, CR8; DR0 to DR7; EFER, STAR, LSTAR, CSTAR, SFMASK, SYSENTER_CS, _EIP, _ESP, FS_BASE, GS_BASE, KERNEL_GS_BASE, APIC_BASE, TSC
abbrev pub mmu_of : List ℕ → MmuSheet
mmu_of s = record { control = words_at 0 5 s; debug = words_at 40 8 s; msr = words_at 104 13 s; gdtr = bound_at s 208; idtr = bound_at s 218; ldtr = segment_in s 228; tr = segment_in s 246 }

-- ---- a sheet over a state

abbrev pub bound_over : ℕ → Bound → List ℕ → List ℕ
bound_over k b s = at (k + 8) 2 b.limit (at k 8 b.base s)

abbrev pub mmu_over : MmuSheet → List ℕ → List ℕ
mmu_over m s = segment_over 246 m.tr (segment_over 228 m.ldtr (bound_over 218 m.idtr (bound_over 208 m.gdtr (words_over 104 m.msr (words_over 40 m.debug (words_over 0 m.control s))))))
