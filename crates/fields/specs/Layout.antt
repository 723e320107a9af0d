-- CPU and MMU states of version 2 as document 002 lays them out, and the table of fields that comes of it.
-- Assumes nothing.
use Rattle.std.specs.Prelude.{List, [], ◌∷◌, ◌++◌, ℕ, ◌+◌, ◌*◌, get_or}
use Rattle.fields.specs.declared.Row.{Row}
use Rattle.fields.specs.declared.State.{State}
use Rattle.fields.specs.declared.State.TheVariants.{Cpu, Mmu}

-- ---- a layout: groups one behind another, each so many times the same parts

pub data LayoutPart : Type 0 where
  -- bytes of any value
  free : ℕ → LayoutPart
  -- a number of so many bytes, from the least to the greatest that it may be
  ranged : ℕ → ℕ → ℕ → LayoutPart
  -- a number of so many bytes that can only be this one: no field
  fixed : ℕ → ℕ → LayoutPart

abbrev pub Layout : Type 0
Layout = List (ℕ × List LayoutPart)

abbrev pub u8 : LayoutPart
u8 = free 1

abbrev pub u16 : LayoutPart
u16 = free 2

abbrev pub u32 : LayoutPart
u32 = free 4

abbrev pub u64 : LayoutPart
u64 = free 8

abbrev pub u128 : LayoutPart
u128 = free 16

-- 0 or 1
abbrev pub flag : LayoutPart
flag = ranged 1 0 1

abbrev pub one : LayoutPart → ℕ × List LayoutPart
one p = (1, p ∷ [])

-- selector, base, limit, access
abbrev pub segment : List LayoutPart
segment = u16 ∷ u64 ∷ u32 ∷ u32 ∷ []

-- CPU section v2
abbrev pub cpu_layout : Layout
cpu_layout =
    (16, u64 ∷ [])  -- GPRs: RAX, RCX, RDX, RBX, RSP, RBP, RSI, RDI, R8..R15
    ∷ one u64  -- RIP
    ∷ one u64  -- RFLAGS
    ∷ one (ranged 1 0 3)  -- CPU_MODE
    ∷ one flag  -- HALTED
    ∷ (6, segment)  -- ES, CS, SS, DS, FS, GS
    ∷ one u16  -- fcw
    ∷ one u16  -- fsw
    ∷ one u16  -- ftw
    ∷ one (ranged 1 0 7)  -- top
    ∷ one u16  -- fop
    ∷ one u64  -- fip
    ∷ one u64  -- fdp
    ∷ one u16  -- fcs
    ∷ one u16  -- fds
    ∷ (8, u128 ∷ [])  -- st
    ∷ one u32  -- MXCSR
    ∷ (16, u128 ∷ [])  -- XMM
    ∷ one (free 512)  -- FXSAVE_AREA
    ∷ []

-- the optional extension behind it
abbrev pub cpu_extension : Layout
cpu_extension =
    one (fixed 4 4)  -- EXT_LEN
    ∷ one flag  -- a20_enabled
    ∷ one flag  -- irq13_pending
    ∷ one flag  -- pending_bios_int_valid
    ∷ one u8  -- pending_bios_int
    ∷ []

-- MMU section v2
abbrev pub mmu_layout : Layout
mmu_layout =
    (5, u64 ∷ [])  -- CR0, CR2, CR3, CR4, CR8
    ∷ (8, u64 ∷ [])  -- DR0..DR7
    ∷ (13, u64 ∷ [])  -- EFER, STAR, LSTAR, CSTAR, SFMASK, SYSENTER_CS, _EIP, _ESP, FS_BASE, GS_BASE, KERNEL_GS_BASE, APIC_BASE, TSC
    ∷ one u64  -- GDTR_BASE
    ∷ one u16  -- GDTR_LIMIT
    ∷ one u64  -- IDTR_BASE
    ∷ one u16  -- IDTR_LIMIT
    ∷ (2, segment)  -- LDTR, TR
    ∷ []

-- ---- what comes of it

abbrev pub width : LayoutPart → ℕ
width (free w) = w
width (ranged w a b) = w
width (fixed w a) = w

-- the bytes of parts one behind another, and of a layout
abbrev pub breadth : List LayoutPart → ℕ
breadth [] = 0
breadth (p ∷ l) = width p + breadth l

-- a field: where its first stands, its bytes, how many there are, and from one to the next
abbrev pub field_row : ℕ → ℕ → ℕ → ℕ → Row
field_row at width count step = record { at = at; width = width; count = count; step = step }

-- the fields of a group that starts at a place
abbrev pub rows_of : ℕ → ℕ → ℕ → List LayoutPart → List Row
rows_of at count step [] = []
rows_of at count step (free w ∷ l) = field_row at w count step ∷ rows_of (at + w) count step l
rows_of at count step (ranged w a b ∷ l) = field_row at w count step ∷ rows_of (at + w) count step l
rows_of at count step (fixed w a ∷ l) = rows_of (at + w) count step l

-- the fields of a layout, in its order: a field's number is its place in this list
abbrev pub field_rows : ℕ → Layout → List Row
field_rows at [] = []
field_rows at (g ∷ l) = rows_of at g.0 (breadth g.1) g.1 ++ field_rows (at + g.0 * breadth g.1) l

-- the table of fields of a kind of state
abbrev pub field_table : State → List Row
field_table Cpu = field_rows 0 (cpu_layout ++ cpu_extension)
field_table Mmu = field_rows 0 mmu_layout

-- past the table there is none of it
abbrev pub no_row : Row
no_row = field_row 0 0 0 0

unfoldable pub row_at : State → ℕ → Row
row_at k n = get_or (field_table k) n no_row
