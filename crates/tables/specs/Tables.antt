-- Tables handed out: records of ROW bytes, no header. Offsets count from the start of the input.
-- Assumes nothing.
use Rattle.std.specs.Prelude.{ℕ, ◌+◌, cond, List, ◌++◌, drop, nat_le}
use Rattle.wire.specs.Numbers.{le_at, bytes_of}
use Rattle.order.specs.Keyed.{weigh, flat}
use Rattle.entries.specs.States.{mmu_length}
use Rattle.entries.specs.Kinds.{Description, devices, disks, cpus, mmus, controllers}
use Rattle.tables.specs.declared.Table.{Table}
use Rattle.tables.specs.declared.Table.TheVariants.{Devices, Disks, Cpus, Mmus, Controllers}

-- the length of a record
abbrev pub ROW : ℕ
ROW = 32

abbrev pub described : Table → Description
described Devices = devices
described Disks = disks
described (Cpus v) = cpus v
described (Mmus v) = mmus v
described Controllers = controllers

-- the position of the entry that starts at y in the list's own order, from 0, where l are the starts of all its entries: how many of them are before y
abbrev pub position_in : List ℕ → ℕ → ℕ
position_in l y = weigh (λ z. cond (nat_le y z) 0 1) l

-- what every record ends with: u32 position, u32 0
abbrev pub ended : ℕ → List ℕ
ended q = bytes_of 4 q ++ bytes_of 4 0

-- a section or a device: u32 id, u16 version, u16 flags, u64 payload offset, u64 length
abbrev pub framed_row : ℕ → ℕ → List ℕ → List ℕ
framed_row p q e = bytes_of 4 (le_at 4 e 0) ++ (bytes_of 2 (le_at 2 e 4) ++ (bytes_of 2 (le_at 2 e 6) ++ (bytes_of 8 (p + 16) ++ (bytes_of 8 (le_at 8 e 8) ++ ended q))))

-- a disk: u32 id, u32 base length, u64 base offset, u32 overlay length, u32 0
abbrev pub disk_row : ℕ → ℕ → List ℕ → List ℕ
disk_row p q e = bytes_of 4 (le_at 4 e 0) ++ (bytes_of 4 (le_at 4 e 4) ++ (bytes_of 8 (p + 8) ++ (bytes_of 4 (le_at 4 e (8 + le_at 4 e 4)) ++ (bytes_of 4 0 ++ ended q))))

-- a CPU: u32 APIC id, u32 state length, u64 state offset, u64 length of the internal blob, which stands behind the state and its own u64 length
abbrev pub cpu_row : ℕ → ℕ → List ℕ → List ℕ
cpu_row p q e = bytes_of 4 (le_at 4 e 0) ++ (bytes_of 4 (le_at 4 e 4) ++ (bytes_of 8 (p + 8) ++ (bytes_of 8 (le_at 8 e (8 + le_at 4 e 4)) ++ ended q)))

-- an MMU: u32 APIC id, u32 state length, by the version of its section, u64 state offset, u64 0
abbrev pub mmu_row : ℕ → ℕ → ℕ → List ℕ → List ℕ
mmu_row v p q e = bytes_of 4 (le_at 4 e 0) ++ (bytes_of 4 (mmu_length v) ++ (bytes_of 8 (p + 4) ++ (bytes_of 8 0 ++ ended q)))

-- a controller: u16 address, u16 0, four tag bytes, u64 payload offset, u64 length
abbrev pub controller_row : ℕ → ℕ → List ℕ → List ℕ
controller_row p q e = bytes_of 2 (le_at 2 e 0) ++ (bytes_of 2 0 ++ (bytes_of 4 (le_at 4 e 4) ++ (bytes_of 8 (p + 12) ++ (bytes_of 8 (le_at 4 e 8) ++ ended q))))

-- the record of the entry that begins the bytes e, starts at p of the input and has the position q
abbrev pub row_of : Table → ℕ → ℕ → List ℕ → List ℕ
row_of Devices p q e = framed_row p q e
row_of Disks p q e = disk_row p q e
row_of (Cpus v) p q e = cpu_row p q e
row_of (Mmus v) p q e = mmu_row v p q e
row_of Controllers p q e = controller_row p q e

-- the records of the entries of s that start at the places l, where s stands at base of the input and all its entries start at the places `all`
abbrev pub rows_in : Table → ℕ → List ℕ → List ℕ → List ℕ → List ℕ
rows_in t base s all l = flat (λ y. row_of t (base + y) (position_in all y) (drop y s)) l

-- the records of all entries of s
abbrev pub rows_at : Table → ℕ → List ℕ → List ℕ → List ℕ
rows_at t base s l = rows_in t base s l l
