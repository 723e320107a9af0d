-- Tables by computation: the devices of P4's payload, which stands at 32; a disk; a controller at bus 1.
-- Assumes nothing.
use Rattle.std.proofs.Common.{◌≡◌, ℕ, List, [], ◌∷◌, ◌++◌, length, refl}
use Rattle.wire.specs.Numbers.{le, le_at, bytes_of}
use Rattle.tables.specs.declared.Table.TheVariants.{Devices, Disks, Controllers}
use Rattle.tables.specs.Tables.{rows_at}

abbrev u32 : ℕ → List ℕ
u32 n = n ∷ 0 ∷ 0 ∷ 0 ∷ []

abbrev u64 : ℕ → List ℕ
u64 n = u32 n ++ u32 0

-- the entry (id, 1, 0) of a device, and what its record begins with
abbrev numbers : ℕ → List ℕ
numbers id = u32 id ++ (1 ∷ 0 ∷ 0 ∷ 0 ∷ [])

abbrev device : ℕ → List ℕ → List ℕ
device id p = numbers id ++ (u64 (length p) ++ p)

abbrev payload : List ℕ
payload = u32 2 ++ (device 14 (17 ∷ []) ++ device 3 (171 ∷ 205 ∷ []))

pub devices : rows_at Devices 32 payload (21 ∷ 4 ∷ []) ≡ numbers 3 ++ (u64 69 ++ (u64 2 ++ (u32 1 ++ (u32 0 ++ (numbers 14 ++ (u64 52 ++ (u64 1 ++ (u32 0 ++ u32 0))))))))
unfolding le_at le bytes_of
devices = refl

-- disk 7 with the base `A` and no overlay, in a list at 100
pub disks : rows_at Disks 100 (u32 1 ++ (u32 7 ++ (u32 1 ++ (65 ∷ u32 0)))) (4 ∷ []) ≡ u32 7 ++ (u32 1 ++ (u64 112 ++ (u32 0 ++ (u32 0 ++ (u32 0 ++ u32 0)))))
unfolding le_at le bytes_of
disks = refl

-- bus 1, device 0, function 0, with two bytes, behind a wrapper's header
pub controllers : rows_at Controllers 16 (u32 1 ++ (0 ∷ 1 ∷ 0 ∷ 0 ∷ 73 ∷ 68 ∷ 69 ∷ 48 ∷ (u32 2 ++ (171 ∷ 205 ∷ [])))) (4 ∷ [])
    ≡ 0 ∷ 1 ∷ 0 ∷ 0 ∷ 73 ∷ 68 ∷ 69 ∷ 48 ∷ (u64 32 ++ (u64 2 ++ (u32 0 ++ u32 0)))
unfolding le_at le bytes_of
controllers = refl
