-- The known sections: their ids, the versions taken of them, and which of them count as one.
-- Assumes nothing.
use Rattle.std.specs.Prelude.{Bool, true, false, ◌&&◌, ◌||◌, ℕ, leb, eqb}

abbrev pub META : ℕ
META = 1

abbrev pub CPU : ℕ
CPU = 2

abbrev pub MMU : ℕ
MMU = 3

abbrev pub DEVICES : ℕ
DEVICES = 4

abbrev pub DISKS : ℕ
DISKS = 5

abbrev pub RAM : ℕ
RAM = 6

abbrev pub CPUS : ℕ
CPUS = 7

abbrev pub MMUS : ℕ
MMUS = 8

-- the ids from META to MMUS; other ids are carried
abbrev pub known : ℕ → Bool
known id = leb META id && leb id MMUS

-- version 1 of each is taken, and version 2 of CPU, MMU, CPUS and MMUS
abbrev pub takes : ℕ → ℕ → Bool
takes id v = eqb v 1 || (eqb v 2 && (eqb id CPU || eqb id MMU || eqb id CPUS || eqb id MMUS))

-- a known id comes once, and CPU not with CPUS, nor MMU with MMUS: those share a slot
abbrev pub slot : ℕ → ℕ
slot id = elim (eqb id CPUS) [ true ↦ CPU | false ↦ elim (eqb id MMUS) [ true ↦ MMU | false ↦ id ] ]
