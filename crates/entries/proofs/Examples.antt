-- Entries by computation: P13 of document 01, and keys compared as numbers.
-- Assumes nothing.
use mathlib.Core.Path.{◌≡◌, refl}
use mathlib.Core.Bool.{true}
use mathlib.Core.List.{List, [], ◌∷◌, ◌++◌}
use Prim.Native.Nat.{ℕ}
use lib.Dec.{ltb}
use lib.ListN.{replicate}
use Rattle.answer.specs.Numbers.{SHAPE, RESERVED, VALUE}
use Rattle.answer.specs.Outcome.{taken, refused}
use Rattle.answer.specs.Calls.{asked}
use Rattle.wire.specs.Numbers.{le, le_at, bytes_of}
use Rattle.format.specs.Format.{read, values}
use Rattle.entries.specs.States.{cpu_whole}
use Rattle.entries.specs.Kinds.{lead_checks, address, bus_of, device_of, function_of, device_key, devices, cpus, controllers}

-- bus 0, device 31, function 2 is 250; bus 1, device 0, function 0 is stored `00 01`
pub p13 : (address 0 31 2 ≡ 250) × (bytes_of 2 (address 1 0 0) ≡ 0 ∷ 1 ∷ [])
unfolding bytes_of
p13 = (refl, refl)

-- and read back as 256, not as 1
pub back : (controllers.key (0 ∷ 1 ∷ []) ≡ 256) × (bus_of 256 ≡ 1) × (device_of 250 ≡ 31) × (function_of 250 ≡ 2)
unfolding le_at le
back = (refl, refl, refl, refl)

-- id 1 stored `01 00 00 00` comes before id 256 stored `00 01 00 00`, then the version counts, then the flags
pub keys : (ltb (device_key (1 ∷ 0 ∷ 0 ∷ 0 ∷ 9 ∷ 0 ∷ 9 ∷ 0 ∷ [])) (device_key (0 ∷ 1 ∷ 0 ∷ 0 ∷ 0 ∷ 0 ∷ 0 ∷ 0 ∷ [])) ≡ true)
    × (ltb (device_key (1 ∷ 0 ∷ 0 ∷ 0 ∷ 1 ∷ 0 ∷ 9 ∷ 0 ∷ [])) (device_key (1 ∷ 0 ∷ 0 ∷ 0 ∷ 2 ∷ 0 ∷ 0 ∷ 0 ∷ [])) ≡ true)
    × (ltb (device_key (1 ∷ 0 ∷ 0 ∷ 0 ∷ 1 ∷ 0 ∷ 1 ∷ 0 ∷ [])) (device_key (1 ∷ 0 ∷ 0 ∷ 0 ∷ 1 ∷ 0 ∷ 0 ∷ 1 ∷ [])) ≡ true)
unfolding le_at le
keys = (refl, refl, refl)

-- a controller at 250 with two bytes; one whose reserved number is not 0; one whose fixed part is cut
abbrev controller : List ℕ
controller = 250 ∷ 0 ∷ 0 ∷ 0 ∷ 73 ∷ 68 ∷ 69 ∷ 48 ∷ 2 ∷ 0 ∷ 0 ∷ 0 ∷ 171 ∷ 205 ∷ []

pub whole : (asked (lead_checks controllers controller) ≡ taken tt) × (read controllers.form controller ≡ taken 14)
unfolding read le_at le
whole = (refl, refl)

pub reserved : asked (lead_checks controllers (250 ∷ 0 ∷ 0 ∷ 1 ∷ 73 ∷ 68 ∷ 69 ∷ 48 ∷ 0 ∷ 0 ∷ 0 ∷ 0 ∷ [])) ≡ refused RESERVED 2
unfolding le_at le
reserved = refl

-- states of 1200 bytes of version 2: the extension's length is 13, or the length is wrong, at the state's start, or in CPUS at its length
abbrev zeros : ℕ → List ℕ
zeros n = replicate n 0

abbrev state : ℕ → List ℕ
state n = zeros 1183 ++ (bytes_of 4 n ++ zeros 13)

abbrev entry : ℕ → List ℕ
entry n = bytes_of 4 9 ++ (bytes_of 4 1200 ++ (state n ++ bytes_of 8 0))

pub longer : (cpu_whole 2 (state 13) ≡ taken tt)
    × (cpu_whole 2 (state 12) ≡ refused SHAPE 0)
    × (read (cpus 2).form (entry 13) ≡ taken 1216)
    × (read (cpus 2).form (entry 12) ≡ refused SHAPE 4)
    -- at 1191 bytes another length is a value of its own; bytes 1187 to 1189 are asked in longer states too
    × (cpu_whole 2 (zeros 1191) ≡ refused VALUE 1183)
    × (cpu_whole 2 (zeros 1183 ++ (bytes_of 4 13 ++ (0 ∷ 2 ∷ zeros 11))) ≡ refused VALUE 1188)
    × (cpu_whole 2 (zeros 1184) ≡ refused SHAPE 0)
unfolding read values le_at le bytes_of
longer = (refl, refl, refl, refl, refl, refl, refl)

pub cut : asked (lead_checks devices (3 ∷ 0 ∷ 0 ∷ 0 ∷ 1 ∷ 0 ∷ 0 ∷ 0 ∷ 0 ∷ 0 ∷ 0 ∷ 0 ∷ 0 ∷ 0 ∷ 0 ∷ [])) ≡ refused SHAPE 0
cut = refl
