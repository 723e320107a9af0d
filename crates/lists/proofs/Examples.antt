-- Lists read and written by computation: the payload of P4, P5 and P6 of document 01, and the order of its checks.
-- Assumes nothing.
use mathlib.Core.Path.{◌≡◌, refl}
use mathlib.Core.List.{List, [], ◌∷◌, ◌++◌}
use Prim.Native.Nat.{ℕ}
use lib.ListN.{length, take}
use Rattle.answer.specs.Numbers.{SHAPE, LIMIT, KEY}
use Rattle.answer.specs.Outcome.{Outcome, taken, refused}
use Rattle.wire.specs.Numbers.{le, le_at, bytes_of}
use Rattle.utf8.specs.Scan.{lead_of, after_of, scan_from, scan, is_text}
use Rattle.format.specs.Format.{read}
use Rattle.order.specs.Keyed.{insert, sort, has}
use Rattle.order.specs.Entries.{split}
use Rattle.entries.specs.Kinds.{Description, devices, disks, controllers}
use Rattle.std.proofs.Common.{Ok, Err}
use Rattle.lists.specs.Lists.{key_at, entry_at, walk, list_at, entries, list_bytes, index_of}
use Rattle.lists.specs.Promises.{find_in, halves, halves_in}

abbrev ReadsAs : Description → List ℕ → Outcome (List ℕ) → Type 0
ReadsAs d s o = list_at d s ≡ o

-- entry (14, 1, 0) with `11`
abbrev fourteen : List ℕ
fourteen = 14 ∷ 0 ∷ 0 ∷ 0 ∷ 1 ∷ 0 ∷ 0 ∷ 0 ∷ 1 ∷ 0 ∷ 0 ∷ 0 ∷ 0 ∷ 0 ∷ 0 ∷ 0 ∷ 17 ∷ []

-- entry (3, 1, 0) with `AB CD`
abbrev three : List ℕ
three = 3 ∷ 0 ∷ 0 ∷ 0 ∷ 1 ∷ 0 ∷ 0 ∷ 0 ∷ 2 ∷ 0 ∷ 0 ∷ 0 ∷ 0 ∷ 0 ∷ 0 ∷ 0 ∷ 171 ∷ 205 ∷ []

-- the same key with `11`
abbrev again : List ℕ
again = 3 ∷ 0 ∷ 0 ∷ 0 ∷ 1 ∷ 0 ∷ 0 ∷ 0 ∷ 1 ∷ 0 ∷ 0 ∷ 0 ∷ 0 ∷ 0 ∷ 0 ∷ 0 ∷ 17 ∷ []

abbrev two : List ℕ
two = 2 ∷ 0 ∷ 0 ∷ 0 ∷ []

-- the payload of P4, 39 bytes
abbrev payload : List ℕ
payload = two ++ fourteen ++ three

-- P4: taken, the starts in the order of the keys. P6: with both keys (3, 1, 0), KEY at the second entry (at 53 of the file, whose payload starts at 32)
pub device_lists : (length payload ≡ 39)
    × ReadsAs devices payload (taken (21 ∷ 4 ∷ []))
    × ReadsAs devices (two ++ again ++ three) (refused KEY 21)
    -- a byte behind the last entry is a tail
    × ReadsAs devices (payload ++ (0 ∷ [])) (taken (21 ∷ 4 ∷ []))
    -- no count; a count over its bound, with nothing behind it
    × ReadsAs devices (2 ∷ 0 ∷ 0 ∷ []) (refused SHAPE 0)
    × ReadsAs devices (1 ∷ 16 ∷ 0 ∷ 0 ∷ []) (refused LIMIT 0)
    -- a fixed part that does not fit comes before KEY, though the key is there
    × ReadsAs devices (two ++ again ++ take 15 three) (refused SHAPE 21)
    -- a payload that does not fit
    × ReadsAs devices (two ++ fourteen ++ take 17 three) (refused SHAPE 37)
    × ReadsAs devices (0 ∷ 0 ∷ 0 ∷ 0 ∷ []) (taken [])
unfolding list_at walk entry_at read le_at le insert has
device_lists = (refl, refl, refl, refl, refl, refl, refl, refl, refl)

-- P5: in the order of the keys (3, 1, 0) is first, and so it stays
pub sorted_devices : (entries devices payload ≡ fourteen ∷ three ∷ [])
    × (list_bytes (sort devices.key (entries devices payload)) ≡ two ++ three ++ fourteen)
    × ReadsAs devices (two ++ three ++ fourteen) (taken (4 ∷ 22 ∷ []))
unfolding list_at walk entry_at read le_at le bytes_of insert has split
sorted_devices = (refl, refl, refl)

-- keys are compared as numbers: 1 before 256, though the stored bytes of 256 begin with the lower one
pub as_numbers : ReadsAs disks (two ++ (0 ∷ 1 ∷ 0 ∷ 0 ∷ 0 ∷ 0 ∷ 0 ∷ 0 ∷ 0 ∷ 0 ∷ 0 ∷ 0 ∷ []) ++ (1 ∷ 0 ∷ 0 ∷ 0 ∷ 0 ∷ 0 ∷ 0 ∷ 0 ∷ 0 ∷ 0 ∷ 0 ∷ 0 ∷ [])) (taken (16 ∷ 4 ∷ []))
    × ReadsAs controllers (two ++ (0 ∷ 1 ∷ 0 ∷ 0 ∷ 9 ∷ 9 ∷ 9 ∷ 9 ∷ 0 ∷ 0 ∷ 0 ∷ 0 ∷ []) ++ (1 ∷ 0 ∷ 0 ∷ 0 ∷ 9 ∷ 9 ∷ 9 ∷ 9 ∷ 0 ∷ 0 ∷ 0 ∷ 0 ∷ [])) (taken (16 ∷ 4 ∷ []))
unfolding list_at walk entry_at read le_at le insert has is_text scan scan_from after_of lead_of
as_numbers = (refl, refl)

-- the call, with room for two starts, and for one: then none is kept
pub calls : (index_of devices 2 payload ≡ taken (21 ∷ 4 ∷ []))
    × (index_of devices 1 payload ≡ taken [])
    × (find_in (key_at devices payload) (devices.key three) (21 ∷ 4 ∷ []) ≡ Ok 0)
    × (find_in (key_at devices payload) 4294967296 (21 ∷ 4 ∷ []) ≡ Err 0)
    × (find_in (key_at devices payload) 17179869184 (21 ∷ 4 ∷ []) ≡ Err 1)
    × (find_in (key_at devices payload) 64424509440 (21 ∷ 4 ∷ []) ≡ Err 2)
unfolding list_at walk entry_at read le_at le insert has find_in
calls = (refl, refl, refl, refl, refl, refl)

-- by halves the same; in starts out of order the higher key, which is the first, isn't found
pub by_halves : (halves_in (key_at devices payload) (devices.key three) (21 ∷ 4 ∷ []) ≡ Ok 0)
    × (halves_in (key_at devices payload) (devices.key fourteen) (21 ∷ 4 ∷ []) ≡ Ok 1)
    × (halves_in (key_at devices payload) 4294967296 (21 ∷ 4 ∷ []) ≡ Err 0)
    × (halves_in (key_at devices payload) 17179869184 (21 ∷ 4 ∷ []) ≡ Err 1)
    × (halves_in (key_at devices payload) 64424509440 (21 ∷ 4 ∷ []) ≡ Err 2)
    × (halves_in (key_at devices payload) (devices.key fourteen) (4 ∷ 21 ∷ []) ≡ Err 2)
unfolding le_at le halves
by_halves = (refl, refl, refl, refl, refl, refl)
