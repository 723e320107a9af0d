-- The examples P1 to P9 of document 01, by computation.
-- Assumes nothing.
use mathlib.Core.Path.{◌≡◌, refl}
use mathlib.Core.List.{List, [], ◌∷◌, ◌++◌}
use Prim.Native.Nat.{ℕ}
use lib.ListN.{length, take, set}
use Rattle.answer.specs.Numbers.{SHORT, ENDIAN, CUT, KEY, HAVE}
use Rattle.answer.specs.Outcome.{taken, refused}
use Rattle.wire.specs.Numbers.{le_at, le, bytes_of}
use Rattle.format.specs.Format.{read, values}
use Rattle.order.specs.Keyed.{insert, has}
use Rattle.order.specs.Entries.{split}
use Rattle.lists.specs.Lists.{entry_at, walk, list_at}
use Rattle.aerosnap.specs.Payloads.{payload}
use Rattle.aerosnap.specs.File.{header, ruled, section_of, sections, file_of}
use Rattle.aerosnap.specs.Content.{canonical}
use Rattle.aerosnap.specs.Tables.{placed, section_rows}
use Rattle.aerosnap.specs.Calls.{sections_call, devices_call, disks_call}
use Rattle.aerosnap.specs.Adding.{device}
use Rattle.aerosnap.specs.Edits.{add_item, edit_file, edit_to}

abbrev u32 : ℕ → List ℕ
u32 n = n ∷ 0 ∷ 0 ∷ 0 ∷ []

abbrev u64 : ℕ → List ℕ
u64 n = n ∷ 0 ∷ 0 ∷ 0 ∷ 0 ∷ 0 ∷ 0 ∷ 0 ∷ []

-- u32 id, u16 version 1, u16 flags 0: what the header of a section, an entry (id, 1, 0) of DEVICES and the record of either begin with
abbrev head : ℕ → List ℕ
head id = u32 id ++ (1 ∷ 0 ∷ 0 ∷ 0 ∷ [])

-- the entry (id, 1, 0) with a payload
abbrev entry : ℕ → List ℕ → List ℕ
entry id p = head id ++ (u64 (length p) ++ p)

-- the header, and DEVICES with a length and a payload
abbrev file : ℕ → List ℕ → List ℕ
file n p = header ++ (head 4 ++ (u64 n ++ p))

abbrev pub p1 : List ℕ
p1 = 0x41 ∷ 0x45 ∷ 0x52 ∷ 0x4F ∷ 0x53 ∷ 0x4E ∷ 0x41 ∷ 0x50 ∷ 0x01 ∷ 0x00 ∷ 0x01 ∷ 0x00 ∷ 0x00 ∷ 0x00 ∷ 0x00 ∷ 0x00 ∷ []

abbrev pub p4 : List ℕ
p4 = file 39 (u32 2 ++ (entry 14 (0x11 ∷ []) ++ entry 3 (0xAB ∷ 0xCD ∷ [])))

abbrev pub p5 : List ℕ
p5 = file 39 (u32 2 ++ (entry 3 (0xAB ∷ 0xCD ∷ []) ++ entry 14 (0x11 ∷ [])))

-- p4 with both keys (3,1,0)
abbrev pub p6 : List ℕ
p6 = file 39 (u32 2 ++ (entry 3 (0x11 ∷ []) ++ entry 3 (0xAB ∷ 0xCD ∷ [])))

abbrev pub p9 : List ℕ
p9 = file 4 (u32 0)

pub record Examples : Type 0 where
  pub P1 : file_of p1 ≡ taken []
  pub P1-sections : sections_call 0 p1 ≡ taken []
  pub P1-devices : devices_call 0 p1 ≡ taken []
  pub P1-disks : disks_call 0 p1 ≡ taken []
  pub P2 : file_of (take 15 p1) ≡ refused SHORT 0
  pub P3 : file_of (set p1 10 2) ≡ refused ENDIAN 10
  pub P4 : length p4 ≡ 71
  pub P4-sections : sections_call 32 p4 ≡ taken (head 4 ++ (u64 32 ++ (u64 39 ++ (u32 0 ++ u32 0))))
  pub P4-devices : devices_call 64 p4 ≡ taken (head 3 ++ (u64 69 ++ (u64 2 ++ (u32 1 ++ (u32 0 ++ (head 14 ++ (u64 52 ++ (u64 1 ++ (u32 0 ++ u32 0)))))))))
  pub P5 : canonical 71 p4 ≡ taken p5
  pub P5-devices : devices_call 64 p5 ≡ taken (head 3 ++ (u64 52 ++ (u64 2 ++ (u32 0 ++ (u32 0 ++ (head 14 ++ (u64 70 ++ (u64 1 ++ (u32 1 ++ u32 0)))))))))
  pub P6 : file_of p6 ≡ refused KEY 53
  pub P7 : add_item 1000 p5 (device 3 1 0 (0xAB ∷ 0xCD ∷ [])) ≡ refused HAVE 0
  pub P8 : file_of (set p4 24 40) ≡ refused CUT 16
  pub P9 : length p9 ≡ 36
  pub P9-canonical : canonical 16 p9 ≡ taken p1

pub examples : Examples
unfolding le_at le bytes_of insert has read values split entry_at walk list_at payload ruled section_of sections file_of canonical placed section_rows edit_to edit_file
examples = record {
  P1 = refl;
  P1-sections = refl;
  P1-devices = refl;
  P1-disks = refl;
  P2 = refl;
  P3 = refl;
  P4 = refl;
  P4-sections = refl;
  P4-devices = refl;
  P5 = refl;
  P5-devices = refl;
  P6 = refl;
  P7 = refl;
  P8 = refl;
  P9 = refl;
  P9-canonical = refl;
}
