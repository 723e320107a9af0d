-- The examples that document 01 marks P, under a single statement. The bytes are those of the document.
-- Assumes nothing.
use Rattle.std.specs.Prelude.{◌≡◌, List, [], ◌∷◌, ◌++◌, ℕ, length, take, set}
use Rattle.answer.specs.Numbers.{SHORT, ENDIAN, KEY, HAVE, CUT, SHAPE, VALUE, TAG}
use Rattle.answer.specs.Outcome.{taken, refused}
use Rattle.wire.specs.Numbers.{bytes_of}
use Rattle.entries.specs.Kinds.{address}
use Rattle.aerosnap.specs.Calls.{check_call, sections_call, devices_call, disks_call, canonical_call}
use Rattle.cards.specs.declared.Card.{Card}
use Rattle.cards.specs.Calls.{add_device_call}
use Rattle.kinds.specs.declared.Message.TheVariants.{Nothing, PortReadResp, DiskReadResp}
use Rattle.messages.specs.declared.Reading.{Reading}
use Rattle.messages.specs.Reading.{read_message, reading}

-- ---- the bytes

-- `AEROSNAP`, version 1, endianness 1, reserved 0 and 0
abbrev pub empty : List ℕ
empty = 0x41 ∷ 0x45 ∷ 0x52 ∷ 0x4F ∷ 0x53 ∷ 0x4E ∷ 0x41 ∷ 0x50 ∷ 0x01 ∷ 0x00 ∷ 0x01 ∷ 0x00 ∷ 0x00 ∷ 0x00 ∷ 0x00 ∷ 0x00 ∷ []

-- a u32 and a u64 below 256
abbrev pub u32_bytes : ℕ → List ℕ
u32_bytes n = n ∷ 0x00 ∷ 0x00 ∷ 0x00 ∷ []

abbrev pub u64_bytes : ℕ → List ℕ
u64_bytes n = n ∷ 0x00 ∷ 0x00 ∷ 0x00 ∷ 0x00 ∷ 0x00 ∷ 0x00 ∷ 0x00 ∷ []

-- u32 id, u16 version 1, u16 flags 0
abbrev pub head : ℕ → List ℕ
head id = u32_bytes id ++ (0x01 ∷ 0x00 ∷ 0x00 ∷ 0x00 ∷ [])

-- that header, and a DEVICES section with a length and a payload
abbrev pub with_devices : ℕ → List ℕ → List ℕ
with_devices n p = empty ++ (head 4 ++ (u64_bytes n ++ p))

-- the device (id,1,0) with one byte, and with two
abbrev pub one_byte : ℕ → List ℕ
one_byte id = head id ++ (u64_bytes 1 ++ (0x11 ∷ []))

abbrev pub two_bytes : ℕ → List ℕ
two_bytes id = head id ++ (u64_bytes 2 ++ (0xAB ∷ 0xCD ∷ []))

abbrev pub fourteen_three : List ℕ
fourteen_three = with_devices 39 (u32_bytes 2 ++ (one_byte 14 ++ two_bytes 3))

abbrev pub three_fourteen : List ℕ
three_fourteen = with_devices 39 (u32_bytes 2 ++ (two_bytes 3 ++ one_byte 14))

abbrev pub no_devices : List ℕ
no_devices = with_devices 4 (u32_bytes 0)

-- DiskReadResp with a byte at 6
abbrev pub disk_read_resp : ℕ → List ℕ
disk_read_resp ok = 0x04 ∷ 0x11 ∷ 0x09 ∷ 0x00 ∷ 0x00 ∷ 0x00 ∷ ok ∷ 0x00 ∷ 0x00 ∷ 0x00 ∷ 0x00 ∷ 0x02 ∷ 0x00 ∷ 0x00 ∷ 0x00 ∷ []

abbrev refused_reading : ℕ → ℕ → Reading
refused_reading n p = record { number = n; place = p; message = Nothing; start = 0; len = 0 }

-- ---- the statement

pub record Examples : Type 0 where
  -- the 16 bytes are taken with no record
  pub P1 : check_call empty ≡ taken []
  pub P1-sections : sections_call 0 empty ≡ taken []
  pub P1-devices : devices_call 0 empty ≡ taken []
  pub P1-disks : disks_call 0 empty ≡ taken []
  -- the first 15 give SHORT; with byte 10 as 2, ENDIAN at 10
  pub P2 : check_call (take 15 empty) ≡ refused SHORT 0
  pub P3 : check_call (set empty 10 2) ≡ refused ENDIAN 10
  -- 71 bytes, one section of 39 bytes at 32; its devices in key order, (3,1,0) at 69 and (14,1,0) at 52
  pub P4 : length fourteen_three ≡ 71
  pub P4-sections : sections_call 32 fourteen_three ≡ taken (head 4 ++ (u64_bytes 32 ++ (u64_bytes 39 ++ (u32_bytes 0 ++ u32_bytes 0))))
  pub P4-devices : devices_call 64 fourteen_three ≡ taken (head 3 ++ (u64_bytes 69 ++ (u64_bytes 2 ++ (u32_bytes 1 ++ (u32_bytes 0 ++ (head 14 ++ (u64_bytes 52 ++ (u64_bytes 1 ++ (u32_bytes 0 ++ u32_bytes 0)))))))))
  -- canonical, (3,1,0) is first, its payload at 52 and the other's at 70
  pub P5 : canonical_call 71 fourteen_three ≡ taken three_fourteen
  pub P5-devices : devices_call 64 three_fourteen ≡ taken (head 3 ++ (u64_bytes 52 ++ (u64_bytes 2 ++ (u32_bytes 0 ++ (u32_bytes 0 ++ (head 14 ++ (u64_bytes 70 ++ (u64_bytes 1 ++ (u32_bytes 1 ++ u32_bytes 0)))))))))
  -- with both keys (3,1,0), KEY at 53
  pub P6 : check_call (with_devices 39 (u32_bytes 2 ++ (one_byte 3 ++ two_bytes 3))) ≡ refused KEY 53
  -- adding (3,1,0) to P5 gives HAVE, beside every card
  pub P7 : (k : Card) → add_device_call 1000 k three_fourteen 3 1 0 (0xAB ∷ 0xCD ∷ []) ≡ (0, refused HAVE 0)
  -- with section length 40, CUT at 16
  pub P8 : check_call (set fourteen_three 24 40) ≡ refused CUT 16
  -- header and DEVICES with count 0, 36 bytes, has P1 as canonical form
  pub P9 : length no_devices ≡ 36
  pub P9-canonical : canonical_call 16 no_devices ≡ taken empty
  -- PortReadResp, id 7, value 15
  pub P10 : reading (read_message (0x01 ∷ 0x11 ∷ 0x07 ∷ 0x00 ∷ 0x00 ∷ 0x00 ∷ 0x0F ∷ 0x00 ∷ 0x00 ∷ 0x00 ∷ []))
      ≡ record { number = 0; place = 0; message = PortReadResp 7 15; start = 0; len = 0 }
  -- an unknown tag
  pub P11 : reading (read_message (0x02 ∷ 0x00 ∷ [])) ≡ refused_reading TAG 0
  -- id 9, failed, 0 bytes, error 2; with byte 6 as 1, SHAPE at 11; as 2, VALUE at 6
  pub P12 : reading (read_message (disk_read_resp 0)) ≡ record { number = 0; place = 0; message = DiskReadResp 9 0 0 2; start = 0; len = 0 }
  pub P12-shape : reading (read_message (disk_read_resp 1)) ≡ refused_reading SHAPE 11
  pub P12-value : reading (read_message (disk_read_resp 2)) ≡ refused_reading VALUE 6
  -- bus 0, device 31, function 2 is 250; bus 1, device 0, function 0 is stored `00 01`
  pub P13 : address 0 31 2 ≡ 250
  pub P13-stored : bytes_of 2 (address 1 0 0) ≡ 0x00 ∷ 0x01 ∷ []
