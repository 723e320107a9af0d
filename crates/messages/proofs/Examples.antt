-- P10, P11 and P12 of document 01, and the writing of P10, under a single statement. A log of one letter beside them.
-- Assumes nothing.
use mathlib.Core.Path.{◌≡◌, refl}
use mathlib.Core.List.{List, [], ◌∷◌}
use Prim.Native.Nat.{ℕ}
use Rattle.answer.specs.Numbers.{SHAPE, TEXT, VALUE, TAG, ROOM}
use Rattle.answer.specs.Outcome.{taken, refused}
use Rattle.wire.specs.Numbers.{le, le_at, bytes_of}
use Rattle.utf8.specs.Scan.{is_text, break_at, scan, scan_from, after_of, lead_of}
use Rattle.kinds.specs.declared.Message.{Message}
use Rattle.kinds.specs.declared.Message.TheVariants.{Nothing, PortReadResp, DiskReadResp, Log}
use Rattle.kinds.specs.Kinds.{paper}
use Rattle.messages.specs.Fields.{size_of, numbers_at, message_at}
use Rattle.messages.specs.declared.Reading.{Reading}
use Rattle.messages.specs.Reading.{cell_checks, body_checks, read_checks, read_message, reading}
use Rattle.messages.specs.Writing.{field_bytes, form_bytes, value_checks, write_checks, written, write_message}

abbrev read : List ℕ → Reading
read m = reading (read_message m)

abbrev right : Message → ℕ → ℕ → Reading
right k s n = record { number = 0; place = 0; message = k; start = s; len = n }

abbrev wrong : ℕ → ℕ → Reading
wrong n p = record { number = n; place = p; message = Nothing; start = 0; len = 0 }

-- DiskReadResp, with a byte at 6
abbrev failed : ℕ → List ℕ
failed ok = 0x04 ∷ 0x11 ∷ 0x09 ∷ 0x00 ∷ 0x00 ∷ 0x00 ∷ ok ∷ 0x00 ∷ 0x00 ∷ 0x00 ∷ 0x00 ∷ 0x02 ∷ 0x00 ∷ 0x00 ∷ 0x00 ∷ []

abbrev value15 : List ℕ
value15 = 0x01 ∷ 0x11 ∷ 0x07 ∷ 0x00 ∷ 0x00 ∷ 0x00 ∷ 0x0F ∷ 0x00 ∷ 0x00 ∷ 0x00 ∷ []

pub record Examples : Type 0 where
  pub p10 : read value15 ≡ right (PortReadResp 7 15) 0 0
  pub p11 : read (0x02 ∷ 0x00 ∷ []) ≡ wrong TAG 0
  pub p12 : read (failed 0) ≡ right (DiskReadResp 9 0 0 2) 0 0
  pub p12_shape : read (failed 1) ≡ wrong SHAPE 11
  pub p12_value : read (failed 2) ≡ wrong VALUE 6
  pub p10_written : write_message (PortReadResp 7 15) [] 10 ≡ taken value15
  pub p10_room : write_message (PortReadResp 7 15) [] 9 ≡ refused ROOM 10
  -- Log, level 2, the letter é, whole and broken
  pub log : read (0x00 ∷ 0x14 ∷ 0x02 ∷ 0x02 ∷ 0x00 ∷ 0x00 ∷ 0x00 ∷ 0xC3 ∷ 0xA9 ∷ []) ≡ right (Log 2) 7 2
  pub log_text : read (0x00 ∷ 0x14 ∷ 0x02 ∷ 0x02 ∷ 0x00 ∷ 0x00 ∷ 0x00 ∷ 0xC3 ∷ 0x29 ∷ []) ≡ wrong TEXT 8
  -- TEXT comes before a byte left over
  pub log_left : read (0x00 ∷ 0x14 ∷ 0x02 ∷ 0x02 ∷ 0x00 ∷ 0x00 ∷ 0x00 ∷ 0xC3 ∷ 0x29 ∷ 0x00 ∷ []) ≡ wrong TEXT 8
  -- beside `ok` 1 the error number reads as 0, and is not there
  pub passed : read (0x04 ∷ 0x11 ∷ 0x09 ∷ 0x00 ∷ 0x00 ∷ 0x00 ∷ 0x01 ∷ 0x05 ∷ 0x00 ∷ 0x00 ∷ 0x00 ∷ []) ≡ right (DiskReadResp 9 1 5 0) 0 0
  -- nothing is not written; an error code beside `ok` 1 neither
  pub nothing_written : write_message Nothing [] 10 ≡ refused VALUE 0
  pub error_beside : write_message (DiskReadResp 9 1 0 2) [] 99 ≡ refused VALUE 0

pub examples : Examples
unfolding read_message read_checks cell_checks body_checks message_at numbers_at size_of paper le_at le is_text break_at scan scan_from after_of lead_of write_message write_checks written form_bytes field_bytes value_checks bytes_of
examples = record {
  p10 = refl;
  p11 = refl;
  p12 = refl;
  p12_shape = refl;
  p12_value = refl;
  p10_written = refl;
  p10_room = refl;
  log = refl;
  log_text = refl;
  log_left = refl;
  passed = refl;
  nothing_written = refl;
  error_beside = refl;
}
