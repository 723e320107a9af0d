-- Readiness by computation: a file with all that is needed, the same with one thing changed, and the empty file.
-- Assumes nothing.
use mathlib.Core.Path.{◌≡◌, refl}
use mathlib.Core.List.{List, [], ◌∷◌, ◌++◌}
use Prim.Native.Nat.{ℕ}
use Rattle.answer.specs.Numbers.{SHORT, ROOM}
use Rattle.answer.specs.Outcome.{taken, refused}
use Rattle.wire.specs.Numbers.{le, le_at, bytes_of}
use Rattle.utf8.specs.Scan.{is_text, break_at, scan, scan_from}
use Rattle.format.specs.Format.{read}
use Rattle.order.specs.Keyed.{insert, has}
use Rattle.order.specs.Entries.{split}
use Rattle.lists.specs.Lists.{entry_at, walk, list_at, list_bytes}
use Rattle.aerosnap.specs.File.{header, ruled, section_of, sections, file_of}
use Rattle.aerosnap.specs.Payloads.{payload}
use Rattle.aerosnap.specs.Content.{framed}
use Rattle.dskc.specs.Wrapper as wrapper
use Rattle.ready.specs.Missing.{pairs_bytes, ready_call, as_readiness}

-- devices by their ids, version 1, flags 0, no payload; a wrapper with no controller; disks with no backend
abbrev device : ℕ → List ℕ
device id = framed id 1 0 []

abbrev storage : ℕ → List ℕ → List ℕ
storage version payload = framed 6 version 0 payload

abbrev no_controllers : List ℕ
no_controllers = wrapper.wrapper_bytes []

abbrev disk : ℕ → List ℕ
disk id = bytes_of 4 id ++ (bytes_of 4 0 ++ bytes_of 4 0)

-- a file of such devices and disks; the disks stand first, and nothing is in the order of its keys
abbrev file : List (List ℕ) → List (List ℕ) → List ℕ
file devices disks = header ++ (framed 5 1 0 (list_bytes disks) ++ framed 4 1 0 (list_bytes devices))

abbrev panel : List ℕ
panel = file (device 17 ∷ device 3 ∷ device 4 ∷ storage 1 no_controllers ∷ device 13 ∷ device 16 ∷ device 21 ∷ []) (disk 1 ∷ disk 0 ∷ [])

pub record Examples : Type 0 where
  -- all is there: a yes, and an empty list asks no room
  pub yes_is : as_readiness (ready_call 0 panel) ≡ record { number = 0; ready = 1; place = 0 }
  -- the older id of the interrupt controller will do
  pub older : ready_call 0 (file (device 2 ∷ device 3 ∷ device 4 ∷ storage 1 no_controllers ∷ device 13 ∷ device 16 ∷ device 17 ∷ []) (disk 0 ∷ disk 1 ∷ [])) ≡ taken []
  -- no HPET, no interrupt controller, no disk 0
  pub lacks : ready_call 24 (file (device 3 ∷ device 4 ∷ storage 1 no_controllers ∷ device 13 ∷ device 16 ∷ []) (disk 1 ∷ [])) ≡ taken (pairs_bytes ((1, 17) ∷ (1, 21) ∷ (2, 0) ∷ []))
  -- two entries with id 6 under other versions, though each is a wrapper; one that is none
  pub two : ready_call 8 (file (device 17 ∷ device 3 ∷ device 4 ∷ storage 1 no_controllers ∷ storage 2 no_controllers ∷ device 13 ∷ device 16 ∷ device 21 ∷ []) (disk 0 ∷ disk 1 ∷ [])) ≡ taken (pairs_bytes ((1, 6) ∷ []))
  pub broken : ready_call 8 (file (device 17 ∷ device 3 ∷ device 4 ∷ storage 1 [] ∷ device 13 ∷ device 16 ∷ device 21 ∷ []) (disk 0 ∷ disk 1 ∷ [])) ≡ taken (pairs_bytes ((1, 6) ∷ []))
  -- the empty file lacks all nine; ROOM names their bytes; a file's own refusal comes first
  pub nothing : ready_call 72 header ≡ taken (pairs_bytes ((1, 3) ∷ (1, 4) ∷ (1, 6) ∷ (1, 13) ∷ (1, 16) ∷ (1, 17) ∷ (1, 21) ∷ (2, 0) ∷ (2, 1) ∷ []))
  pub no_room : ready_call 71 header ≡ refused ROOM 72
  pub short : ready_call 0 [] ≡ refused SHORT 0

pub examples : Examples
unfolding ready_call file_of sections section_of ruled payload list_at walk entry_at insert has read split le_at le bytes_of is_text break_at scan scan_from wrapper.wrapper_of
examples = record { yes_is = refl; older = refl; lacks = refl; two = refl; broken = refl; nothing = refl; no_room = refl; short = refl }
