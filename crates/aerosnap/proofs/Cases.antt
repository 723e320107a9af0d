-- Further runs of the definitions: the order of the checks, and the places.
-- Assumes nothing.
use mathlib.Core.Path.{◌≡◌, refl}
use mathlib.Core.List.{List, [], ◌∷◌, ◌++◌}
use Prim.Native.Nat.{ℕ}
use lib.ListN.{length, set, replicate}
use Rattle.answer.specs.Numbers.{RESERVED, CUT, MANY, TWICE, SECVER, SHAPE, LIMIT, TEXT, VALUE, ROOM}
use Rattle.answer.specs.Outcome.{Outcome, taken, refused, after}
use Rattle.wire.specs.Numbers.{le_at, le, bytes_of}
use Rattle.utf8.specs.Scan.{lead_of, after_of, scan_from, scan, is_text, break_at}
use Rattle.format.specs.Format.{read, values}
use Rattle.order.specs.Keyed.{insert, has}
use Rattle.order.specs.Entries.{join, split}
use Rattle.lists.specs.Lists.{entry_at, walk, list_at}
use Rattle.aerosnap.specs.Known.{META, CPU, MMU, DEVICES, DISKS, RAM, CPUS, MMUS}
use Rattle.aerosnap.specs.Payloads.{payload}
use Rattle.aerosnap.specs.File.{header, ruled, section_of, sections, file_of}
use Rattle.aerosnap.specs.Content.{framed, canonical}
use Rattle.aerosnap.specs.Tables.{placed, section_rows}
use Rattle.aerosnap.specs.Calls.{sections_call, disks_call}
use Rattle.aerosnap.specs.Adding.{device, disk}
use Rattle.aerosnap.specs.Edits.{add_item, edit_file, edit_to}

-- a section with flags 0
abbrev section : ℕ → ℕ → List ℕ → List ℕ
section id v p = framed id v 0 p

-- a file of sections
abbrev of : List (List ℕ) → List ℕ
of l = header ++ join l

abbrev zeros : ℕ → List ℕ
zeros n = replicate n 0

-- how many sections a file has, or its first fault
abbrev seen : List (List ℕ) → Outcome ℕ
seen l = after (file_of (of l)) (λ m. taken (length m))

-- META without parent, up to its label
abbrev meta : List ℕ
meta = zeros 8 ++ (0 ∷ zeros 8)

-- an entry of CPUS with no blob
abbrev cpu : ℕ → List ℕ → List ℕ
cpu id state = bytes_of 4 id ++ (bytes_of 4 (length state) ++ (state ++ bytes_of 8 0))

pub record Cases : Type 0 where
  pub meta_fine : seen (section META 1 (meta ++ (1 ∷ bytes_of 4 0)) ∷ []) ≡ taken 1
  pub meta_flag : seen (section META 1 (zeros 8 ++ (2 ∷ [])) ∷ []) ≡ refused VALUE 40
  pub meta_cut : seen (section META 1 (zeros 8 ++ (1 ∷ zeros 7)) ∷ []) ≡ refused SHAPE 41
  pub meta_text : seen (section META 1 (meta ++ (1 ∷ (bytes_of 4 1 ++ (255 ∷ [])))) ∷ []) ≡ refused TEXT 54
  pub meta_long : seen (section META 1 (meta ++ (1 ∷ bytes_of 4 4097)) ∷ []) ≡ refused LIMIT 50
  pub meta_tail : seen (section META 1 (meta ++ (0 ∷ 7 ∷ [])) ∷ []) ≡ taken 1
  pub cpu_short : seen (section CPU 1 (zeros 411) ∷ []) ≡ refused SHAPE 32
  pub cpu_mode : seen (section CPU 2 (set (zeros 1183) 144 4) ∷ []) ≡ refused VALUE 176
  pub cpu_fine : seen (section CPU 2 (set (zeros 1191) 1183 4) ∷ section MMU 2 (zeros 264) ∷ []) ≡ taken 2
  pub cpu-extension : seen (section CPU 2 (zeros 1191) ∷ []) ≡ refused VALUE 1215
  -- a longer state has 1187 bytes and as many as its extension's length says
  pub cpu_longer : seen (section CPU 2 (set (zeros 1200) 1183 13) ∷ []) ≡ taken 1
  pub cpu_shorter : seen (section CPU 2 (set (zeros 1200) 1183 12) ∷ []) ≡ refused SHAPE 32
  pub cpus_longer : seen (section CPUS 2 (bytes_of 4 1 ++ cpu 9 (set (zeros 1200) 1183 12)) ∷ []) ≡ refused SHAPE 40
  pub cpus_fine : seen (section CPUS 2 (bytes_of 4 1 ++ cpu 9 (zeros 1183)) ∷ section MMUS 1 (bytes_of 4 1 ++ (bytes_of 4 9 ++ zeros 68)) ∷ []) ≡ taken 2
  pub cpus-length : seen (section CPUS 1 (bytes_of 4 1 ++ cpu 9 (zeros 413)) ∷ []) ≡ refused SHAPE 40
  pub cpus_value : seen (section CPUS 2 (bytes_of 4 1 ++ cpu 9 (set (zeros 1183) 260 8)) ∷ []) ≡ refused VALUE 304
  pub mmu-over : seen (section MMU 1 (zeros 69) ∷ []) ≡ refused SHAPE 32
  pub mmus_cut : seen (section MMUS 1 (bytes_of 4 1 ++ (bytes_of 4 9 ++ zeros 67)) ∷ []) ≡ refused SHAPE 36
  pub twice : seen (section CPU 1 (zeros 412) ∷ section CPUS 1 (bytes_of 4 0) ∷ []) ≡ refused TWICE 444
  pub version : seen (section DEVICES 2 [] ∷ []) ≡ refused SECVER 20
  pub flags : seen (set (section DEVICES 1 []) 6 1 ∷ []) ≡ refused RESERVED 22
  pub unknown : seen (set (section 99 7 (1 ∷ [])) 6 1 ∷ section 99 7 [] ∷ section 0 0 [] ∷ []) ≡ taken 3
  pub count-over : seen (section DISKS 1 (bytes_of 4 257) ∷ []) ≡ refused LIMIT 32
  pub disk_text : seen (section DISKS 1 (bytes_of 4 1 ++ (bytes_of 4 7 ++ (bytes_of 4 0 ++ (bytes_of 4 1 ++ (128 ∷ []))))) ∷ []) ≡ refused TEXT 48
  pub full : seen (replicate 64 (section 9 0 [])) ≡ taken 64
  pub many : seen (replicate 65 (section 9 0 [])) ≡ refused MANY 1040
  pub many_cut : after (file_of (of (replicate 64 (section 9 0 []) ++ (zeros 15 ∷ [])))) (λ m. taken (length m)) ≡ refused CUT 1040
  pub order : canonical 500 (of (section 9 5 (1 ∷ []) ∷ section RAM 1 (2 ∷ []) ∷ section 0 1 [] ∷ section META 1 (meta ++ (0 ∷ [])) ∷ section CPUS 2 (bytes_of 4 0) ∷ []))
      ≡ taken (of (section META 1 (meta ++ (0 ∷ [])) ∷ section RAM 1 (2 ∷ []) ∷ section 9 5 (1 ∷ []) ∷ section 0 1 [] ∷ []))
  pub keys : canonical 500 (of (section DEVICES 1 (bytes_of 4 3 ++ (framed 256 1 0 [] ++ (framed 1 2 0 [] ++ framed 1 1 7 []))) ∷ []))
      ≡ taken (of (section DEVICES 1 (bytes_of 4 3 ++ (framed 1 1 7 [] ++ (framed 1 2 0 [] ++ framed 256 1 0 []))) ∷ []))
  -- a tail stays behind the entries; a list with no entries but a tail is written, its version too
  pub tails : canonical 500 (of (section DEVICES 1 (bytes_of 4 2 ++ (framed 2 1 0 [] ++ (framed 1 1 0 [] ++ (7 ∷ 8 ∷ [])))) ∷ section CPUS 2 (bytes_of 4 0 ++ (9 ∷ [])) ∷ section MMUS 1 (bytes_of 4 0) ∷ []))
      ≡ taken (of (section DEVICES 1 (bytes_of 4 2 ++ (framed 1 1 0 [] ++ (framed 2 1 0 [] ++ (7 ∷ 8 ∷ [])))) ∷ section CPUS 2 (bytes_of 4 0 ++ (9 ∷ [])) ∷ []))
  pub add_tail : add_item 500 (of (section DEVICES 1 (bytes_of 4 0 ++ (7 ∷ 8 ∷ [])) ∷ [])) (device 1 1 0 (5 ∷ [])) ≡ taken (of (section DEVICES 1 (bytes_of 4 1 ++ (framed 1 1 0 (5 ∷ []) ++ (7 ∷ 8 ∷ []))) ∷ []))
  pub room : canonical 15 header ≡ refused ROOM 16
  pub add_disk : add_item 100 header (disk 7 (97 ∷ []) []) ≡ taken (of (section DISKS 1 (bytes_of 4 1 ++ (bytes_of 4 7 ++ (bytes_of 4 1 ++ (97 ∷ bytes_of 4 0)))) ∷ []))
  pub add-text : add_item 100 header (disk 7 (97 ∷ []) (192 ∷ 128 ∷ [])) ≡ refused TEXT 0
  pub add-many : add_item 9999 (of (replicate 64 (section 9 0 []))) (device 1 2 3 []) ≡ refused MANY 0
  pub add-empty : after (add_item 9999 (of (section DEVICES 1 (bytes_of 4 0) ∷ replicate 63 (section 9 0 []))) (device 256 2 3 [])) (λ b. taken (length b)) ≡ taken 1060
  pub add-room : add_item 51 header (device 1 2 3 []) ≡ refused ROOM 52
  pub disk_table : disks_call 32 (of (section DISKS 1 (bytes_of 4 1 ++ (bytes_of 4 7 ++ (bytes_of 4 1 ++ (97 ∷ bytes_of 4 0)))) ∷ []))
      ≡ taken (bytes_of 4 7 ++ (bytes_of 4 1 ++ (bytes_of 8 44 ++ (bytes_of 4 0 ++ (bytes_of 4 0 ++ (bytes_of 4 0 ++ bytes_of 4 0))))))
  pub section-rows : sections_call 64 (of (section 9 5 (1 ∷ []) ∷ section DEVICES 1 (bytes_of 4 0) ∷ []))
      ≡ taken (bytes_of 4 9 ++ (bytes_of 2 5 ++ (bytes_of 2 0 ++ (bytes_of 8 32 ++ (bytes_of 8 1 ++ (bytes_of 4 0 ++ (bytes_of 4 0 ++ (bytes_of 4 4 ++ (bytes_of 2 1 ++ (bytes_of 2 0 ++ (bytes_of 8 49 ++ (bytes_of 8 4 ++ (bytes_of 4 1 ++ bytes_of 4 0)))))))))))))

pub cases : Cases
unfolding le_at le bytes_of insert has lead_of after_of scan_from scan is_text break_at read values split entry_at walk list_at payload ruled section_of sections file_of canonical placed section_rows edit_to edit_file
cases = record {
  meta_fine = refl;
  meta_flag = refl;
  meta_cut = refl;
  meta_text = refl;
  meta_long = refl;
  meta_tail = refl;
  cpu_short = refl;
  cpu_mode = refl;
  cpu_fine = refl;
  cpu-extension = refl;
  cpu_longer = refl;
  cpu_shorter = refl;
  cpus_longer = refl;
  cpus_fine = refl;
  cpus-length = refl;
  cpus_value = refl;
  mmu-over = refl;
  mmus_cut = refl;
  twice = refl;
  version = refl;
  flags = refl;
  unknown = refl;
  count-over = refl;
  disk_text = refl;
  full = refl;
  many = refl;
  many_cut = refl;
  order = refl;
  keys = refl;
  tails = refl;
  add_tail = refl;
  room = refl;
  add_disk = refl;
  add-text = refl;
  add-many = refl;
  add-empty = refl;
  add-room = refl;
  disk_table = refl;
  section-rows = refl;
}
