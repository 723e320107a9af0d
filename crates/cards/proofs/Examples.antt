-- Small edits beside cards, tables of new devices, and a small shift, by computation.
-- Assumes nothing.
use mathlib.Core.Path.{◌≡◌, refl}
use mathlib.Core.List.{List, [], ◌∷◌, ◌++◌}
use Prim.Native.Nat.{ℕ}
use Rattle.answer.specs.Numbers.{HAVE, ROOM, ABSENT, PAYLOAD, CARD}
use Rattle.answer.specs.Outcome.{taken, refused}
use Rattle.wire.specs.Numbers.{le_at, le, bytes_of}
use Rattle.utf8.specs.Scan.{is_text, scan, scan_from}
use Rattle.format.specs.Format.{read, values}
use Rattle.order.specs.Keyed.{insert, has}
use Rattle.order.specs.Entries.{split}
use Rattle.lists.specs.Lists.{entry_at, walk, list_at}
use Rattle.aerosnap.specs.Payloads.{payload}
use Rattle.aerosnap.specs.File.{header, ruled, section_of, sections, file_of}
use Rattle.aerosnap.specs.Content.{framed, canonical}
use Rattle.aerosnap.specs.Adding.{device, disk, device_named, disk_named}
use Rattle.aerosnap.specs.Edits.{add, remove, replace, edit_to, edit_file}
use Rattle.aerosnap.specs.Many.{new_devices_from, new_devices, add_new, add_each, add_all, many, pass}
use Rattle.aerosnap.specs.Maps.{Map, AllElse, map_edit, map_file}
use Rattle.aerosnap.proofs.Examples.{p1, p4, p5, p9}
use Rattle.cards.specs.declared.Card.{Card}
use Rattle.cards.specs.Cards.{open_file, edit_card_to, edit_card}
use Rattle.cards.specs.Whole.{add_all_card, many_card}
use Rattle.cards.specs.Shifts.{map_card}

abbrev card : ℕ → ℕ → ℕ → ℕ → Card
card l s d p = record { length = l; sections = s; devices = d; payloads = p }

-- P5 with the device (14,1,0) alone
abbrev alone : List ℕ
alone = header ++ framed 4 1 0 (bytes_of 4 1 ++ framed 14 1 0 (0x11 ∷ []))

-- the same with two bytes behind its devices
abbrev tailed : List ℕ
tailed = header ++ framed 4 1 0 (bytes_of 4 1 ++ (framed 14 1 0 (0x11 ∷ []) ++ (8 ∷ 9 ∷ [])))

-- a record of a table
abbrev record24 : ℕ → ℕ → ℕ → List ℕ
record24 id place size = bytes_of 4 id ++ (bytes_of 2 1 ++ (bytes_of 2 0 ++ (bytes_of 8 place ++ bytes_of 8 size)))

abbrev store : List ℕ
store = 0x11 ∷ 0xAB ∷ 0xCD ∷ []

-- the two devices of P5
abbrev first : List ℕ
first = record24 14 0 1

abbrev second : List ℕ
second = record24 3 1 2

-- a payload that passes the end of the second buffer, and an empty one at its end
abbrev outside : List ℕ
outside = record24 5 2 2

abbrev empty : List ℕ
empty = record24 5 3 0

-- the map of P5
abbrev two : Map
two = device 14 1 0 (0x11 ∷ []) ∷ device 3 1 0 (0xAB ∷ 0xCD ∷ []) ∷ []

abbrev nothing : AllElse
nothing = record { device_tail = []; disk_tail = []; rest = [] }

pub record Examples : Type 0 where
  -- the true card of P4, which is that of its canonical form; of an empty list there is no section
  pub open_devices : open_file p4 ≡ taken (card 71 1 2 3)
  pub open_empty : open_file p9 ≡ taken (card 16 0 0 0)
  pub open_tail : open_file tailed ≡ taken (card 55 1 1 1)
  -- beside it a removal leaves the card of what is left
  pub removed : edit_card 100 (card 71 1 2 3) p4 (remove (device_named 3 1 0)) ≡ taken (alone, card 53 1 1 1)
  pub last : edit_card 100 (card 53 1 1 1) alone (remove (device_named 14 1 0)) ≡ taken (p1, card 16 0 0 0)
  pub refused_first : edit_card 100 (card 0 0 0 0) p4 (remove (disk_named 3)) ≡ refused ABSENT 0
  -- untrue cards: a length that would fall below 16 and one that just does not, devices that would fall below 0, a card far above every bound
  pub low : edit_card 100 (card 33 1 2 3) p4 (remove (device_named 3 1 0)) ≡ refused CARD 0
  pub not_low : edit_card 100 (card 34 0 1 2) p4 (remove (device_named 3 1 0)) ≡ taken (alone, card 16 0 0 0)
  pub none : edit_card 100 (card 71 1 0 3) p4 (remove (device_named 3 1 0)) ≡ refused CARD 0
  pub high : edit_card 100 (card 18446744073709551615 1 2 3) p4 (replace 3 1 0 (7 ∷ [])) ≡ refused CARD 0
  -- two devices at once: the bytes of P5, in either order, and with a part record behind them
  pub many_taken : many 100 p1 (first ++ second) store ≡ (0, taken p5)
  pub many_order : many 100 p1 (second ++ first) store ≡ (0, taken p5)
  pub many_part : many 100 p1 (second ++ (first ++ (1 ∷ 2 ∷ []))) store ≡ (0, taken p5)
  -- the intermediate files have 53 and 71 bytes
  pub room-first : many 52 p1 (first ++ second) store ≡ (0, refused ROOM 53)
  pub room_second : many 60 p1 (first ++ second) store ≡ (1, refused ROOM 71)
  pub many_twice : many 100 p1 (first ++ first) store ≡ (1, refused HAVE 0)
  pub many_outside : many 100 p1 (first ++ (outside ++ first)) store ≡ (1, refused PAYLOAD 0)
  pub many_inside : many 100 p1 empty store ≡ (0, taken (header ++ framed 4 1 0 (bytes_of 4 1 ++ framed 5 1 0 [])))
  pub many-none : many 100 p9 [] store ≡ (0, taken p1)
  pub many_tail : many 100 tailed second store ≡ (0, taken (header ++ framed 4 1 0 (bytes_of 4 2 ++ (framed 3 1 0 (0xAB ∷ 0xCD ∷ []) ++ (framed 14 1 0 (0x11 ∷ []) ++ (8 ∷ 9 ∷ []))))))
  -- the same by one pass, from the numbers of P1 with its section made
  pub pass-room : pass 60 store [] [] (record { sections = 1; size = 36; count = 0; bytes = 4 }) 0 (new_devices (first ++ second)) ≡ (1, refused ROOM 71)
  pub pass_taken : pass 100 store [] [] (record { sections = 1; size = 36; count = 0; bytes = 4 }) 0 (new_devices (first ++ second)) ≡ (0, taken (record { sections = 1; size = 71; count = 2; bytes = 39 }))
  -- its card is that of the whole, with index 0
  pub whole : many_card 100 (card 16 0 0 0) p1 (first ++ second) store ≡ (0, taken (p5, card 71 1 2 3))
  pub whole_high : many_card 100 (card 16 64 0 0) p1 (first ++ second) store ≡ (0, refused CARD 0)
  pub whole-none : many_card 100 (card 15 0 0 0) p1 [] store ≡ (0, refused CARD 0)
  -- the map of P5: its file and its card, a removal, and the same removal again
  pub map-file : map_file nothing two ≡ p5
  pub map-card : map_card nothing two ≡ card 71 1 2 3
  pub map_disk : map_card nothing (disk 0 [] [] ∷ two) ≡ card 103 2 2 3
  pub map_tail : map_card (record { device_tail = 8 ∷ 9 ∷ []; disk_tail = []; rest = [] }) [] ≡ card 38 1 0 0
  pub map_removed : map_edit nothing two (remove (device_named 3 1 0)) ≡ taken (device 14 1 0 (0x11 ∷ []) ∷ [])
  pub map-absent : map_edit nothing (device 14 1 0 (0x11 ∷ []) ∷ []) (remove (device_named 3 1 0)) ≡ refused ABSENT 0
  pub map_have : map_edit nothing two (add (device 3 1 0 [])) ≡ refused HAVE 0

examples : Examples
unfolding file_of sections section_of ruled payload list_at walk entry_at read values split has insert le_at le bytes_of canonical edit_file edit_to open_file edit_card edit_card_to new_devices_from add_new add_each add_all add_all_card pass map_edit is_text scan scan_from
examples = record {
  open_devices = refl;
  open_empty = refl;
  open_tail = refl;
  removed = refl;
  last = refl;
  refused_first = refl;
  low = refl;
  not_low = refl;
  none = refl;
  high = refl;
  many_taken = refl;
  many_order = refl;
  many_part = refl;
  room-first = refl;
  room_second = refl;
  many_twice = refl;
  many_outside = refl;
  many_inside = refl;
  many-none = refl;
  many_tail = refl;
  pass-room = refl;
  pass_taken = refl;
  whole = refl;
  whole_high = refl;
  whole-none = refl;
  map-file = refl;
  map-card = refl;
  map_disk = refl;
  map_tail = refl;
  map_removed = refl;
  map-absent = refl;
  map_have = refl;
}
