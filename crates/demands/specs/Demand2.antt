-- Demand 2: files, wrappers and messages are read and written as the rules say. A reading is given exactly for inputs that follow them, and writing a reading out
-- gives the canonical bytes. A call refuses exactly if one of its checks fails, and names the first in its order; that covers adds and the other edits too.
-- Assumes nothing.
use Rattle.std.specs.Prelude.{◌≡◌, true, ◌↔◌, ◌⊎◌, ℕ, ◌+◌, ◌≤◌, ◌<◌, ◌^◌, length, take, drop}
use mathlib.Core.List.{List, [], ◌∷◌, ◌++◌, Permᴰ}
use Rattle.answer.specs.Numbers.{ROOM, VALUE}
use Rattle.answer.specs.Outcome.{Outcome, taken, refused, Pass, room, First, FirstOr, FaultAt}
use Rattle.wire.specs.Numbers.{Bytes, le_at, bytes_of}
use Rattle.format.specs.Format.{Is, read}
use Rattle.order.specs.Keyed.{Every, flat, keep, sort, has, Apart}
use Rattle.order.specs.Entries.{join}
use Rattle.entries.specs.declared.Kind.{Kind}
use Rattle.entries.specs.Code.{describe}
use Rattle.entries.specs.Kinds.{Description, devices, disks, cpus, mmus, controllers, device_key, address, bus_of, device_of, function_of}
use Rattle.lists.specs.Lists.{entry_checks, end_checks, count_checks, list_at}
use Rattle.tables.specs.declared.Table.TheVariants.{Devices, Disks, Cpus, Mmus, Controllers}
use Rattle.tables.specs.Tables.{rows_at}
use Rattle.tables.specs.Named.{NamesFramed, Each, IsTable}
use Rattle.aerosnap.specs.Known.{DEVICES, DISKS, CPUS, MMUS, known}
use Rattle.aerosnap.specs.Payloads.{body_of, payload}
use Rattle.aerosnap.specs.File.{header, header_checks, id_of, version_of, flags_of, payload_of, frame_checks, known_checks}
use Rattle.aerosnap.specs.Rules.{IsFile}
use Rattle.aerosnap.specs.Content.{Content, content_of, content_at, render, tidy, is_other, is_id, entries_in, tail_in, IsCanonical}
use Rattle.aerosnap.specs.Tables.{table}
use Rattle.aerosnap.specs.Edits.{Edit, apply, edit_checks}
use Rattle.aerosnap.specs.Calls.{check_call, sections_call, devices_call, disks_call, cpus_call, mmus_call, canonical_call}
use Rattle.cards.specs.declared.Card.{Card}
use Rattle.cards.specs.Cards.{card_of, card_checks, moved_card, edit_card}
use Rattle.dskc.specs.Wrapper as wrapped
use Rattle.kinds.specs.declared.Message.{Message}
use Rattle.kinds.specs.declared.Cell.{Cell}
use Rattle.kinds.specs.Kinds.{Kind as MessageKind, kinds, blank, paper, cells}
use Rattle.messages.specs.Fields.{field_width, message_at}
use Rattle.messages.specs.Reading as messages
use Rattle.messages.specs.Writing.{write_checks, written, write_message}
use Rattle.numbers.specs.declared.Numbers.{Numbers}
use Rattle.numbers.specs.Numbers.{numbers_of, kind_in, all_within, write_numbers}
use Rattle.demands.specs.Demand1.{Taken}
use Rattle.demands.specs.Beside.{CallBeside}

-- ---- files

-- a call that writes f of what is read by r: taken exactly if that is and the output holds the bytes; refused, it names the fault of the input, or else ROOM and
-- the length needed
pub record Writing {A : Type 0} (r : Outcome A) (f : A → List ℕ) (call : ℕ → Outcome (List ℕ)) : Type 0 where
  pub exactly : (have : ℕ) (b : List ℕ) → (call have ≡ taken b) ↔ ((a : A) × (r ≡ taken a) × (f a ≡ b) × (length b ≤ have))
  pub refuses : (have n p : ℕ) → (call have ≡ refused n p) ↔ ((r ≡ refused n p) ⊎ ((a : A) × (r ≡ taken a) × (have < length (f a)) × (n ≡ ROOM) × (p ≡ length (f a))))

-- b is the canonical form of the file s: it has the content of s, is no longer, and is its own canonical form
pub record Canonical (s b : List ℕ) : Type 0 where
  pub same : content_at b ≡ content_at s
  pub shorter : length b ≤ length s
  pub again : (have : ℕ) → length b ≤ have → canonical_call have b ≡ taken b

pub record Files : Type 0 where
  -- taken with certain sections exactly if it is the header and these, and they follow the rules; and no others are
  pub exactly : (s : List ℕ) (l : List (List ℕ)) → (check_call s ≡ taken l) ↔ ((s ≡ header ++ join l) × IsFile l)
  pub unique : (l m : List (List ℕ)) → IsFile l → IsFile m → header ++ join l ≡ header ++ join m → l ≡ m
  -- a table is the records that are made of the sections (the calls `sections`, `devices`, `disks`, `cpus` and `mmus` differ in `rows` alone)
  pub tables : (rows : List (List ℕ) → List ℕ) (s : List ℕ) → Writing (check_call s) rows (λ have. table rows have s)
  -- the canonical form is the rendering of the content
  pub canonical : (s : List ℕ) → Writing (content_at s) render (λ have. canonical_call have s)
  pub is_canonical : (have : ℕ) (s b : List ℕ) → canonical_call have s ≡ taken b → Canonical s b
  -- two files with the same content have the same canonical bytes, and no others have
  pub same : (have : ℕ) (s t : List ℕ) → content_at s ≡ content_at t → canonical_call have s ≡ canonical_call have t
  pub only : (have : ℕ) (s t b : List ℕ) → canonical_call have s ≡ taken b → canonical_call have t ≡ taken b → content_at s ≡ content_at t
  -- savers that hand over the same devices and the same disks in other orders, the same tails behind them, and the same sections besides, save the same content
  pub any_saver : (l m : List (List ℕ)) → IsFile l → Permᴰ (entries_in DEVICES devices l) (entries_in DEVICES devices m) → Permᴰ (entries_in DISKS disks l) (entries_in DISKS disks m)
      → tail_in DEVICES devices l ≡ tail_in DEVICES devices m → tail_in DISKS disks l ≡ tail_in DISKS disks m → flat tidy (keep is_other l) ≡ flat tidy (keep is_other m) → content_of l ≡ content_of m
  -- a file has a content exactly if it is taken, and else the same fault
  pub content : (s : List ℕ) (l : List (List ℕ)) → check_call s ≡ taken l → content_at s ≡ taken (content_of l)
  pub no_content : (s : List ℕ) (n p : ℕ) → check_call s ≡ refused n p → content_at s ≡ refused n p

-- ---- tables: each record's offset and length name the payload, records ascend by key, and each entry has one record (crates/tables/specs/Named.antt)

-- a section with that id has that version
abbrev pub OfVersion : ℕ → ℕ → List (List ℕ) → Type 0
OfVersion i v l = Every (λ e. is_id i e ≡ true → version_of e ≡ v) l

pub record Tables : Type 0 where
  -- one record for each section, in file order
  pub sections : (have : ℕ) (s b : List ℕ) → Bytes s → sections_call have s ≡ taken b
      → (l : List (List ℕ)) × (check_call s ≡ taken l) × ((rows : List (List ℕ)) × (b ≡ join rows) × Each (NamesFramed s) rows l)
  -- the file's devices, its disks, the wrapper's controllers
  pub devices_are : (have : ℕ) (s b : List ℕ) → Bytes s → devices_call have s ≡ taken b → (l : List (List ℕ)) × (check_call s ≡ taken l) × IsTable Devices s (entries_in DEVICES devices l) b
  pub disks_are : (have : ℕ) (s b : List ℕ) → Bytes s → disks_call have s ≡ taken b → (l : List (List ℕ)) × (check_call s ≡ taken l) × IsTable Disks s (entries_in DISKS disks l) b
  -- its CPUs and its MMUs, by the version of their section; a file that has none has no entry, and an empty table
  pub cpus_are : (have : ℕ) (s b : List ℕ) → Bytes s → cpus_call have s ≡ taken b → (l : List (List ℕ)) × (check_call s ≡ taken l) × ((v : ℕ) × OfVersion CPUS v l × IsTable (Cpus v) s (entries_in CPUS (cpus v) l) b)
  pub mmus_are : (have : ℕ) (s b : List ℕ) → Bytes s → mmus_call have s ≡ taken b → (l : List (List ℕ)) × (check_call s ≡ taken l) × ((v : ℕ) × OfVersion MMUS v l × IsTable (Mmus v) s (entries_in MMUS (mmus v) l) b)
  pub controllers_are : (have : ℕ) (s b : List ℕ) → Bytes s → wrapped.controllers_call have s ≡ taken b → IsTable Controllers s (wrapped.controllers_of s) b

-- ---- keys and addresses

-- a device's key: id, version, flags
abbrev pub id_in : List ℕ → ℕ
id_in e = le_at 4 e 0

abbrev pub version_in : List ℕ → ℕ
version_in e = le_at 2 e 4

abbrev pub flags_in : List ℕ → ℕ
flags_in e = le_at 2 e 6

pub record Keys : Type 0 where
  -- keys are compared as numbers, field by field
  pub order : (e f : List ℕ) → Bytes e → Bytes f
      → (device_key e < device_key f) ↔ ((id_in e < id_in f) ⊎ ((id_in e ≡ id_in f) × ((version_in e < version_in f) ⊎ ((version_in e ≡ version_in f) × (flags_in e < flags_in f)))))
  -- and equal keys are equal fields
  pub same : (e f : List ℕ) → Bytes e → Bytes f → (device_key e ≡ device_key f) ↔ ((id_in e ≡ id_in f) × (version_in e ≡ version_in f) × (flags_in e ≡ flags_in f))

pub record Addresses : Type 0 where
  -- an address is bus × 256 + device × 8 + function
  pub parts : (a : ℕ) → address (bus_of a) (device_of a) (function_of a) ≡ a
  -- stored at the start of an entry, that of a bus below 256, a device below 32 and a function below 8 reads back as the entry's key, and as these three
  pub stored : (bus device function : ℕ) (rest : List ℕ) → bus < 256 → device < 32 → function < 8
      → controllers.key (bytes_of 2 (address bus device function) ++ rest) ≡ address bus device function
  pub apart : (bus device function : ℕ) → device < 32 → function < 8
      → (bus_of (address bus device function) ≡ bus) × (device_of (address bus device function) ≡ device) × (function_of (address bus device function) ≡ function)

-- ---- edits: adds, removals, replacements

pub record Editing : Type 0 where
  -- an edit is taken exactly if the file is, none of the edit's checks fails, the output holds the result and each number of the card stays within its bounds; the bytes are the rendering
  -- of the content after it, and the card has moved as the true one
  pub exactly : (have : ℕ) (k : Card) (s : List ℕ) (e : Edit) (b : List ℕ) (j : Card)
      → (edit_card have k s e ≡ taken (b, j))
      ↔ ((c : Content) × (content_at s ≡ taken c) × Pass (edit_checks e c (apply e c)) × (length b ≤ have) × (render (apply e c) ≡ b) × Pass (card_checks k (card_of c) (card_of (apply e c))) × (moved_card k (card_of c) (card_of (apply e c)) ≡ j))
  -- the file that is written has that content and is canonical, whatever the card is
  pub gives : (have : ℕ) (s : List ℕ) (k : Card) (e : Edit) (b : List ℕ) (j : Card) → CallBeside have s k e b j → (c : Content) × (content_at s ≡ taken c) × (content_at b ≡ taken (apply e c)) × IsCanonical b

-- ---- wrappers

-- controllers in address order
abbrev pub ordered : List (List ℕ) → List (List ℕ)
ordered = sort controllers.key

pub record Wrappers : Type 0 where
  -- taken exactly if it is the rendering of controllers that follow the rules, which are the only ones
  pub exactly : (s : List ℕ) → Bytes s → Taken (wrapped.wrapper_of s) ↔ ((l : List (List ℕ)) × (s ≡ wrapped.wrapper_bytes l) × wrapped.IsWrapper l)
  pub unique : (l m : List (List ℕ)) → wrapped.IsWrapper l → wrapped.IsWrapper m → wrapped.wrapper_bytes l ≡ wrapped.wrapper_bytes m → l ≡ m
  pub back : (l : List (List ℕ)) → wrapped.IsWrapper l → wrapped.controllers_of (wrapped.wrapper_bytes l) ≡ l
  -- the table, and the canonical form: the controllers in address order
  pub table : (s : List ℕ) → Writing (wrapped.wrapper_of s) (rows_at Controllers 16 (drop 16 s)) (λ have. wrapped.controllers_call have s)
  pub canonical : (s : List ℕ) → Writing (wrapped.wrapper_of s) (λ _. wrapped.wrapper_bytes (ordered (wrapped.controllers_of s))) (λ have. wrapped.wrapper_canonical_call have s)
  -- in that order they are as long, follow the rules, and stay as they are
  pub long : (l : List (List ℕ)) → length (wrapped.wrapper_bytes (ordered l)) ≡ length (wrapped.wrapper_bytes l)
  pub valid : (l : List (List ℕ)) → wrapped.IsWrapper l → wrapped.IsWrapper (ordered l)
  pub again : (l : List (List ℕ)) → ordered (ordered l) ≡ ordered l

-- ---- messages

-- each number is within the type of its field
abbrev pub Within : List Cell → Type 0
Within [] = Unit {0}
Within (c ∷ cs) = (c.1 < 256 ^ field_width 0 c.0) × Within cs

-- m is the message k with the data d, written; k and d follow the rules
pub record Says (m : List ℕ) (k : Message) (d : List ℕ) : Type 0 where
  pub typed : Within (cells (paper k))
  pub passes : Pass (write_checks (paper k) d)
  pub bytes : written k d ≡ m

-- the data that a reading names
abbrev pub data_of : messages.MessageAndData → List ℕ → List ℕ
data_of c m = take c.len (drop c.start m)

pub record Messages : Type 0 where
  pub exactly : (m : List ℕ) → Bytes m → Taken (messages.read_message m) ↔ ((k : Message) × (d : List ℕ) × Says m k d)
  pub unique : (m : List ℕ) (k k' : Message) (d d' : List ℕ) → Says m k d → Says m k' d' → (k ≡ k') × (d ≡ d')
  -- what is read is what was written, and its data stands where the reading says
  pub reads : (m : List ℕ) (k : Message) (d : List ℕ) → Says m k d → (c : messages.MessageAndData) × (messages.read_message m ≡ taken c) × (c.message ≡ k) × (data_of c m ≡ d)
  -- writing a reading with its data gives the bytes back
  pub writes : (m : List ℕ) (c : messages.MessageAndData) (have : ℕ) → Bytes m → length m ≤ have → messages.read_message m ≡ taken c → write_message c.message (data_of c m) have ≡ taken m
  -- also where the message is handed over by its tag and its numbers, as at the C boundary
  pub by-numbers : (m : List ℕ) (c : messages.MessageAndData) (have : ℕ) → Bytes m → length m ≤ have → messages.read_message m ≡ taken c → write_numbers (numbers_of c.message) (data_of c m) have ≡ taken m

-- ---- the fault that is named is the first in its order (`First`, `FirstOr`, `FaultAt`: crates/answer/specs/Outcome.antt)

-- of the section that begins b and starts at a place, after those before it: its frame; if it is known, its rules; then its payload's fault
abbrev pub SectionFault : List (List ℕ) → ℕ → List ℕ → ℕ → ℕ → Type 0
SectionFault before at b n p =
    FirstOr (frame_checks before at b) n p (
    (known (id_of b) ≡ true)
    × FirstOr (known_checks before at (id_of b) (version_of b) (flags_of b) (payload_of b)) n p (FaultAt (at + 16) (payload (body_of (id_of b) (version_of b)) (payload_of b)) n p)
    )

-- of the entry that begins b, after those before it: its fixed part, what its kind asks, KEY; then the fault of its fields. The place counts from its start
abbrev pub EntryFault : Description → List (List ℕ) → List ℕ → ℕ → ℕ → Type 0
EntryFault d before b n q = FirstOr (entry_checks d (has d.key (d.key b) before) b) n q (read d.form b ≡ refused n q)

-- of the list s, behind the entries before b: the next entry's fault, or bytes left over behind the last of a kind that has no tail
abbrev pub ListFault : Description → List ℕ → List (List ℕ) → List ℕ → ℕ → ℕ → Type 0
ListFault d s before b n p =
    ((length before < le_at 4 s 0) × ((q : ℕ) × EntryFault d before b n q × (p ≡ 4 + length (join before) + q)))
    ⊎ ((length before ≡ le_at 4 s 0) × First (end_checks d s (4 + length (join before))) n p)

pub record Faults : Type 0 where
  -- a file: its header, then the first section at fault; those before it, l, follow the rules
  pub file : (s : List ℕ) (n p : ℕ) → (check_call s ≡ refused n p)
      ↔ FirstOr (header_checks s) n p ((l : List (List ℕ)) × (b : List ℕ) × (s ≡ header ++ (join l ++ b)) × (1 ≤ length b) × IsFile l × SectionFault l (16 + length (join l)) b n p)
  -- a wrapper: its header, then its list
  pub wrapper : (s : List ℕ) (n p : ℕ) → (wrapped.wrapper_of s ≡ refused n p) ↔ FirstOr (wrapped.wrapper_header_checks s) n p (FaultAt 16 (list_at controllers (drop 16 s)) n p)
  -- a list of any kind: its count, then the first entry at fault; those before it, l, are entries with distinct keys
  pub list : (k : Kind) (s : List ℕ) (n p : ℕ) → (list_at (describe k) s ≡ refused n p)
      ↔ FirstOr (count_checks (describe k) s) n p ((l : List (List ℕ)) × (b : List ℕ) × (drop 4 s ≡ join l ++ b) × Every (Is (describe k).form) l × Apart (describe k).key l × ListFault (describe k) s l b n p)
  -- a message, read; and written, by its kind or by its tag and numbers: an unknown tag, a number too wide for its field, then as by its kind
  pub reading : (m : List ℕ) (n p : ℕ) → (messages.read_message m ≡ refused n p) ↔ First (messages.read_checks (paper (message_at m)) m) n p
  pub writing : (k : Message) (d : List ℕ) (have n p : ℕ) → (write_message k d have ≡ refused n p) ↔ First (write_checks (paper k) d ++ room have (length (written k d))) n p
  pub by-numbers : (v : Numbers) (d : List ℕ) (have n p : ℕ) → (write_numbers v d have ≡ refused n p)
      ↔ ((kind_in kinds v.tag ≡ refused n p)
      ⊎ ((k : MessageKind) × (kind_in kinds v.tag ≡ taken k)
      × First ((all_within (blank k) v, VALUE, 0) ∷ (write_checks (paper (k v.a v.b v.c v.d)) d ++ room have (length (written (k v.a v.b v.c v.d) d)))) n p))
  -- an edit: the file's fault, or else the first check that fails: the edit's, room, and the card's last
  pub edit : (have : ℕ) (k : Card) (s : List ℕ) (e : Edit) (n p : ℕ)
      → (edit_card have k s e ≡ refused n p)
      ↔ ((content_at s ≡ refused n p) ⊎ ((c : Content) × (content_at s ≡ taken c) × First ((edit_checks e c (apply e c) ++ room have (length (render (apply e c)))) ++ card_checks k (card_of c) (card_of (apply e c))) n p))

pub record Demand2 : Type 0 where
  pub files : Files
  pub tables : Tables
  pub keys : Keys
  pub addresses : Addresses
  pub editing : Editing
  pub wrappers : Wrappers
  pub messages_are : Messages
  pub faults : Faults
