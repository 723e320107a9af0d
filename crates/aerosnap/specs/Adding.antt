-- Adding a device or a disk to a content: the entry, where it goes, and what is asked of it.
-- Assumes nothing.
use Rattle.std.specs.Prelude.{List, [], ◌∷◌, ◌++◌, Bool, not, ◌&&◌, ℕ, ◌<◌, length, leb}
use Rattle.answer.specs.Numbers.{SIZE, MANY, LIMIT, TEXT, HAVE}
use Rattle.answer.specs.Outcome.{Checks}
use Rattle.wire.specs.Numbers.{bytes_of}
pub use Rattle.wire.specs.Parts.{with_length}
use Rattle.utf8.specs.Scan.{is_text}
use Rattle.order.specs.Keyed.{sort, has}
use Rattle.entries.specs.Kinds.{Description, payload_most, image_most, devices, disks}
use Rattle.lists.specs.Lists.{list_bytes}
use Rattle.aerosnap.specs.declared.Side.{Side}
use Rattle.aerosnap.specs.declared.Side.TheVariants.{OfDevices, OfDisks}
use Rattle.aerosnap.specs.File.{file_most, sections_most, devices_most}
use Rattle.aerosnap.specs.Content.{framed, Content, kind_at, entries_at, secs, render}

-- What is added: a device by its id, version, flags and payload, or a disk by its id, base image and overlay image.
pub data Item : Type 0 where
  device : ℕ → ℕ → ℕ → List ℕ → Item
  disk : ℕ → List ℕ → List ℕ → Item

-- What an entry is called: a device by its id, version and flags, a disk by its id.
pub data Name : Type 0 where
  device_named : ℕ → ℕ → ℕ → Name
  disk_named : ℕ → Name

abbrev pub name_of : Item → Name
name_of (device id v f p) = device_named id v f
name_of (disk id x y) = disk_named id

-- its numbers are a u32 and u16s, as the parameters of a call are
abbrev pub WideName : Name → Type 0
WideName (device_named id v f) = (id < 4294967296) × (v < 65536) × (f < 65536)
WideName (disk_named id) = id < 4294967296

abbrev pub Wide : Item → Type 0
Wide x = WideName (name_of x)

-- the list that an entry of that name stands in
abbrev pub side_of : Name → Side
side_of (device_named id v f) = OfDevices
side_of (disk_named id) = OfDisks

-- the entry of an item
abbrev pub entry_of : Item → List ℕ
entry_of (device id v f p) = framed id v f p
entry_of (disk id x y) = bytes_of 4 id ++ (with_length x ++ with_length y)

-- the kind of that entry, the id of the list that it goes into, and the entries of that list in a content
abbrev pub kind_of : Item → Description
kind_of x = kind_at (side_of (name_of x))

abbrev pub list_in : Item → Content → List (List ℕ)
list_in x c = entries_at (side_of (name_of x)) c

-- what is asked of the item alone: its lengths, then its texts
abbrev pub own_checks : Item → Checks
own_checks (device id v f p) = (leb (length p) payload_most, LIMIT, 0) ∷ []
own_checks (disk id x y) = (leb (length x) image_most && leb (length y) image_most, LIMIT, 0) ∷ (is_text x && is_text y, TEXT, 0) ∷ []

-- its key is there
abbrev pub there : Item → Content → Bool
there x c = has (kind_of x).key ((kind_of x).key (entry_of x)) (list_in x c)

-- what is asked of adding it to c, where that gives u: key, count and DEVICES bound, sections of the result, its size
abbrev pub add_checks : Item → Content → Content → Checks
add_checks x c u =
    (not (there x c), HAVE, 0)
    ∷ (leb (length (list_in x u)) (kind_of x).most, LIMIT, 0)
    ∷ (leb (length (list_bytes u.devices ++ u.device_tail)) devices_most, LIMIT, 0)
    ∷ (leb (length (secs u)) sections_most, MANY, 0)
    ∷ (leb (length (render u)) file_most, SIZE, 0)
    ∷ []

-- the entries of the devices among some items, and those of the disks
abbrev pub device_entries : List Item → List (List ℕ)
device_entries [] = []
device_entries (device id v f p ∷ l) = entry_of (device id v f p) ∷ device_entries l
device_entries (disk id x y ∷ l) = device_entries l

abbrev pub disk_entries : List Item → List (List ℕ)
disk_entries [] = []
disk_entries (device id v f p ∷ l) = disk_entries l
disk_entries (disk id x y ∷ l) = entry_of (disk id x y) ∷ disk_entries l

-- the old content and some items
abbrev pub grown : Content → List Item → Content
grown c l = record {
  devices = sort devices.key (device_entries l ++ c.devices);
  disks = sort disks.key (disk_entries l ++ c.disks);
  device_tail = c.device_tail;
  disk_tail = c.disk_tail;
  rest = c.rest;
}
