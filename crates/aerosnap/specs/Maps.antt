-- The plain map: which names hold which payload or which paths, beside all else in the file. It answers an edit by looking up and counting.
-- Assumes nothing.
use Rattle.std.specs.Prelude.{◌≡◌, List, [], ◌∷◌, ◌++◌, Bool, true, false, not, cond, ◌&&◌, ℕ, ◌+◌, ◌*◌, min, length, leb, eqb}
use Rattle.std.proofs.Math.Option.{Option, some, none}
use Rattle.answer.specs.Numbers.{SIZE, MANY, LIMIT, HAVE, ABSENT}
use Rattle.answer.specs.Outcome.{Outcome, taken, Checks, checked}
use Rattle.order.specs.Keyed.{keep, weigh, sort}
use Rattle.entries.specs.Kinds.{payload_most, devices, disks}
use Rattle.aerosnap.specs.File.{file_most, sections_most, devices_most}
use Rattle.aerosnap.specs.Content.{Content, render}
use Rattle.aerosnap.specs.Adding.{Item, device, disk, Name, device_named, disk_named, name_of, own_checks, device_entries, disk_entries}
use Rattle.aerosnap.specs.Edits.{Edit, add, remove, replace, target, news, wants}

-- ---- the map

-- two names are the same
abbrev pub same_name : Name → Name → Bool
same_name (device_named a v f) (device_named b w g) = eqb a b && (eqb v w && eqb f g)
same_name (device_named a v f) (disk_named b) = false
same_name (disk_named a) (device_named b w g) = false
same_name (disk_named a) (disk_named b) = eqb a b

-- A map from names to payloads or paths: a list of pairs, in no order. An item is such a pair: its name, and what that holds.
abbrev pub Map : Type 0
Map = List Item

-- looking up a name
abbrev pub find : Name → Map → Option Item
find n [] = none
find n (x ∷ m) = cond (same_name n (name_of x)) (some x) (find n m)

abbrev pub is_found : Option Item → Bool
is_found none = false
is_found (some x) = true

-- the map holds something under that name
abbrev pub holds : Name → Map → Bool
holds n m = is_found (find n m)

-- no name stands in it twice
abbrev pub NamesApart : Map → Type 0
NamesApart [] = Unit {0}
NamesApart (x ∷ m) = (holds (name_of x) m ≡ false) × NamesApart m

-- the pairs of other names
abbrev pub others : Name → Map → Map
others n m = keep (λ x. not (same_name n (name_of x))) m

-- the map after an edit: what is new, and all else; what is removed or replaced goes
abbrev pub map_after : Edit → Map → Map
map_after e m = news e ++ cond (wants e) (others (target e) m) m

-- what the name of the edit holds then
abbrev pub held_then : Edit → Option Item
held_then (add x) = some x
held_then (remove n) = none
held_then (replace id v f p) = some (device id v f p)

-- ---- what it counts

-- All else in the file: what follows its devices and its disks, and its other sections.
pub record AllElse : Type 0 where
  pub device_tail : List ℕ
  pub disk_tail : List ℕ
  pub rest : List (List ℕ)

-- 1 for a device; its bytes in the file, and those of its payload
abbrev pub one_device : Item → ℕ
one_device (device id v f p) = 1
one_device (disk id x y) = 0

abbrev pub device_size : Item → ℕ
device_size (device id v f p) = 16 + length p
device_size (disk id x y) = 0

abbrev pub payload_length : Item → ℕ
payload_length (device id v f p) = length p
payload_length (disk id x y) = 0

-- the same of a disk
abbrev pub one_disk : Item → ℕ
one_disk (device id v f p) = 0
one_disk (disk id x y) = 1

abbrev pub disk_size : Item → ℕ
disk_size (device id v f p) = 0
disk_size (disk id x y) = 12 + length x + length y

-- the sections of the file: one for its devices, if there are any or something follows them; one for its disks; and the others
abbrev pub map_sections : AllElse → Map → ℕ
map_sections a m = min 1 (weigh one_device m + length a.device_tail) + min 1 (weigh one_disk m + length a.disk_tail) + length a.rest

-- its bytes: 16 of the header, 20 of each of these two sections, and all that stands in them
abbrev pub map_size : AllElse → Map → ℕ
map_size a m =
    16
    + (20 * min 1 (weigh one_device m + length a.device_tail) + (weigh device_size m + length a.device_tail))
    + (20 * min 1 (weigh one_disk m + length a.disk_tail) + (weigh disk_size m + length a.disk_tail))
    + weigh length a.rest

-- ---- its answers

-- its bounds are those of document 01
abbrev pub count_row : Item → Map → Bool × ℕ × ℕ
count_row (device id v f p) m = (leb (weigh one_device m) devices.most, LIMIT, 0)
count_row (disk id x y) m = (leb (weigh one_disk m) disks.most, LIMIT, 0)

abbrev pub devices_row : AllElse → Map → Bool × ℕ × ℕ
devices_row a m = (leb (4 + (weigh device_size m + length a.device_tail)) devices_most, LIMIT, 0)

abbrev pub sections_row : AllElse → Map → Bool × ℕ × ℕ
sections_row a m = (leb (map_sections a m) sections_most, MANY, 0)

abbrev pub size_row : AllElse → Map → Bool × ℕ × ℕ
size_row a m = (leb (map_size a m) file_most, SIZE, 0)

-- what it asks of an edit of m that gives u, beside all else: of an add that the name is new and every bound, of a removal that the name is there, of a replacement that it is there, and the bounds of lengths
abbrev pub map_checks : Edit → AllElse → Map → Map → Checks
map_checks (add x) a m u = own_checks x ++ ((not (holds (name_of x) m), HAVE, 0) ∷ count_row x u ∷ devices_row a u ∷ sections_row a u ∷ size_row a u ∷ [])
map_checks (remove n) a m u = (holds n m, ABSENT, 0) ∷ []
map_checks (replace id v f p) a m u = (leb (length p) payload_most, LIMIT, 0) ∷ (holds (device_named id v f) m, ABSENT, 0) ∷ devices_row a u ∷ size_row a u ∷ []

-- its answer: the map afterwards, or the refusal
unfoldable pub map_edit : AllElse → Map → Edit → Outcome Map
map_edit a m e = checked (map_checks e a m (map_after e m)) (taken (map_after e m))

-- ---- the file of it

-- the content that holds the map and all else
abbrev pub map_content : AllElse → Map → Content
map_content a m = record {
  devices = sort devices.key (device_entries m);
  disks = sort disks.key (disk_entries m);
  device_tail = a.device_tail;
  disk_tail = a.disk_tail;
  rest = a.rest;
}

-- the canonical form of the map's state and all else
abbrev pub map_file : AllElse → Map → List ℕ
map_file a m = render (map_content a m)
