-- The content of a file, and the file that is written of it: the canonical form.
-- Assumes nothing.
use Rattle.std.specs.Prelude.{◌≡◌, List, [], ◌∷◌, ◌++◌, Bool, true, false, not, ◌&&◌, cond, ℕ, length, drop, eqb}
use Rattle.answer.specs.Outcome.{Outcome, taken, after, fitting}
use Rattle.wire.specs.Numbers.{bytes_of}
use Rattle.order.specs.Keyed.{flat, keep, sort}
use Rattle.order.specs.Entries.{join}
use Rattle.entries.specs.Kinds.{Description, devices, disks}
use Rattle.lists.specs.Lists.{entries, tail_of, list_bytes}
use Rattle.aerosnap.specs.declared.Side.{Side}
use Rattle.aerosnap.specs.declared.Side.TheVariants.{OfDevices, OfDisks}
use Rattle.aerosnap.specs.Known.{DEVICES, DISKS, known}
use Rattle.aerosnap.specs.Payloads.{Body, meta, cpu, mmu, list, opaque, body_of}
use Rattle.aerosnap.specs.File.{header, id_of, version_of, file_of}

-- a section, or a device's entry: u32 id, u16 version, u16 flags, u64 length, payload
abbrev pub framed : ℕ → ℕ → ℕ → List ℕ → List ℕ
framed id v f p = bytes_of 4 id ++ (bytes_of 2 v ++ (bytes_of 2 f ++ (bytes_of 8 (length p) ++ p)))

-- a list with no entries and no tail counts as absent
abbrev pub is_absent : List (List ℕ) → List ℕ → Bool
is_absent [] [] = true
is_absent [] (b ∷ t) = false
is_absent (e ∷ l) t = false

-- the section of a list, its entries and its tail; one that counts as absent, its version too, isn't written
abbrev pub listed : ℕ → ℕ → List (List ℕ) → List ℕ → List (List ℕ)
listed id v l t = cond (is_absent l t) [] (framed id v 0 (list_bytes l ++ t) ∷ [])

-- a section as it is written: lists in ascending key order with their tails, everything else copied
abbrev pub tidied : Body → List ℕ → List (List ℕ)
tidied meta e = e ∷ []
tidied (cpu v) e = e ∷ []
tidied (mmu v) e = e ∷ []
tidied (list d) e = listed (id_of e) (version_of e) (sort d.key (entries d (drop 16 e))) (tail_of d (drop 16 e))
tidied opaque e = e ∷ []

abbrev pub tidy : List ℕ → List (List ℕ)
tidy e = tidied (body_of (id_of e) (version_of e)) e

-- known sections come in ascending id, then the others in the order found
abbrev pub rank : List ℕ → ℕ
rank e = cond (known (id_of e)) (id_of e) 9

abbrev pub is_id : ℕ → List ℕ → Bool
is_id i e = eqb (id_of e) i

-- a section that holds neither devices nor disks
abbrev pub is_other : List ℕ → Bool
is_other e = not (is_id DEVICES e) && not (is_id DISKS e)

-- the entries of the list with an id
abbrev pub entries_in : ℕ → Description → List (List ℕ) → List (List ℕ)
entries_in i d l = flat (λ e. entries d (drop 16 e)) (keep (is_id i) l)

-- and what follows them
abbrev pub tail_in : ℕ → Description → List (List ℕ) → List ℕ
tail_in i d l = flat (λ e. tail_of d (drop 16 e)) (keep (is_id i) l)

-- The content: the devices and the disks in ascending key order, what follows each of the two lists, and the other sections as they are written.
pub record Content : Type 0 where
  pub devices : List (List ℕ)
  pub disks : List (List ℕ)
  pub device_tail : List ℕ
  pub disk_tail : List ℕ
  pub rest : List (List ℕ)

-- of the two lists that edits change: what its entries are
abbrev pub kind_at : Side → Description
kind_at OfDevices = devices
kind_at OfDisks = disks

-- the id of its section
abbrev pub id_at : Side → ℕ
id_at OfDevices = DEVICES
id_at OfDisks = DISKS

-- its entries in a content
abbrev pub entries_at : Side → Content → List (List ℕ)
entries_at OfDevices c = c.devices
entries_at OfDisks c = c.disks

-- and what follows them
abbrev pub tail_at : Side → Content → List ℕ
tail_at OfDevices c = c.device_tail
tail_at OfDisks c = c.disk_tail

-- the content with other entries there, what follows them stays: the one place where a content is made of another
abbrev pub with_list : Side → List (List ℕ) → Content → Content
with_list OfDevices l c = record { devices = l; disks = c.disks; device_tail = c.device_tail; disk_tail = c.disk_tail; rest = c.rest }
with_list OfDisks l c = record { devices = c.devices; disks = l; device_tail = c.device_tail; disk_tail = c.disk_tail; rest = c.rest }

-- the content of a file's sections
abbrev pub content_of : List (List ℕ) → Content
content_of l = record {
  devices = sort devices.key (entries_in DEVICES devices l);
  disks = sort disks.key (entries_in DISKS disks l);
  device_tail = tail_in DEVICES devices l;
  disk_tail = tail_in DISKS disks l;
  rest = sort rank (flat tidy (keep is_other l));
}

-- the sections that are written of it
abbrev pub written_sections : Content → List (List ℕ)
written_sections c = listed DEVICES 1 c.devices c.device_tail ++ (listed DISKS 1 c.disks c.disk_tail ++ c.rest)

-- the same in their order
abbrev pub secs : Content → List (List ℕ)
secs c = sort rank (written_sections c)

-- the bytes of the canonical form
abbrev pub render : Content → List ℕ
render c = header ++ join (secs c)

-- the content of a file, or its first fault
abbrev pub content_at : List ℕ → Outcome Content
content_at s = after (file_of s) (λ l. taken (content_of l))

-- the canonical form of a file, for an output of so many bytes
unfoldable pub canonical : ℕ → List ℕ → Outcome (List ℕ)
canonical have s = after (content_at s) (λ c. fitting have (render c))

-- a canonical file: one that is its own canonical form
abbrev pub IsCanonical : List ℕ → Type 0
IsCanonical s = canonical (length s) s ≡ taken s
