-- Request 9, who came first: a record of a table ends with the position of its entry in the file's own list, from 0, and a u32 0. A section's position is its number in the
-- file, a controller's its number in its wrapper.
-- Assumes nothing.
use Rattle.std.specs.Prelude.{◌≡◌, ℕ, ◌*◌, ◌<◌, length, get_or}
use mathlib.Core.List.{List, [], map, Permᴰ}
use Rattle.answer.specs.Numbers.{ROOM}
use Rattle.answer.specs.Outcome.{taken, refused}
use Rattle.wire.specs.Numbers.{Bytes, le_at}
use Rattle.order.specs.Keyed.{Every, sort}
use Rattle.order.specs.Entries.{join}
use Rattle.entries.specs.Kinds.{devices, disks, cpus, mmus}
use Rattle.tables.specs.declared.Table.TheVariants.{Devices, Disks, Cpus, Mmus, Controllers}
use Rattle.tables.specs.Named.{NamesFramed, Names, Each, position_of, numbers_from}
use Rattle.aerosnap.specs.Known.{DEVICES, DISKS, CPUS, MMUS}
use Rattle.aerosnap.specs.Content.{entries_in}
use Rattle.aerosnap.specs.Calls.{check_call, sections_call, devices_call, disks_call, cpus_call, mmus_call}
use Rattle.dskc.specs.Wrapper.{wrapper_of, controllers_of, controllers_call}
use Rattle.demands.specs.Demand2.{OfVersion}

-- the records sorted by their positions
abbrev pub by_position : List (List ℕ) → List (List ℕ)
by_position = sort position_of

-- b is a table of entries, given here in the order in which they stand in the file
pub record SaysOrder (Names : List ℕ → List ℕ → Type 0) (entries : List (List ℕ)) (b : List ℕ) : Type 0 where
  pub rows : List (List ℕ)
  pub bytes : b ≡ join rows
  -- sorting the records by position gives the entries in file order
  pub sorted : Each Names (by_position rows) entries
  -- positions are 0 to n - 1, each once
  pub once : Permᴰ (map position_of rows) (numbers_from 0 (length entries))
  -- the entry with the number i has position i
  pub number : (i : ℕ) → i < length entries → (position_of (get_or (by_position rows) i []) ≡ i) × Names (get_or (by_position rows) i []) (get_or entries i [])
  -- the last four bytes of each record are 0, and each has 32
  pub nothing : Every (λ row. le_at 4 row 28 ≡ 0) rows
  pub long : length b ≡ 32 * length entries

pub record Positions : Type 0 where
  pub sections : (have : ℕ) (s b : List ℕ) → Bytes s → sections_call have s ≡ taken b → (l : List (List ℕ)) × (check_call s ≡ taken l) × SaysOrder (NamesFramed s) l b
  pub devices_are : (have : ℕ) (s b : List ℕ) → Bytes s → devices_call have s ≡ taken b → (l : List (List ℕ)) × (check_call s ≡ taken l) × SaysOrder (Names Devices s) (entries_in DEVICES devices l) b
  pub disks_are : (have : ℕ) (s b : List ℕ) → Bytes s → disks_call have s ≡ taken b → (l : List (List ℕ)) × (check_call s ≡ taken l) × SaysOrder (Names Disks s) (entries_in DISKS disks l) b
  pub cpus_are : (have : ℕ) (s b : List ℕ) → Bytes s → cpus_call have s ≡ taken b → (l : List (List ℕ)) × (check_call s ≡ taken l) × ((v : ℕ) × OfVersion CPUS v l × SaysOrder (Names (Cpus v) s) (entries_in CPUS (cpus v) l) b)
  pub mmus_are : (have : ℕ) (s b : List ℕ) → Bytes s → mmus_call have s ≡ taken b → (l : List (List ℕ)) × (check_call s ≡ taken l) × ((v : ℕ) × OfVersion MMUS v l × SaysOrder (Names (Mmus v) s) (entries_in MMUS (mmus v) l) b)
  pub controllers_are : (have : ℕ) (s b : List ℕ) → Bytes s → controllers_call have s ≡ taken b → SaysOrder (Names Controllers s) (controllers_of s) b
  -- ROOM names 32 bytes for each
  pub sections-room : (have p : ℕ) (s : List ℕ) (l : List (List ℕ)) → check_call s ≡ taken l → sections_call have s ≡ refused ROOM p → p ≡ 32 * length l
  pub devices-room : (have p : ℕ) (s : List ℕ) (l : List (List ℕ)) → Bytes s → check_call s ≡ taken l → devices_call have s ≡ refused ROOM p → p ≡ 32 * length (entries_in DEVICES devices l)
  pub disks-room : (have p : ℕ) (s : List ℕ) (l : List (List ℕ)) → Bytes s → check_call s ≡ taken l → disks_call have s ≡ refused ROOM p → p ≡ 32 * length (entries_in DISKS disks l)
  pub cpus-room : (have p : ℕ) (s : List ℕ) (l : List (List ℕ)) → Bytes s → check_call s ≡ taken l → (v : ℕ) → OfVersion CPUS v l → cpus_call have s ≡ refused ROOM p → p ≡ 32 * length (entries_in CPUS (cpus v) l)
  pub mmus-room : (have p : ℕ) (s : List ℕ) (l : List (List ℕ)) → Bytes s → check_call s ≡ taken l → (v : ℕ) → OfVersion MMUS v l → mmus_call have s ≡ refused ROOM p → p ≡ 32 * length (entries_in MMUS (mmus v) l)
  pub controllers-room : (have p : ℕ) (s r : List ℕ) → Bytes s → wrapper_of s ≡ taken r → controllers_call have s ≡ refused ROOM p → p ≡ 32 * length (controllers_of s)
