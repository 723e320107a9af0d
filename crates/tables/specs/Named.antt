-- What a record says of the entry that it stands for, e, in the input s: the entry's own numbers, and by offset and length where its payload stands.
-- Assumes nothing.
use Rattle.std.specs.Prelude.{◌≡◌, ℕ, zero, suc, ◌+◌, List, [], ◌∷◌, map, length, take, drop}
use mathlib.Core.List.{Permᴰ}
use Rattle.wire.specs.Numbers.{le_at}
use Rattle.order.specs.Keyed.{Every, sort, Asc}
use Rattle.order.specs.Entries.{join}
use Rattle.tables.specs.declared.Table.{Table}
use Rattle.tables.specs.declared.Table.TheVariants.{Devices, Disks, Cpus, Mmus, Controllers}
use Rattle.tables.specs.Tables.{ROW, described}

-- of a section or a device: u32 id, u16 version, u16 flags, u64 payload offset, u64 length
pub record NamesFramed (s row e : List ℕ) : Type 0 where
  pub long : length row ≡ ROW
  pub id : le_at 4 row 0 ≡ le_at 4 e 0
  pub version : le_at 2 row 4 ≡ le_at 2 e 4
  pub flags : le_at 2 row 6 ≡ le_at 2 e 6
  pub size : le_at 8 row 16 ≡ length (drop 16 e)
  pub payload : take (le_at 8 row 16) (drop (le_at 8 row 8) s) ≡ drop 16 e

-- the images of a disk: each the bytes behind its u32 length, the overlay behind the base
abbrev pub base_of : List ℕ → List ℕ
base_of e = take (le_at 4 e 4) (drop 8 e)

abbrev pub overlay_of : List ℕ → List ℕ
overlay_of e = take (le_at 4 e (8 + le_at 4 e 4)) (drop (8 + le_at 4 e 4 + 4) e)

-- of a disk: u32 id, u32 base length, u64 base offset, u32 overlay length, u32 0
pub record NamesDisk (s row e : List ℕ) : Type 0 where
  pub long : length row ≡ ROW
  pub id : le_at 4 row 0 ≡ le_at 4 e 0
  pub base : take (le_at 4 row 4) (drop (le_at 8 row 8) s) ≡ base_of e
  pub overlay : take (le_at 4 row 16) (drop (le_at 8 row 8 + (le_at 4 row 4 + 4)) s) ≡ overlay_of e
  pub nothing : le_at 4 row 20 ≡ 0

-- the state of a CPU behind its u32 length, and the internal blob behind its u64 length
abbrev pub state_of : List ℕ → List ℕ
state_of e = take (le_at 4 e 4) (drop 8 e)

abbrev pub blob_of : List ℕ → List ℕ
blob_of e = drop (8 + le_at 4 e 4 + 8) e

-- of a CPU: u32 APIC id, u32 state length, u64 state offset, u64 length of the internal blob
pub record NamesCpu (s row e : List ℕ) : Type 0 where
  pub long : length row ≡ ROW
  pub id : le_at 4 row 0 ≡ le_at 4 e 0
  pub state : take (le_at 4 row 4) (drop (le_at 8 row 8) s) ≡ state_of e
  pub blob : take (le_at 8 row 16) (drop (le_at 8 row 8 + (le_at 4 row 4 + 8)) s) ≡ blob_of e

-- of an MMU: u32 APIC id, u32 state length, u64 state offset, u64 0
pub record NamesMmu (s row e : List ℕ) : Type 0 where
  pub long : length row ≡ ROW
  pub id : le_at 4 row 0 ≡ le_at 4 e 0
  pub state : take (le_at 4 row 4) (drop (le_at 8 row 8) s) ≡ drop 4 e
  pub nothing : le_at 8 row 16 ≡ 0

-- of a controller: u16 address, u16 0, four tag bytes, u64 payload offset, u64 length
pub record NamesController (s row e : List ℕ) : Type 0 where
  pub long : length row ≡ ROW
  pub address : le_at 2 row 0 ≡ le_at 2 e 0
  pub nothing : le_at 2 row 2 ≡ 0
  pub tag : le_at 4 row 4 ≡ le_at 4 e 4
  pub payload : take (le_at 8 row 16) (drop (le_at 8 row 8) s) ≡ drop 12 e

abbrev pub Names : Table → List ℕ → List ℕ → List ℕ → Type 0
Names Devices = NamesFramed
Names Disks = NamesDisk
Names (Cpus v) = NamesCpu
Names (Mmus v) = NamesMmu
Names Controllers = NamesController

-- one by one: the first of l and of m, the second of each, and so on; l is as long as m
abbrev pub Each : {A B : Type 0} → (A → B → Type 0) → List A → List B → Type 0
Each R [] [] = Unit {0}
Each R [] (y ∷ m) = ⊥
Each R (x ∷ l) [] = ⊥
Each R (x ∷ l) (y ∷ m) = R x y × Each R l m

-- the position that a record says
abbrev pub position_of : List ℕ → ℕ
position_of row = le_at 4 row 24

-- k numbers, one after another from n on
unfoldable pub numbers_from : ℕ → ℕ → List ℕ
numbers_from n zero = []
numbers_from n (suc k) = n ∷ numbers_from (suc n) k

-- records say the order in which entries stand in their list: positions are 0, 1, .. up to their number, each once, and by them the first record names the first entry,
-- the second the second, and so on; a 0 stands behind each
pub record InFileOrder (Names : List ℕ → List ℕ → Type 0) (rows entries : List (List ℕ)) : Type 0 where
  pub positions : map position_of (sort position_of rows) ≡ numbers_from 0 (length entries)
  pub names : Each Names (sort position_of rows) entries
  pub nothing : Every (λ row. le_at 4 row 28 ≡ 0) rows

-- b is the table of some entries of the input s: each entry has one record, which names it, and the records ascend by key; their positions say the order of the entries
pub record IsTable (t : Table) (s : List ℕ) (entries : List (List ℕ)) (b : List ℕ) : Type 0 where
  pub rows : List (List ℕ)
  pub order : List (List ℕ)
  pub bytes : b ≡ join rows
  pub names : Each (Names t s) rows order
  pub once : Permᴰ order entries
  pub ascend : Asc (described t).key 0 order
  pub filed : InFileOrder (Names t s) rows entries
