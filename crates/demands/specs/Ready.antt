-- Request 13, ready to restore? One yes or no before a panel is switched; for a no, the list of what is missing.
-- Assumes nothing.
use Rattle.std.specs.Prelude.{◌≡◌, true, ◌≢◌, ◌↔◌, ◌⊎◌, ℕ, ◌+◌, ◌*◌, ◌<◌, eqb, length, drop}
use mathlib.Core.List.{List, [], ◌∷◌, ◌++◌, Permᴰ}
use Rattle.answer.specs.Numbers.{ROOM, is_number}
use Rattle.answer.specs.Outcome.{taken, refused}
use Rattle.wire.specs.Numbers.{bytes_of}
use Rattle.order.specs.Keyed.{flat, keep, Asc}
use Rattle.order.specs.Entries.{join}
use Rattle.entries.specs.Kinds.{devices, disks}
use Rattle.aerosnap.specs.Known.{DEVICES, DISKS}
use Rattle.aerosnap.specs.File.{header}
use Rattle.aerosnap.specs.Rules.{IsFile}
use Rattle.aerosnap.specs.Content.{Content, content_at, entries_in}
use Rattle.dskc.specs.Wrapper.{wrapper_of}
use Rattle.ready.specs.declared.Readiness.{Readiness}
use Rattle.ready.specs.Missing.{ready_call, Tells}
use Rattle.demands.specs.Demand1.{Taken}
use Rattle.demands.specs.Demand2.{id_in}

-- an entry has the id; its version and flags, or its paths, are free
abbrev pub HasEntry : ℕ → List (List ℕ) → Type 0
HasEntry id [] = ⊥
HasEntry id (e ∷ l) = (id_in e ≡ id) ⊎ HasEntry id l

-- exactly one device has the id 6, and its payload is an accepted wrapper
abbrev pub OneWrapper : List (List ℕ) → Type 0
OneWrapper l = (e : List ℕ) × (keep (λ x. eqb (id_in x) 6) l ≡ e ∷ []) × Taken (wrapper_of (drop 16 e))

-- a content that has all that is needed
pub record Restorable (c : Content) : Type 0 where
  pub controller : HasEntry 2 c.devices ⊎ HasEntry 21 c.devices
  pub pit : HasEntry 3 c.devices
  pub rtc : HasEntry 4 c.devices
  pub i8042 : HasEntry 13 c.devices
  pub acpi_pm : HasEntry 16 c.devices
  pub hpet : HasEntry 17 c.devices
  pub wrapper : OneWrapper c.devices
  pub disk-0 : HasEntry 0 c.disks
  pub disk-1 : HasEntry 1 c.disks

-- what a content lacks, by its pair: 1 and the id of a device, 21 for the controllers; 2 and the id of a disk
pub data Lacks (c : Content) : ℕ → ℕ → Type 0 where
  pit : (HasEntry 3 c.devices → ⊥) → Lacks c 1 3
  rtc : (HasEntry 4 c.devices → ⊥) → Lacks c 1 4
  wrapper : (OneWrapper c.devices → ⊥) → Lacks c 1 6
  i8042 : (HasEntry 13 c.devices → ⊥) → Lacks c 1 13
  acpi_pm : (HasEntry 16 c.devices → ⊥) → Lacks c 1 16
  hpet : (HasEntry 17 c.devices → ⊥) → Lacks c 1 17
  controller : (HasEntry 2 c.devices → ⊥) → (HasEntry 21 c.devices → ⊥) → Lacks c 1 21
  disk-0 : (HasEntry 0 c.disks → ⊥) → Lacks c 2 0
  disk-1 : (HasEntry 1 c.disks → ⊥) → Lacks c 2 1

-- a pair stands in a list of pairs
abbrev pub PairIn : ℕ → ℕ → List (ℕ × ℕ) → Type 0
PairIn part id [] = ⊥
PairIn part id (p ∷ l) = ((p.0 ≡ part) × (p.1 ≡ id)) ⊎ PairIn part id l

-- pairs compared by their first number, then by their second, a u32
abbrev pub pair_key : ℕ × ℕ → ℕ
pair_key p = p.0 * 4294967296 + p.1

-- exactly what a content lacks: the devices, then the disks, each ascending, and so each once
pub record IsMissing (c : Content) (l : List (ℕ × ℕ)) : Type 0 where
  pub exactly : (part id : ℕ) → PairIn part id l ↔ Lacks c part id
  pub ascend : Asc pair_key 0 l

-- pairs as they are written: two u32 each
abbrev pub missing_bytes : List (ℕ × ℕ) → List ℕ
missing_bytes = flat (λ p. bytes_of 4 p.0 ++ bytes_of 4 p.1)

-- the promise of ready::ready and cimbrolau_ready, for the file s and a list that held `old`
abbrev pub SaysReady : List ℕ → List ℕ → Readiness → List ℕ → Type 0
SaysReady s old r new = Tells (ready_call (length old) s) old r new

-- the file is refused; or it is taken and the list is too short, and 8 bytes are needed for each thing that is missing
abbrev pub Refuses : List ℕ → List ℕ → ℕ → ℕ → Type 0
Refuses s old n p = (content_at s ≡ refused n p)
    ⊎ ((c : Content) × (l : List (ℕ × ℕ)) × (content_at s ≡ taken c) × IsMissing c l × (length old < 8 * length l) × (n ≡ ROOM) × (p ≡ 8 * length l))

pub record ReadyToRestore : Type 0 where
  -- yes holds exactly if the file is accepted and has all that is needed
  pub yes_exactly : (s old new : List ℕ) (r : Readiness) → SaysReady s old r new → (r.ready ≡ 1) ↔ ((c : Content) × (content_at s ≡ taken c) × Restorable c)
  pub yes_or_no : (s old new : List ℕ) (r : Readiness) → SaysReady s old r new → (r.ready ≡ 0) ⊎ (r.ready ≡ 1)
  -- the list is exactly what is missing, and the bytes behind it stay
  pub list : (s old new : List ℕ) (r : Readiness) → SaysReady s old r new → r.number ≡ 0
      → (c : Content) × (l : List (ℕ × ℕ)) × (content_at s ≡ taken c) × IsMissing c l × (r.place ≡ 8 * length l) × (new ≡ missing_bytes l ++ drop (8 * length l) old)
  -- it is empty exactly for a yes
  pub empty : (s old new : List ℕ) (r : Readiness) → SaysReady s old r new → r.number ≡ 0 → (r.place ≡ 0) ↔ (r.ready ≡ 1)
  -- a refusal is the file's own, or else ROOM for the list; it is no yes, and the list stays as it was
  pub refuses : (s old new : List ℕ) (r : Readiness) → SaysReady s old r new → r.number ≢ 0 → Refuses s old r.number r.place × (r.ready ≡ 0) × (new ≡ old)
  pub numbers : (s old new : List ℕ) (r : Readiness) → SaysReady s old r new → r.number ≢ 0 → is_number r.number ≡ true
  -- two files with the same content get the same answer
  pub same : (s t old new now : List ℕ) (r q : Readiness) → content_at s ≡ content_at t → SaysReady s old r new → SaysReady t old q now → (r ≡ q) × (new ≡ now)
  -- and so do files that hold the same devices and disks in whatever order, whatever else is in them
  pub any_order : (have : ℕ) (l m : List (List ℕ)) → IsFile l → IsFile m → Permᴰ (entries_in DEVICES devices l) (entries_in DEVICES devices m) → Permᴰ (entries_in DISKS disks l) (entries_in DISKS disks m)
      → ready_call have (header ++ join l) ≡ ready_call have (header ++ join m)
