-- What the sections of a file are, with no word of how they are read.
-- Assumes nothing.
use Rattle.std.specs.Prelude.{◌≡◌, List, ◌++◌, Bool, true, ℕ, ◌+◌, ◌≤◌, length, drop}
use Rattle.answer.specs.Outcome.{taken}
use Rattle.format.specs.Format.{Is}
use Rattle.order.specs.Keyed.{Every, Apart, keep}
use Rattle.order.specs.Entries.{join}
use Rattle.entries.specs.States.{cpu_sized, cpu_state, mmu_length}
use Rattle.lists.specs.Lists.{IsList}
use Rattle.aerosnap.specs.Known.{DEVICES, known, takes}
use Rattle.aerosnap.specs.Payloads.{meta_form, Body, meta, cpu, mmu, list, opaque, body_of}
use Rattle.aerosnap.specs.File.{file_most, sections_most, devices_most, header, id_of, version_of, flags_of, length_of, slot_of}

-- p is such a payload
abbrev pub IsBody : Body → List ℕ → Type 0
IsBody meta p = (x : List ℕ) × (tail : List ℕ) × (p ≡ x ++ tail) × Is meta_form x
IsBody (cpu v) p = (cpu_sized v p ≡ true) × (cpu_state v p ≡ taken tt)
IsBody (mmu v) p = length p ≡ mmu_length v
IsBody (list d) p = IsList d p
IsBody opaque p = Unit {0}

-- a known section's id, version, flags and payload
pub record IsKnown (id v f : ℕ) (p : List ℕ) : Type 0 where
  pub version : takes id v ≡ true
  pub flags : f ≡ 0
  pub small : id ≡ DEVICES → length p ≤ devices_most
  pub body : IsBody (body_of id v) p

-- e is one section and nothing more
pub record IsSection (e : List ℕ) : Type 0 where
  pub whole : length e ≡ 16 + length_of e
  pub rules : known (id_of e) ≡ true → IsKnown (id_of e) (version_of e) (flags_of e) (drop 16 e)

abbrev pub is_known_section : List ℕ → Bool
is_known_section e = known (id_of e)

-- l are the sections of a file: each is a section, they are within the bounds, and no two of the known ones share a slot
pub record IsFile (l : List (List ℕ)) : Type 0 where
  pub few : length l ≤ sections_most
  pub short : length (header ++ join l) ≤ file_most
  pub are : Every IsSection l
  pub once : Apart slot_of (keep is_known_section l)
