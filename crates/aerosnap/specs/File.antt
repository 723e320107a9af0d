-- The file: the header, and sections up to the end of the file.
-- Assumes nothing.
use Rattle.std.specs.Prelude.{List, [], ◌∷◌, ◌++◌, Bool, true, false, not, ◌&&◌, ◌||◌, ℕ, zero, suc, ◌+◌, ◌-◌, length, take, drop, leb, ltb, eqb}
use Rattle.answer.specs.Numbers.{SHORT, MAGIC, VERSION, ENDIAN, RESERVED, SIZE, CUT, MANY, TWICE, SECVER, LIMIT}
use Rattle.answer.specs.Outcome.{Outcome, taken, Checks, checked, after, moved}
use Rattle.wire.specs.Numbers.{le_at}
use Rattle.wire.specs.Parts.{same}
use Rattle.order.specs.Keyed.{has}
pub use Rattle.lists.specs.Lists.{file_most}
use Rattle.aerosnap.specs.Known.{DEVICES, known, takes, slot}
use Rattle.aerosnap.specs.Payloads.{body_of, payload}

-- a file has at most `file_most` bytes and 64 sections, the payload of DEVICES at most 256 MiB
abbrev pub sections_most : ℕ
sections_most = 64

abbrev pub devices_most : ℕ
devices_most = 268435456

-- `AEROSNAP`
abbrev pub letters : List ℕ
letters = 0x41 ∷ 0x45 ∷ 0x52 ∷ 0x4F ∷ 0x53 ∷ 0x4E ∷ 0x41 ∷ 0x50 ∷ []

-- the letters; u16 version 1; u8 endianness 1; u8 reserved 0; u32 reserved 0
abbrev pub header : List ℕ
header = letters ++ (1 ∷ 0 ∷ 1 ∷ 0 ∷ 0 ∷ 0 ∷ 0 ∷ 0 ∷ [])

-- what is asked of a file before its sections
abbrev pub header_checks : List ℕ → Checks
header_checks s =
    (leb (length s) file_most, SIZE, 0)
    ∷ (leb 16 (length s), SHORT, 0)
    ∷ (same (take 8 s) letters, MAGIC, 0)
    ∷ (eqb (le_at 2 s 8) 1, VERSION, 8)
    ∷ (eqb (le_at 1 s 10) 1, ENDIAN, 10)
    ∷ (eqb (le_at 1 s 11) 0, RESERVED, 11)
    ∷ (eqb (le_at 4 s 12) 0, RESERVED, 12)
    ∷ []

-- the section that begins the bytes e: u32 id, u16 version, u16 flags, u64 length, payload
abbrev pub id_of : List ℕ → ℕ
id_of e = le_at 4 e 0

abbrev pub version_of : List ℕ → ℕ
version_of e = le_at 2 e 4

abbrev pub flags_of : List ℕ → ℕ
flags_of e = le_at 2 e 6

abbrev pub length_of : List ℕ → ℕ
length_of e = le_at 8 e 8

abbrev pub payload_of : List ℕ → List ℕ
payload_of e = take (length_of e) (drop 16 e)

abbrev pub slot_of : List ℕ → ℕ
slot_of e = slot (id_of e)

-- the section that begins b is there whole
abbrev pub fits_in : List ℕ → Bool
fits_in b = leb 16 (length b) && leb (length_of b) (length b - 16)

-- what is asked of the section that begins b and starts at a place, after the sections before it: its header fits, it is not the 65th, its payload fits
abbrev pub frame_checks : List (List ℕ) → ℕ → List ℕ → Checks
frame_checks before at b = (leb 16 (length b), CUT, at) ∷ (ltb (length before) sections_most, MANY, at) ∷ (leb (length_of b) (length b - 16), CUT, at) ∷ []

-- what is asked of a known section, by its id, version, flags and payload, before its payload is read
abbrev pub known_checks : List (List ℕ) → ℕ → ℕ → ℕ → ℕ → List ℕ → Checks
known_checks before at id v f p =
    (takes id v, SECVER, at + 4)
    ∷ (eqb f 0, RESERVED, at + 6)
    ∷ (not (has slot_of (slot id) before), TWICE, at)
    ∷ (not (eqb id DEVICES) || leb (length p) devices_most, LIMIT, at + 8)
    ∷ []

-- known sections follow the rules, their payload too; of other ids nothing is asked
unfoldable pub ruled : List (List ℕ) → ℕ → ℕ → ℕ → ℕ → List ℕ → Outcome (Unit {0})
ruled before at id v f p = elim (known id) [
  | true ↦ checked (known_checks before at id v f p) (moved (at + 16) (payload (body_of id v) p))
  | false ↦ taken tt
]

-- one section, given those before it: its length with its header, or its first fault
unfoldable pub section_of : List (List ℕ) → ℕ → List ℕ → Outcome ℕ
section_of before at b = checked (frame_checks before at b) (after (ruled before at (id_of b) (version_of b) (flags_of b) (payload_of b)) (λ _. taken (16 + length_of b)))

-- the sections before a place and those of the bytes from there on, of which n may come: one more is refused
unfoldable pub sections : ℕ → List (List ℕ) → ℕ → List ℕ → Outcome (List (List ℕ))
sections zero before at [] = taken before
sections (suc n) before at [] = taken before
sections zero before at (c ∷ b) = after (section_of before at (c ∷ b)) (λ _. taken before)
sections (suc n) before at (c ∷ b) = after (section_of before at (c ∷ b)) (λ w. sections n (before ++ (take w (c ∷ b) ∷ [])) (at + w) (drop w (c ∷ b)))

-- the sections of a file in their order, or its first fault
unfoldable pub file_of : List ℕ → Outcome (List (List ℕ))
file_of s = checked (header_checks s) (sections sections_most [] 16 (drop 16 s))
