-- The payloads of sections. Places count from the payload's start.
-- Assumes nothing.
use Rattle.std.specs.Prelude.{List, [], ◌∷◌, cond, ℕ, length, eqb}
use Rattle.answer.specs.Numbers.{SHAPE}
use Rattle.answer.specs.Outcome.{taken, done}
use Rattle.answer.specs.Calls.{asked}
use Rattle.format.specs.Format.{Asks, Format, option, pair, bytes, text, read}
use Rattle.entries.specs.States.{cpu_whole, mmu_length}
use Rattle.entries.specs.Kinds.{Description, devices, disks, cpus, mmus}
use Rattle.lists.specs.Lists.{list_at}
use Rattle.aerosnap.specs.Known.{META, CPU, MMU, DEVICES, DISKS, CPUS, MMUS}

-- a label has at most 4096 bytes
abbrev pub label_most : ℕ
label_most = 4096

-- META: u64 snapshot id; u8 0 or 1, and if 1 a u64 parent id; u64 time in ms; u8 0 or 1, and if 1 a u32 length and a UTF-8 label
abbrev pub meta_form : Format
meta_form = pair (bytes 8) (pair (option (bytes 8)) (pair (bytes 8) (option (text label_most))))

-- what a payload is: META; a CPU or an MMU state of a version, and nothing else; a list; or bytes of which nothing is asked
pub data Body : Type 0 where
  meta : Body
  cpu : ℕ → Body
  mmu : ℕ → Body
  list : Description → Body
  opaque : Body

-- the payloads of which something is asked, by the ids of their sections; v is the version of the section
abbrev pub known_bodies : List (ℕ × (ℕ → Body))
known_bodies =
    (META, λ v. meta)
    ∷ (CPU, λ v. cpu v)
    ∷ (MMU, λ v. mmu v)
    ∷ (DEVICES, λ v. list devices)
    ∷ (DISKS, λ v. list disks)
    ∷ (CPUS, λ v. list (cpus v))
    ∷ (MMUS, λ v. list (mmus v))
    ∷ []

-- the one with that id; nothing is asked where there is none
abbrev pub body_in : List (ℕ × (ℕ → Body)) → ℕ → ℕ → Body
body_in [] id v = opaque
body_in (r ∷ l) id v = cond (eqb id r.0) (r.1 v) (body_in l id v)

-- what the payload of a section is, by its id and version
abbrev pub body_of : ℕ → ℕ → Body
body_of = body_in known_bodies

-- the first fault of a payload, if any; bytes behind the last field of META are a tail, and nothing is asked of them
unfoldable pub payload : Body → Asks
payload meta p = done (read meta_form p)
payload (cpu v) p = cpu_whole v p
payload (mmu v) p = asked ((eqb (length p) (mmu_length v), SHAPE, 0) ∷ [])
payload (list d) p = done (list_at d p)
payload opaque p = taken tt
