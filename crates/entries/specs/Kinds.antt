-- The kinds of entry, each by its description. Everything else that is said of lists is said of any description.
-- Assumes nothing.
use Rattle.std.specs.Prelude.{List, [], ◌∷◌, Bool, true, false, ℕ, ◌+◌, ◌*◌, ◌/◌, ◌%◌, leb, eqb, length}
use Rattle.answer.specs.Numbers.{RESERVED, SHAPE}
use Rattle.answer.specs.Outcome.{Checks}
use Rattle.answer.specs.Calls.{asked}
use Rattle.wire.specs.Numbers.{le_at}
use Rattle.format.specs.Format.{any, Format, block, sized, pair, bytes, blob, text}
use Rattle.entries.specs.States.{held_state, mmu_length}

pub record Description : Type 0 where
  -- how many bytes of an entry are one field
  pub fixed : ℕ
  -- the bound of the count
  pub most : ℕ
  -- what is asked of that field before KEY, for the entry that begins the bytes
  pub early : List ℕ → Checks
  -- the key of the entry that begins the bytes, as one number: field by field, the first field weighs most
  pub key : List ℕ → ℕ
  -- the whole entry
  pub form : Format
  -- whether nothing may follow the last entry; else bytes behind it are a tail, as newer savers append them
  pub closed : Bool

-- what is asked of the entry that begins b before KEY: its fixed part is one field, then what its kind asks
abbrev pub lead_checks : Description → List ℕ → Checks
lead_checks d b = (leb d.fixed (length b), SHAPE, 0) ∷ d.early b

abbrev pub nothing : List ℕ → Checks
nothing e = []

-- the u32 that an entry begins with
abbrev pub id_key : List ℕ → ℕ
id_key e = le_at 4 e 0

-- a device's payload and a CPU's blob have at most 64 MiB each, an image text 65,536 bytes
abbrev pub payload_most : ℕ
payload_most = 67108864

abbrev pub blob_most : ℕ
blob_most = 67108864

abbrev pub image_most : ℕ
image_most = 65536

-- DEVICES: u32 id, u16 version, u16 flags, u64 length, payload
abbrev pub device_key : List ℕ → ℕ
device_key e = (le_at 4 e 0 * 65536 + le_at 2 e 4) * 65536 + le_at 2 e 6

abbrev pub devices : Description
devices = record { fixed = 16; most = 4096; early = nothing; key = device_key; form = pair (bytes 8) (blob 8 payload_most); closed = false }

-- DISKS: u32 disk id, base image, overlay image
abbrev pub disks : Description
disks = record { fixed = 4; most = 256; early = nothing; key = id_key; form = pair (bytes 4) (pair (text image_most) (text image_most)); closed = false }

-- CPUS: u32 APIC id, u32 state length, state, u64 length, internal blob
abbrev pub cpus : ℕ → Description
cpus v = record {
  fixed = 8;
  most = 256;
  early = nothing;
  key = id_key;
  form = pair (bytes 4) (pair (held_state v) (blob 8 blob_most));
  closed = false;
}

-- MMUS: u32 APIC id, state; all of it is one field
abbrev pub mmus : ℕ → Description
mmus v = record { fixed = 4 + mmu_length v; most = 256; early = nothing; key = id_key; form = bytes (4 + mmu_length v); closed = false }

-- an address is bus × 256 + device × 8 + function
abbrev pub address : ℕ → ℕ → ℕ → ℕ
address bus device function = bus * 256 + device * 8 + function

abbrev pub bus_of : ℕ → ℕ
bus_of a = a / 256

abbrev pub device_of : ℕ → ℕ
device_of a = a / 8 % 32

abbrev pub function_of : ℕ → ℕ
function_of a = a % 8

-- the address of the controller that begins the bytes
abbrev pub address_key : List ℕ → ℕ
address_key e = le_at 2 e 0

-- RESERVED; every address is one
abbrev pub controller_checks : List ℕ → Checks
controller_checks e = (eqb (le_at 2 e 2) 0, RESERVED, 2) ∷ []

-- u16 address, u16 reserved 0, four tag bytes
abbrev pub controller_head : Format
controller_head = block 8 (λ e. asked (controller_checks e))

-- a length that has no bound of its own
abbrev pub unbounded : ℕ → Checks
unbounded n = []

-- controllers: u16 address, u16 reserved 0, four tag bytes, u32 length, payload
abbrev pub controllers : Description
controllers = record {
  fixed = 12;
  most = 256;
  early = controller_checks;
  key = address_key;
  form = pair controller_head (sized 4 unbounded any);
  closed = true;
}
