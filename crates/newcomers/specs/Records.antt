-- A table of new devices as records of 24 bytes.
-- Assumes nothing.
use Rattle.std.specs.Prelude.{cond, List, [], ◌∷◌, ◌++◌, ℕ, ◌*◌, ◌<◌, leb, ltb}
use Rattle.sorting.specs.Sorting.{arranged_most}
use Rattle.wire.specs.Numbers.{bytes_of}
use Rattle.wire.specs.Parts.{put}
use Rattle.aerosnap.specs.declared.NewDevice.{NewDevice}

-- of so many entries, how many are looked at: one more than a list holds
abbrev pub looked_at : ℕ → ℕ
looked_at count = cond (leb count arranged_most) count arranged_most

-- the record of one new device: u32 id, u16 version, u16 flags, u64 place, u64 length
abbrev pub record_of : NewDevice → List ℕ
record_of d = bytes_of 4 d.id ++ (bytes_of 2 d.version ++ (bytes_of 2 d.flags ++ (bytes_of 8 d.place ++ bytes_of 8 d.length)))

-- old with record i written where it fits
unfoldable pub record_put : ℕ → NewDevice → List ℕ → List ℕ
record_put i d old = put (i * 24) (record_of d) old

-- the same for an entry that is looked at; no other is stored
abbrev pub stored_in : ℕ → NewDevice → List ℕ → List ℕ
stored_in i d old = cond (ltb i 4097) (record_put i d old) old

-- the records of a table, one after another
unfoldable pub records_of : List NewDevice → List ℕ
records_of [] = []
records_of (d ∷ l) = record_of d ++ records_of l

-- the numbers of an entry are as wide as its fields
abbrev pub WideEntry : NewDevice → Type 0
WideEntry d = (d.id < 4294967296) × (d.version < 65536) × (d.flags < 65536) × (d.place < 18446744073709551616) × (d.length < 18446744073709551616)
