-- The tables of a file: its sections in file order, its devices, disks, CPUs and MMUs in key order.
-- Assumes nothing.
use Rattle.std.specs.Prelude.{List, [], ◌∷◌, ◌++◌, Bool, true, false, cond, ℕ, suc, ◌+◌, eqb, length, drop}
use Rattle.answer.specs.Outcome.{Outcome, after, fitting}
use Rattle.order.specs.Keyed.{flat}
use Rattle.lists.specs.Lists.{list_at, starts_in}
use Rattle.tables.specs.Tables.{described, framed_row, rows_at}
use Rattle.tables.specs.declared.Table.{Table}
use Rattle.tables.specs.declared.Table.TheVariants.{Devices, Disks, Cpus, Mmus}
use Rattle.aerosnap.specs.Known.{DEVICES, DISKS, CPUS}
use Rattle.aerosnap.specs.File.{version_of, file_of}
use Rattle.aerosnap.specs.Content.{is_id}

-- sections and where they start, the first of them at a place
unfoldable pub placed : ℕ → List (List ℕ) → List (ℕ × List ℕ)
placed at [] = []
placed at (e ∷ l) = (at, e) ∷ placed (at + length e) l

-- the table of a list, by the id and the version of its section
abbrev pub table_by : Bool → Bool → Bool → ℕ → Table
table_by true b c v = Devices
table_by false true c v = Disks
table_by false false true v = Cpus v
table_by false false false v = Mmus v

abbrev pub table_in : ℕ → ℕ → Table
table_in i v = table_by (eqb i DEVICES) (eqb i DISKS) (eqb i CPUS) v

-- the records of the entries of a section that is such a list
abbrev pub entry_rows : Table → ℕ × List ℕ → List ℕ
entry_rows t q = rows_at t (q.0 + 16) (drop 16 q.1) (starts_in (list_at (described t) (drop 16 q.1)))

-- the records of a section's entries, if it is the one with that id
abbrev pub list_rows : ℕ → ℕ × List ℕ → List ℕ
list_rows i q = cond (is_id i q.1) (entry_rows (table_in i (version_of q.1)) q) []

-- the records of sections, the first of them at a place; a section's position is its number in the file, that of the first is q
unfoldable pub section_rows : ℕ → ℕ → List (List ℕ) → List ℕ
section_rows at q [] = []
section_rows at q (e ∷ l) = framed_row at q e ++ section_rows (at + length e) (suc q) l

-- the records that are made of the sections, for an output of so many bytes; the whole input is checked first
abbrev pub table : (List (List ℕ) → List ℕ) → ℕ → List ℕ → Outcome (List ℕ)
table rows have s = after (file_of s) (λ l. fitting have (rows l))

-- the records of the list with an id
abbrev pub list_table : ℕ → ℕ → List ℕ → Outcome (List ℕ)
list_table i = table (λ l. flat (list_rows i) (placed 16 l))
