-- The public calls but for edits, which stand beside a card (crate cards). Those that write nothing answer by `verdict`, the others by `answer` and `memory` (crate answer), `have` being the length of the lent output.
-- Assumes nothing.
use Rattle.std.specs.Prelude.{List, ℕ}
use Rattle.answer.specs.Outcome.{Outcome}
use Rattle.aerosnap.specs.File.{file_of}
use Rattle.aerosnap.specs.Content.{canonical}
use Rattle.aerosnap.specs.Known.{DEVICES, DISKS, CPUS, MMUS}
use Rattle.aerosnap.specs.Tables.{section_rows, table, list_table}

abbrev pub check_call : List ℕ → Outcome (List (List ℕ))
check_call file = file_of file

abbrev pub sections_call : ℕ → List ℕ → Outcome (List ℕ)
sections_call = table (section_rows 16 0)

abbrev pub devices_call : ℕ → List ℕ → Outcome (List ℕ)
devices_call = list_table DEVICES

abbrev pub disks_call : ℕ → List ℕ → Outcome (List ℕ)
disks_call = list_table DISKS

-- a file that has one CPU or one MMU, in a section of its own, has no record of it
abbrev pub cpus_call : ℕ → List ℕ → Outcome (List ℕ)
cpus_call = list_table CPUS

abbrev pub mmus_call : ℕ → List ℕ → Outcome (List ℕ)
mmus_call = list_table MMUS

abbrev pub canonical_call : ℕ → List ℕ → Outcome (List ℕ)
canonical_call have file = canonical have file
