-- What the parts of the code that writes tables ask and give.
-- Assumes nothing.
use Rattle.std.specs.Prelude.{◌≡◌, true, List, ℕ, ◌<◌, length}
use Rattle.tables.specs.Tables.{described}
use Rattle.aerosnap.specs.Known.{known}
use Rattle.aerosnap.specs.Payloads.{list, body_of}
use Rattle.aerosnap.specs.Tables.{table_in}
use Rattle.sections.specs.Walks.{sections_in, Read, place_of}
use Rattle.sections.specs.Index.{first_of, Reading}

-- a file that is taken has a list with an id at a place, and the starts of that list stand in the index from another on
pub record Lists (i : ℕ) (s : List ℕ) (at : ℕ) (index : List ℕ) (first : ℕ) : Type 0 where
  pub read : Read s
  pub is_known : known i ≡ true
  pub body : (v : ℕ) → body_of i v ≡ list (described (table_in i v))
  pub place : at ≡ place_of i 16 (sections_in s)
  pub there : at < length s
  pub starts : Reading (sections_in s) index 0
  pub front : first ≡ first_of i (sections_in s)
