-- What the private functions of the crates that write a file ask and give: no promise cites it.
-- Assumes nothing.
use Rattle.std.specs.Prelude.{◌≡◌, cond, List, [], ◌++◌, ℕ, zero, suc, ◌+◌, ◌≤◌, ◌<◌, eqb, leb, length, get_or}
use Rattle.order.specs.Keyed.{flat}
use Rattle.order.specs.Entries.{join}
use Rattle.aerosnap.specs.File.{file_most}
use Rattle.aerosnap.specs.Rules.{IsSection}
use Rattle.aerosnap.specs.Content.{tidy, rank}

-- the bytes that are written of a section
abbrev pub bytes_for : List ℕ → List ℕ
bytes_for e = join (tidy e)

-- the same where sections of a rank are written: none of another rank
abbrev pub mine : ℕ → List ℕ → List ℕ
mine k e = cond (eqb (rank e) k) (bytes_for e) []

-- the bytes of one rank, and of the i ranks behind rank k
abbrev pub ranked : ℕ → List (List ℕ) → List ℕ
ranked k l = flat (mine k) l

abbrev pub ranks : List (List ℕ) → ℕ → ℕ → List ℕ
ranks l k zero = []
ranks l k (suc i) = ranks l k i ++ ranked (k + suc i) l

-- e is one section of a file
pub record WholeSection (e : List ℕ) : Type 0 where
  pub is : IsSection e
  pub small : length e ≤ file_most

-- the place of the directory that says whether there is anything of a rank
abbrev pub rank_place : ℕ → ℕ
rank_place k = cond (leb k 8) k 0

-- by the directory there is nothing of the ranks behind rank k from the i-th on and before the r-th
pub record PassedOver (index : List ℕ) (k i r : ℕ) : Type 0 where
  pub order : i ≤ r
  pub none : (j : ℕ) → i ≤ j → j < r → get_or index (rank_place (k + (j + 1))) 0 ≡ 0
