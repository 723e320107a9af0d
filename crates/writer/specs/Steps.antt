-- For contracts of private functions: a list that is known to be one, and what it is in the order of its keys.
-- Assumes nothing.
use Rattle.std.specs.Prelude.{◌≡◌, List, ◌++◌, ℕ, ◌≤◌, length}
use Rattle.answer.specs.Outcome.{taken}
use Rattle.order.specs.Keyed.{sort}
use Rattle.entries.specs.Kinds.{Description}
use Rattle.lists.specs.Lists.{list_at, entries, tail_of, list_bytes, file_most}

-- s is a list, and l where its entries start, in the order of their keys
pub record Listed (d : Description) (s l : List ℕ) : Type 0 where
  pub short : length s ≤ file_most
  pub list : list_at d s ≡ taken l

-- the list that s is, in the order of its keys, its tail behind them
abbrev pub sorted_bytes : Description → List ℕ → List ℕ
sorted_bytes d s = list_bytes (sort d.key (entries d s)) ++ tail_of d s
