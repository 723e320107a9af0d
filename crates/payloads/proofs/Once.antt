-- The promise fixes its answer and all of the lent memory: any two that it allows are equal.
-- Assumes nothing.
use mathlib.Core.Path.{◌≡◌}
use mathlib.Core.List.{List}
use Prim.Native.Nat.{ℕ}
use lib.ListN.{length}
use Rattle.std.proofs.Common.{Result}
use Rattle.answer.specs.declared.Fault.{Fault}
use Rattle.lists.specs.Promises.{Indexed}
use Rattle.lists.proofs.Once.{index_once as list-once}
use Rattle.payloads.specs.Starts.{kept_of}

pub index_once : (id v : ℕ) (p : List ℕ) {old : List ℕ} (r q : Result ℕ Fault) {new now : List ℕ}
    → Indexed (kept_of (length old) id v p) old r new → Indexed (kept_of (length old) id v p) old q now → (r ≡ q) × (new ≡ now)
index_once id v p r q a b = list-once r q a b
