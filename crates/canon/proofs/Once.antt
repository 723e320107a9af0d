-- Each promise fixes its answer and every byte of lent memory: any two that it allows are equal.
-- Assumes nothing.
use mathlib.Core.Path.{◌≡◌}
use mathlib.Core.List.{List}
use Prim.Native.Nat.{ℕ}
use lib.ListN.{length}
use Rattle.answer.specs.declared.Answer.{Answer}
use Rattle.answer.specs.Calls.{Writes}
use Rattle.answer.proofs.Once.{writes_once}
use Rattle.wire.specs.Parts.{Wrote}
use Rattle.wire.proofs.Once.{wrote_once}
use Rattle.aerosnap.specs.Calls.{canonical_call}
use Rattle.canon.specs.Ranks.{rank_bytes}

pub canonical_once : (file old : List ℕ) {new now : List ℕ} {r p : Answer}
    → Writes (canonical_call (length old) file) old r new → Writes (canonical_call (length old) file) old p now → (r ≡ p) × (new ≡ now)
canonical_once file old a b = writes_once a b

pub put_between_once : (file index : List ℕ) (k n : ℕ) (old : List ℕ) {new now : List ℕ} {r p : ℕ}
    → Wrote (rank_bytes file index (length old) k n) old new r → Wrote (rank_bytes file index (length old) k n) old now p → (r ≡ p) × (new ≡ now)
put_between_once file index k n old a b = wrote_once a b
