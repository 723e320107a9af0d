-- Each promise fixes its answer and all of the lent memory: any two that it allows are equal.
-- Assumes nothing.
use mathlib.Core.Path.{◌≡◌}
use mathlib.Core.Bool.{Bool, cond}
use mathlib.Core.List.{List, [], map}
use Prim.Native.Nat.{ℕ}
use lib.Dec.{leb}
use lib.ListN.{length}
use Rattle.answer.proofs.Once.{equal_once}
use Rattle.wire.specs.Parts.{Wrote}
use Rattle.wire.proofs.Once.{wrote_once}
use Rattle.order.specs.Entries.{join}
use Rattle.entries.specs.declared.Kind.{Kind}
use Rattle.entries.specs.Code.{describe}
use Rattle.writer.specs.Runs.{entry_by, fits, in_key_order, by_starts}

pub run_once : (k : Kind) (s starts old : List ℕ) {r q : ℕ} {new now : List ℕ}
    → Wrote (join (fits (length old) (map (entry_by (describe k) s) starts))) old new r → Wrote (join (fits (length old) (map (entry_by (describe k) s) starts))) old now q → (r ≡ q) × (new ≡ now)
run_once k s starts old a b = wrote_once a b

pub by_starts_once : (k : Kind) (s starts old : List ℕ) {r q : ℕ} {new now : List ℕ}
    → Wrote (cond (leb (length s) (length old)) (by_starts (describe k) s starts) []) old new r → Wrote (cond (leb (length s) (length old)) (by_starts (describe k) s starts) []) old now q → (r ≡ q) × (new ≡ now)
by_starts_once k s starts old a b = wrote_once a b

pub order_once : (starts : List ℕ) {r q : Bool} → r ≡ in_key_order starts → q ≡ in_key_order starts → r ≡ q
order_once starts e f = equal_once e f
