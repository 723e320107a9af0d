-- The promise fixes its answer and every byte of the lent list: any two that it allows are equal.
-- Assumes nothing.
use mathlib.Core.Path.{◌≡◌}
use mathlib.Core.List.{List}
use Prim.Native.Nat.{ℕ}
use lib.ListN.{length}
use Rattle.answer.specs.Outcome.{Outcome}
use Rattle.answer.proofs.Once.{equal_once}
use Rattle.ready.specs.declared.Readiness.{Readiness}
use Rattle.ready.specs.Missing.{ready_call, list_answer, Tells}
use Rattle.std.proofs.Common.{Result}
use Rattle.answer.specs.declared.Fault.{Fault}

pub tells_once : {o : Outcome (List ℕ)} {old new now : List ℕ} {r s : Readiness} → Tells o old r new → Tells o old s now → (r ≡ s) × (new ≡ now)
tells_once a b = (equal_once a.answers b.answers, equal_once a.leaves b.leaves)

pub ready_once : (file old : List ℕ) {r s : Readiness} {new now : List ℕ} → Tells (ready_call (length old) file) old r new → Tells (ready_call (length old) file) old s now → (r ≡ s) × (new ≡ now)
ready_once file old a b = tells_once a b

pub readiness_from_once : (o : Result ℕ Fault) {r s : Readiness} → r ≡ list_answer o → s ≡ list_answer o → r ≡ s
readiness_from_once o e f = equal_once e f
