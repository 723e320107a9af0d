-- Each promise fixes its answer and every byte of lent memory: any two that it allows are equal.
-- Assumes nothing.
use mathlib.Core.Path.{◌≡◌}
use mathlib.Core.List.{List}
use Prim.Native.Nat.{ℕ}
use lib.ListN.{length}
use Rattle.answer.specs.declared.Answer.{Answer}
use Rattle.answer.proofs.Once.{equal_once}
use Rattle.fields.specs.Fields.{Changes}
use Rattle.fields.proofs.Once.{changes_once}
use Rattle.sheet.specs.declared.Sse.{Sse}
use Rattle.sheet.specs.declared.CpuSheet.{CpuSheet}
use Rattle.sheet.specs.declared.CpuShown.{CpuShown}
use Rattle.sheet.specs.Calls.{cpu_count, cpu_shown, cpu_call, cpu_over_call}
use Rattle.std.proofs.Common.{Result}
use Rattle.answer.specs.declared.Fault.{Fault}
use Rattle.answer.specs.Calls.{outcome_of}

pub make_sse_once : (n : ℕ) (x : List (List ℕ)) {r s : Sse} → r ≡ record { mxcsr = n; xmm = x } → s ≡ record { mxcsr = n; xmm = x } → r ≡ s
make_sse_once n x e f = equal_once e f

pub xmm_of_once : (x : Sse) {r s : List (List ℕ)} → r ≡ x.xmm → s ≡ x.xmm → r ≡ s
xmm_of_once x e f = equal_once e f

pub cpu_once : (b : List ℕ) {r s : CpuShown} → r ≡ cpu_shown (cpu_call b) → s ≡ cpu_shown (cpu_call b) → r ≡ s
cpu_once b e f = equal_once e f

module _ (b : List ℕ) {r s : Answer} {new now : List ℕ} where
  pub cpu_over_once : (c : CpuSheet) → Changes (cpu_count (length b)) (cpu_over_call c b) b r new → Changes (cpu_count (length b)) (cpu_over_call c b) b s now → (r ≡ s) × (new ≡ now)
  cpu_over_once c x y = changes_once x y

pub cpu_shown_from_once : (o : Result CpuSheet Fault) {r s : CpuShown} → r ≡ cpu_shown (outcome_of o) → s ≡ cpu_shown (outcome_of o) → r ≡ s
cpu_shown_from_once o e f = equal_once e f
