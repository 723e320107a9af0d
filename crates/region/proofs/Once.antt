-- Each promise fixes its answer: any two that it allows are equal.
-- Assumes nothing.
use Rattle.std.proofs.Common.{◌≡◌, ℕ, List, Result}
use Rattle.answer.specs.declared.Answer.{Answer}
use Rattle.answer.specs.declared.Fault.{Fault}
use Rattle.answer.specs.Calls.{outcome_of, asked, verdict}
use Rattle.answer.proofs.Once.{equal_once, outcome_once}
use Rattle.region.specs.declared.Ring.{Ring}
use Rattle.region.specs.declared.Cursors.{Cursors}
use Rattle.region.specs.Region.{ahead, offset_of, ring_at, region_checks, queue_checks}
use Rattle.region.specs.Report.{as_cursors, report_call}

pub ahead_once : (a b : ℕ) {r s : ℕ} → r ≡ ahead a b → s ≡ ahead a b → r ≡ s
ahead_once a b e f = equal_once e f

pub offset_of_once : (b : List ℕ) (i : ℕ) {r s : ℕ} → r ≡ offset_of b i → s ≡ offset_of b i → r ≡ s
offset_of_once b i e f = equal_once e f

pub ring-at_once : (b : List ℕ) (at : ℕ) {r s : Ring} → r ≡ ring_at b at → s ≡ ring_at b at → r ≡ s
ring-at_once b at e f = equal_once e f

pub check_once : (b : List ℕ) {r s : Answer} → r ≡ verdict (asked (region_checks b)) → s ≡ verdict (asked (region_checks b)) → r ≡ s
check_once b e f = equal_once e f

pub check_queue_once : (b : List ℕ) (q : ℕ) (r s : Result (Unit {0}) Fault) → outcome_of r ≡ asked (queue_checks b q) → outcome_of s ≡ asked (queue_checks b q) → r ≡ s
check_queue_once b q r s e f = outcome_once r s (equal_once e f)

pub report_once : (b : List ℕ) (q : ℕ) {r s : Cursors} → r ≡ as_cursors (report_call b q) → s ≡ as_cursors (report_call b q) → r ≡ s
report_once b q e f = equal_once e f

pub cursors_from_once : (o : Result Ring Fault) {r s : Cursors} → r ≡ as_cursors (outcome_of o) → s ≡ as_cursors (outcome_of o) → r ≡ s
cursors_from_once o e f = equal_once e f
