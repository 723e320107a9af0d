-- Each promise fixes its answer and every byte of the region: any two that it allows are equal. Assumes nothing.
use Rattle.std.proofs.Common.{◌≡◌, ℕ, List, Result}
use Rattle.answer.specs.declared.Answer.{Answer}
use Rattle.answer.proofs.Once.{equal_once}
use Rattle.rings.specs.declared.Pair.{Pair}
use Rattle.rings.specs.declared.Record.{Record}
use Rattle.answer.specs.Outcome.{Outcome}
use Rattle.rings.specs.Calls.{Stores, as_answer, as_pair, as_record, pair_of, record_answer, Leaves, reserve_call, fill_call, commit_call, take_call}
use Rattle.answer.specs.declared.Fault.{Fault}

pub leaves_once : {A R : Type 0} {f : Outcome (Stores × A) → R} {o : Outcome (Stores × A)} {b : List ℕ} {r s : R} {new now : List ℕ} → Leaves f o b r new → Leaves f o b s now → (r ≡ s) × (new ≡ now)
leaves_once x y = (equal_once x.answers y.answers, equal_once x.leaves y.leaves)

module _ (b : List ℕ) (q : ℕ) {new now : List ℕ} where
  pub reserve_once : (n : ℕ) {r s : Pair} → Leaves as_pair (reserve_call b q n) b r new
      → Leaves as_pair (reserve_call b q n) b s now → (r ≡ s) × (new ≡ now)
  reserve_once n x y = leaves_once x y

  pub fill_once : (start end : ℕ) (m : List ℕ) {r s : Answer} → Leaves as_answer (fill_call b q start end m) b r new
      → Leaves as_answer (fill_call b q start end m) b s now → (r ≡ s) × (new ≡ now)
  fill_once start end m x y = leaves_once x y

  pub commit_once : (start end : ℕ) {r s : Answer} → Leaves as_answer (commit_call b q start end) b r new
      → Leaves as_answer (commit_call b q start end) b s now → (r ≡ s) × (new ≡ now)
  commit_once start end x y = leaves_once x y

  pub take_once : {r s : Record} → Leaves as_record (take_call b q) b r new
      → Leaves as_record (take_call b q) b s now → (r ≡ s) × (new ≡ now)
  take_once x y = leaves_once x y

pub pair_from_once : (o : Result Pair Fault) {r s : Pair} → r ≡ pair_of o → s ≡ pair_of o → r ≡ s
pair_from_once o e f = equal_once e f

pub record_from_once : (o : Result Record Fault) {r s : Record} → r ≡ record_answer o → s ≡ record_answer o → r ≡ s
record_from_once o e f = equal_once e f
