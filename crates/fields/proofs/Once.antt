-- Each promise fixes its answer and every byte of lent memory: any two that it allows are equal.
-- Assumes nothing.
use mathlib.Core.Path.{◌≡◌}
use mathlib.Core.Bool.{Bool}
use mathlib.Core.List.{List}
use Prim.Native.Nat.{ℕ}
use lib.ListN.{length}
use Rattle.answer.specs.declared.Answer.{Answer}
use Rattle.std.proofs.Common.{Result}
use Rattle.answer.specs.declared.Fault.{Fault}
use Rattle.answer.specs.Outcome.{Outcome}
use Rattle.answer.specs.Calls.{outcome_of, asked, Writes}
use Rattle.answer.proofs.Once.{equal_once, writes_once, outcome_once}
use Rattle.fields.specs.declared.State.{State}
use Rattle.fields.specs.declared.State.TheVariants.{Cpu, Mmu}
use Rattle.fields.specs.Fields.{right_length, state_checks, field_call, set_call, Changes}

pub changes_once : {count : ℕ} {o : Outcome (List ℕ)} {old : List ℕ} {r s : Answer} {new now : List ℕ} → Changes count o old r new → Changes count o old s now → (r ≡ s) × (new ≡ now)
changes_once a b = (equal_once a.answers b.answers, equal_once a.leaves b.leaves)

pub right_length_once : (k : State) (s : List ℕ) {a b : Bool} → a ≡ right_length k s → b ≡ right_length k s → a ≡ b
right_length_once k s e f = equal_once e f

pub judge_once : (k : State) (s : List ℕ) (a b : Result (Unit {0}) Fault) → outcome_of a ≡ asked (state_checks k s) → outcome_of b ≡ asked (state_checks k s) → a ≡ b
judge_once k s a b e f = outcome_once a b (equal_once e f)

module _ (k : State) (b : List ℕ) (n i : ℕ) {r s : Answer} {new now : List ℕ} where
  pub field_once : (old : List ℕ) → Writes (field_call k (length old) b n i) old r new → Writes (field_call k (length old) b n i) old s now → (r ≡ s) × (new ≡ now)
  field_once old x y = writes_once x y

  pub set_once : (v : List ℕ) → Changes (length v) (set_call k b n i v) b r new → Changes (length v) (set_call k b n i v) b s now → (r ≡ s) × (new ≡ now)
  set_once v x y = changes_once x y

module _ (b : List ℕ) (n i : ℕ) {r s : Answer} {new now : List ℕ} where
  pub cpu_field_once : (old : List ℕ) → Writes (field_call Cpu (length old) b n i) old r new → Writes (field_call Cpu (length old) b n i) old s now → (r ≡ s) × (new ≡ now)
  cpu_field_once = field_once Cpu b n i

  pub mmu_field_once : (old : List ℕ) → Writes (field_call Mmu (length old) b n i) old r new → Writes (field_call Mmu (length old) b n i) old s now → (r ≡ s) × (new ≡ now)
  mmu_field_once = field_once Mmu b n i

  pub cpu_set_once : (v : List ℕ) → Changes (length v) (set_call Cpu b n i v) b r new → Changes (length v) (set_call Cpu b n i v) b s now → (r ≡ s) × (new ≡ now)
  cpu_set_once = set_once Cpu b n i

  pub mmu_set_once : (v : List ℕ) → Changes (length v) (set_call Mmu b n i v) b r new → Changes (length v) (set_call Mmu b n i v) b s now → (r ≡ s) × (new ≡ now)
  mmu_set_once = set_once Mmu b n i
