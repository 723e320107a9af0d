-- A promise fixes its answer: any two that it allows are equal.
-- Assumes nothing.
use mathlib.Core.Path.{◌≡◌, sym, ◌∙◌, ap}
use Rattle.std.proofs.Common.{Result, Ok, Err}
use mathlib.Core.List.{List}
use Prim.Native.Nat.{ℕ}
use Rattle.answer.specs.declared.Answer.{Answer}
use Rattle.answer.specs.declared.Fault.{Fault}
use Rattle.answer.specs.declared.Refusal.{Refusal}
use Rattle.answer.specs.Outcome.{Outcome, room}
use Rattle.answer.specs.Calls.{fault_of, outcome_of, verdict, count_answer, asked, Writes, WritesCount}
use Rattle.answer.specs.Refusals.{number_of}
use Rattle.answer.proofs.Refusals.{number_once}
use native.Mathlib.Omega.{arith}

-- a promise that is an equation
pub equal_once : {A : Type 0} {x r s : A} → r ≡ x → s ≡ x → r ≡ s
equal_once e f = e ∙ sym f

-- a call that writes: the answer, and all of the lent memory
pub writes_once : {o : Outcome (List ℕ)} {old : List ℕ} {r s : Answer} {new now : List ℕ}
    → Writes o old r new → Writes o old s now → (r ≡ s) × (new ≡ now)
writes_once a b = (equal_once a.answers b.answers, equal_once a.leaves b.leaves)

-- the code's own answers stand for different outcomes
pub fault_once : {A : Type 0} (f g : Fault) → fault_of {A = A} f ≡ fault_of g → f ≡ g
fault_once f g e =
    let make : Refusal → ℕ → Fault = λ r p. record { 0 = r; 1 = p } in
    let p : f.1 ≡ g.1 = cc in
    ap (λ (r : Refusal). make r f.1) (number_once f.0 g.0 cc) ∙ ap (make g.0) p

pub outcome_once : {A : Type 0} (r s : Result A Fault) → outcome_of r ≡ outcome_of s → r ≡ s
outcome_once (Ok a) (Ok b) e = cc
outcome_once (Ok a) (Err f) e = let z : ◌≡◌ {A = ℕ} 0 1 = cc in absurd (omega arith)
outcome_once (Err f) (Ok b) e = let z : ◌≡◌ {A = ℕ} 0 1 = cc in absurd (omega arith)
outcome_once {A} (Err f) (Err g) e = ap Err (fault_once {A = A} f g e)

pub answered_once : (t : Result (Unit {0}) Fault) {r s : Answer} → r ≡ verdict (outcome_of t) → s ≡ verdict (outcome_of t) → r ≡ s
answered_once t e f = equal_once e f

pub number_of_once : (r : Refusal) {n m : ℕ} → n ≡ number_of r → m ≡ number_of r → n ≡ m
number_of_once r e f = equal_once e f

pub count_answer_once : (o : Outcome ℕ) {r s : Answer} → r ≡ count_answer o → s ≡ count_answer o → r ≡ s
count_answer_once o e f = equal_once e f

pub roomy_once : (have need : ℕ) (r s : Result (Unit {0}) Fault) → outcome_of r ≡ asked (room have need) → outcome_of s ≡ asked (room have need) → r ≡ s
roomy_once have need r s e f = outcome_once r s (equal_once e f)

-- a call that answers how many bytes it wrote
pub fills_once : {o : Outcome (List ℕ)} {old : List ℕ} (r s : Result ℕ Fault) {new now : List ℕ} → WritesCount o old r new → WritesCount o old s now → (r ≡ s) × (new ≡ now)
fills_once r s a b = (outcome_once r s (equal_once a.answers b.answers), equal_once a.leaves b.leaves)
