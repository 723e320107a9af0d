-- What a call shows its caller: number, place, and every byte of lent memory afterwards.
-- Assumes nothing.
use Rattle.std.specs.Prelude.{◌≡◌, Result, Ok, Err, List, ◌++◌, ℕ, length, drop}
use Rattle.answer.specs.declared.Answer.{Answer}
use Rattle.answer.specs.declared.Fault.{Fault}
use Rattle.answer.specs.Refusals.{number_of}
use Rattle.answer.specs.Outcome.{Outcome, taken, refused, Checks, checked, after}

-- the fault that a call of the code answers, as an outcome
abbrev pub fault_of : {A : Type 0} → Fault → Outcome A
fault_of f = refused (number_of f.0) f.1

-- the outcome that an answer of the code stands for
abbrev pub outcome_of : {A : Type 0} → Result A Fault → Outcome A
outcome_of (Ok a) = taken a
outcome_of (Err f) = fault_of f

-- checks with nothing behind them
abbrev pub asked : Checks → Outcome (Unit {0})
asked l = checked l (taken tt)

-- a call that writes nothing: the place of what is taken is 0
abbrev pub verdict : {A : Type 0} → Outcome A → Answer
verdict (taken a) = record { number = 0; place = 0 }
verdict (refused n p) = record { number = n; place = p }

-- a call that writes: the place of what is taken is the number of bytes written
abbrev pub answer : Outcome (List ℕ) → Answer
answer (taken b) = record { number = 0; place = length b }
answer (refused n p) = record { number = n; place = p }

-- the same by that number alone
abbrev pub count_answer : Outcome ℕ → Answer
count_answer (taken n) = record { number = 0; place = n }
count_answer (refused n p) = record { number = n; place = p }

-- the lent memory after it: the bytes, and behind them what was there; a refusal leaves all as it was
abbrev pub memory : Outcome (List ℕ) → List ℕ → List ℕ
memory (taken b) old = b ++ drop (length b) old
memory (refused n p) old = old

-- the promise of a call that writes: its answer r, and `new` in the lent memory that held `old`
pub record Writes (o : Outcome (List ℕ)) (old : List ℕ) (r : Answer) (new : List ℕ) : Type 0 where
  pub answers : r ≡ answer o
  pub leaves : new ≡ memory o old

-- the promise of one that answers how many bytes it wrote, or its fault
pub record WritesCount (o : Outcome (List ℕ)) (old : List ℕ) (r : Result ℕ Fault) (new : List ℕ) : Type 0 where
  pub answers : outcome_of r ≡ after o (λ b. taken (length b))
  pub leaves : new ≡ memory o old
