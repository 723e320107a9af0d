-- The promises of `read` and `write` fix their answers and every byte of lent memory: any two that they allow are equal.
-- Assumes nothing.
use mathlib.Core.Path.{◌≡◌, ap, ◌∙◌}
use mathlib.Core.List.{List}
use Prim.Native.Nat.{ℕ}
use lib.ListN.{length}
use Rattle.answer.specs.declared.Answer.{Answer}
use Rattle.std.proofs.Common.{Result}
use Rattle.answer.specs.declared.Fault.{Fault}
use Rattle.answer.specs.Calls.{outcome_of, Writes}
use Rattle.answer.proofs.Once.{equal_once, outcome_once, writes_once}
use Rattle.kinds.specs.declared.Message.{Message}
use Rattle.messages.specs.Reading.{MessageAndData}
use Rattle.messages.specs.Reading.{read_message}
use Rattle.messages.specs.Writing.{write_message}

pub read_once : (m : List ℕ) (r s : Result MessageAndData Fault) → outcome_of r ≡ read_message m → outcome_of s ≡ read_message m → r ≡ s
read_once m r s e f = outcome_once r s (equal_once e f)

-- a reading depends on nothing but the bytes
pub read_same : {m n : List ℕ} (r s : Result MessageAndData Fault) → m ≡ n → outcome_of r ≡ read_message m → outcome_of s ≡ read_message n → r ≡ s
read_same r s h e f = outcome_once r s (equal_once (e ∙ ap read_message h) f)

pub write_once : (k : Message) (d old : List ℕ) {r s : Answer} {new now : List ℕ}
    → Writes (write_message k d (length old)) old r new → Writes (write_message k d (length old)) old s now → (r ≡ s) × (new ≡ now)
write_once k d old a b = writes_once a b
