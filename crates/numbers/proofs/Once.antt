-- The promises fix their answers and every byte of lent memory: any two that they allow are equal.
-- Assumes nothing.
use mathlib.Core.Path.{◌≡◌}
use mathlib.Core.List.{List}
use Prim.Native.Nat.{ℕ}
use lib.ListN.{length}
use Rattle.answer.specs.declared.Answer.{Answer}
use Rattle.std.proofs.Common.{Result}
use Rattle.answer.specs.declared.Fault.{Fault}
use Rattle.answer.specs.Calls.{outcome_of, Writes}
use Rattle.answer.proofs.Once.{equal_once, outcome_once, writes_once}
use Rattle.kinds.specs.declared.Message.{Message}
use Rattle.messages.specs.Reading.{read_message, reading}
use Rattle.numbers.specs.declared.Numbers.{Numbers}
use Rattle.numbers.specs.declared.Told.{Told}
use Rattle.numbers.specs.Numbers.{numbers_of, message_of, told, write_numbers}
use Rattle.messages.specs.declared.Content.{Content}

pub numbers_of_once : (m : Message) {r s : Numbers} → r ≡ numbers_of m → s ≡ numbers_of m → r ≡ s
numbers_of_once m e f = equal_once e f

pub message_of_once : (n : Numbers) (r s : Result Message Fault) → outcome_of r ≡ message_of n → outcome_of s ≡ message_of n → r ≡ s
message_of_once n r s e f = outcome_once r s (equal_once e f)

pub read_once : (m : List ℕ) {r s : Told} → r ≡ told (reading (read_message m)) → s ≡ told (reading (read_message m)) → r ≡ s
read_once m e f = equal_once e f

pub write_once : (n : Numbers) (d old : List ℕ) {r s : Answer} {new now : List ℕ}
    → Writes (write_numbers n d (length old)) old r new → Writes (write_numbers n d (length old)) old s now → (r ≡ s) × (new ≡ now)
write_once n d old a b = writes_once a b

pub told_from_once : (o : Result Content Fault) {r s : Told} → r ≡ told (reading (outcome_of o)) → s ≡ told (reading (outcome_of o)) → r ≡ s
told_from_once o e f = equal_once e f
