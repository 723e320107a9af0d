-- The promise of `said` fixes its answer: any two that it allows are equal.
-- Assumes nothing.
use mathlib.Core.Path.{◌≡◌}
use mathlib.Core.List.{List}
use Prim.Native.Nat.{ℕ}
use Rattle.answer.proofs.Once.{equal_once}
use Rattle.kinds.specs.declared.Message.{Message}
use Rattle.messages.specs.Fields.{message_at}
use Rattle.std.proofs.Common.{Result}
use Rattle.answer.specs.declared.Fault.{Fault}
use Rattle.answer.specs.Calls.{outcome_of}
use Rattle.messages.specs.declared.Content.{Content}
use Rattle.messages.specs.declared.Reading.{Reading}
use Rattle.messages.specs.Reading.{reading}

pub said_once : (m : List ℕ) {r s : Message} → r ≡ message_at m → s ≡ message_at m → r ≡ s
said_once m e f = equal_once e f

pub reading_from_once : (o : Result Content Fault) {r s : Reading} → r ≡ reading (outcome_of o) → s ≡ reading (outcome_of o) → r ≡ s
reading_from_once o e f = equal_once e f
