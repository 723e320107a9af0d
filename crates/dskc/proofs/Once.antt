-- Each promise fixes its answer and every byte of lent memory: any two that it allows are equal.
-- Assumes nothing.
use mathlib.Core.Path.{◌≡◌}
use mathlib.Core.List.{List}
use Prim.Native.Nat.{ℕ}
use Rattle.answer.specs.declared.Answer.{Answer}
use Rattle.answer.specs.Calls.{verdict, Writes}
use Rattle.answer.proofs.Once.{equal_once, writes_once}
use Rattle.dskc.specs.Wrapper.{wrapper_of, controllers_call, wrapper_canonical_call}

pub check_once : (s : List ℕ) {r p : Answer} → r ≡ verdict (wrapper_of s) → p ≡ verdict (wrapper_of s) → r ≡ p
check_once s e f = equal_once e f

pub controllers_once : (have : ℕ) (s : List ℕ) {old new now : List ℕ} {r p : Answer}
    → Writes (controllers_call have s) old r new → Writes (controllers_call have s) old p now → (r ≡ p) × (new ≡ now)
controllers_once have s a b = writes_once a b

pub canonical_once : (have : ℕ) (s : List ℕ) {old new now : List ℕ} {r p : Answer}
    → Writes (wrapper_canonical_call have s) old r new → Writes (wrapper_canonical_call have s) old p now → (r ≡ p) × (new ≡ now)
canonical_once have s a b = writes_once a b
