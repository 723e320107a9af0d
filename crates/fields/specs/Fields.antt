-- Reading and setting one field of a state: what is asked, in its order, and what is answered. k is the kind of state, n the field's number, i its index.
-- Assumes nothing.
use Rattle.std.specs.Prelude.{◌≡◌, Bool, ◌&&◌, List, [], ◌∷◌, ℕ, ◌+◌, ◌*◌, leb, ltb, eqb, length, take, drop}
use Rattle.answer.specs.Numbers.{SHAPE, VALUE}
use Rattle.answer.specs.Outcome.{Outcome, taken, refused, Checks, checked, fitting}
use Rattle.answer.specs.declared.Answer.{Answer}
use Rattle.wire.specs.Numbers.{le_at}
use Rattle.wire.specs.Parts.{splice}
use Rattle.entries.specs.States.{cpu_sized, cpu_values, mmu_length}
use Rattle.fields.specs.declared.Row.{Row}
use Rattle.fields.specs.declared.State.{State}
use Rattle.fields.specs.declared.State.TheVariants.{Cpu, Mmu}
use Rattle.fields.specs.Layout.{row_at}

-- ---- what is asked of a state

-- its length is right
abbrev pub right_length : State → List ℕ → Bool
right_length Cpu s = cpu_sized 2 s
right_length Mmu s = eqb (length s) (mmu_length 2)

-- the numbers that are listed of one of n bytes
abbrev pub listed_numbers : State → ℕ → List (ℕ × ℕ × ℕ × ℕ)
listed_numbers Cpu n = cpu_values 2 n
listed_numbers Mmu n = []

abbrev pub range_checks : List (ℕ × ℕ × ℕ × ℕ) → List ℕ → Checks
range_checks [] s = []
range_checks (r ∷ l) s = (leb r.2 (le_at r.1 s r.0) && leb (le_at r.1 s r.0) r.3, VALUE, r.0) ∷ range_checks l s

-- its length, then its values in document 01's order
unfoldable pub state_checks : State → List ℕ → Checks
state_checks k s = (right_length k s, SHAPE, 0) ∷ range_checks (listed_numbers k (length s)) s

-- ---- a field's place

abbrev pub field_place : Row → ℕ → ℕ
field_place r i = r.at + i * r.step

-- a state of so many bytes has the field with that index
abbrev pub has_in : Row → ℕ → ℕ → Bool
has_in r i len = ltb i r.count && leb (field_place r i + r.width) len

-- ---- reading: the length, the field, then the values; ROOM last

abbrev pub bytes_at : Row → ℕ → List ℕ → List ℕ
bytes_at r i s = take r.width (drop (field_place r i) s)

unfoldable pub field_checks : State → Row → ℕ → List ℕ → Checks
field_checks k r i s =
    (right_length k s, SHAPE, 0)
    ∷ (has_in r i (length s), SHAPE, 0)
    ∷ range_checks (listed_numbers k (length s)) s

unfoldable pub field_call : State → ℕ → List ℕ → ℕ → ℕ → Outcome (List ℕ)
field_call k have s n i = checked (field_checks k (row_at k n) i s) (fitting have (bytes_at (row_at k n) i s))

-- ---- setting: the length, the field, that the value is as wide as it, then the state as it would be

abbrev pub set_to : Row → ℕ → List ℕ → List ℕ → List ℕ
set_to r i v s = splice (field_place r i) v s

unfoldable pub set_checks : State → Row → ℕ → List ℕ → List ℕ → Checks
set_checks k r i v s =
    (right_length k s, SHAPE, 0)
    ∷ (has_in r i (length s), SHAPE, 0)
    ∷ (eqb (length v) r.width, VALUE, field_place r i)
    ∷ state_checks k (set_to r i v s)

unfoldable pub set_call : State → List ℕ → ℕ → ℕ → List ℕ → Outcome (List ℕ)
set_call k s n i v = checked (set_checks k (row_at k n) i v s) (taken (set_to (row_at k n) i v s))

-- ---- a call that changes lent memory in place

-- the answer: the place of what is taken is the number of bytes stored
abbrev pub stored_answer : ℕ → Outcome (List ℕ) → Answer
stored_answer count (taken b) = record { number = 0; place = count }
stored_answer count (refused n p) = record { number = n; place = p }

-- the memory after it: a refusal leaves all as it was
abbrev pub memory_after : Outcome (List ℕ) → List ℕ → List ℕ
memory_after (taken b) old = b
memory_after (refused n p) old = old

-- the promise: its answer r, and `new` in the lent memory that held `old`
pub record Changes (count : ℕ) (o : Outcome (List ℕ)) (old : List ℕ) (r : Answer) (new : List ℕ) : Type 0 where
  pub answers : r ≡ stored_answer count o
  pub leaves : new ≡ memory_after o old
