-- A message as its tag and four numbers: those of its kind in the order of its fields, the error code last, 0 where there is none.
-- All of it goes by the table of kinds. Assumes nothing.
use Rattle.std.specs.Prelude.{List, [], ◌∷◌, Bool, cond, ◌&&◌, ℕ, ◌^◌, ltb, eqb}
use Rattle.answer.specs.Numbers.{VALUE, TAG}
use Rattle.answer.specs.Outcome.{Outcome, taken, refused, checked, after}
use Rattle.kinds.specs.declared.Message.{Message}
use Rattle.kinds.specs.declared.Field.{Field}
use Rattle.kinds.specs.declared.Form.{Form}
use Rattle.kinds.specs.Kinds.{Kind, kinds, blank, paper}
use Rattle.messages.specs.declared.Reading.{Reading}
use Rattle.messages.specs.Fields.{field_width}
use Rattle.messages.specs.Writing.{write_message}
use Rattle.numbers.specs.declared.Numbers.{Numbers}
use Rattle.numbers.specs.declared.Told.{Told}

-- ---- from a message to its numbers

-- the tag and the numbers of its row
abbrev pub row_numbers : Form → Numbers
row_numbers f = record { tag = f.tag; a = f.a.1; b = f.b.1; c = f.c.1; d = f.d.1 }

abbrev pub numbers_of : Message → Numbers
numbers_of m = row_numbers (paper m)

-- ---- from numbers to a message

-- the kind that has the tag; a tag that no kind has is TAG
abbrev pub kind_in : List Kind → ℕ → Outcome Kind
kind_in [] t = refused TAG 0
kind_in (k ∷ ks) t = cond (eqb t (blank k).tag) (taken k) (kind_in ks t)

-- a number fits the bytes that its field has where it is there; beside no field it is 0
abbrev pub within : Field → ℕ → Bool
within f v = ltb v (256 ^ field_width 0 f)

-- each number is within its field
abbrev pub all_within : Form → Numbers → Bool
all_within f n = within f.a.0 n.a && (within f.b.0 n.b && (within f.c.0 n.c && within f.d.0 n.d))

-- the message of a tag and its numbers
unfoldable pub message_of : Numbers → Outcome Message
message_of n = after (kind_in kinds n.tag) (λ k. checked ((all_within (blank k) n, VALUE, 0) ∷ []) (taken (k n.a n.b n.c n.d)))

-- ---- the calls

-- a reading by its numbers; the case for nothing has 0 for each
abbrev pub told : Reading → Told
told r =
    let n = numbers_of r.message in
    record { number = r.number; place = r.place; tag = n.tag; a = n.a; b = n.b; c = n.c; d = n.d; data_place = r.start; data_length = r.len }

-- a message by its numbers, written: TAG and VALUE of the numbers before all else
unfoldable pub write_numbers : Numbers → List ℕ → ℕ → Outcome (List ℕ)
write_numbers n d have = after (message_of n) (λ m. write_message m d have)
