-- The fields of a message: their bytes, their values, and the numbers that stand in them.
-- Assumes nothing.
use Rattle.std.specs.Prelude.{List, [], ◌∷◌, Bool, true, cond, ℕ, ◌+◌, leb, eqb}
use Rattle.wire.specs.Numbers.{le_at}
use Rattle.kinds.specs.declared.Message.{Message}
use Rattle.kinds.specs.declared.Message.TheVariants.{Nothing}
use Rattle.kinds.specs.declared.Field.{Field}
use Rattle.kinds.specs.declared.Field.TheVariants.{Absent, U8, U16, U32, U64, Flag, Level, Error}
use Rattle.kinds.specs.declared.Cell.{Cell}
use Rattle.kinds.specs.Kinds.{Kind, kinds, blank, form_fields, make}

-- how many bytes a field has; the error code is there exactly if `ok` is 0
abbrev pub field_width : ℕ → Field → ℕ
field_width ok Absent = 0
field_width ok U8 = 1
field_width ok U16 = 2
field_width ok U32 = 4
field_width ok U64 = 8
field_width ok Flag = 1
field_width ok Level = 1
field_width ok Error = cond (eqb ok 0) 4 0

-- `ok` and the A20 byte are 0 or 1, a log level is 0 to 4, an error code beside an `ok` other than 0 is 0; other numbers are free
abbrev pub allowed : ℕ → Field → ℕ → Bool
allowed ok Absent v = true
allowed ok U8 v = true
allowed ok U16 v = true
allowed ok U32 v = true
allowed ok U64 v = true
allowed ok Flag v = leb v 1
allowed ok Level v = leb v 4
allowed ok Error v = cond (eqb ok 0) true (leb v 0)

-- how many bytes the fields have together
unfoldable pub size_of : ℕ → List Cell → ℕ
size_of ok [] = 0
size_of ok (c ∷ cs) = field_width ok c.0 + size_of ok cs

-- the numbers that stand in the fields from a place on, one field behind the other
unfoldable pub numbers_at : ℕ → List Field → ℕ → List ℕ → List ℕ
numbers_at ok [] at m = []
numbers_at ok (f ∷ fs) at m = le_at (field_width ok f) m at ∷ numbers_at ok fs (at + field_width ok f) m

-- the kind that has the tag, with the numbers that stand behind it (`ok` at 6); nothing if none has it
abbrev pub message_in : List Kind → ℕ → List ℕ → Message
message_in [] t m = Nothing
message_in (k ∷ ks) t m = cond (eqb t (blank k).tag) (make k (numbers_at (le_at 1 m 6) (form_fields (blank k)) 2 m)) (message_in ks t m)

-- what the bytes of a message say, be they right or not
unfoldable pub message_at : List ℕ → Message
message_at m = message_in kinds (le_at 2 m 0) m
