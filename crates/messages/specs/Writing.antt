-- What writing a message gives: the checks in their order, and behind them the bytes.
-- Assumes nothing.
use Rattle.std.specs.Prelude.{List, [], ◌∷◌, ◌++◌, ℕ, leb, length}
use Rattle.answer.specs.Numbers.{LIMIT, TEXT, VALUE}
use Rattle.answer.specs.Outcome.{Outcome, taken, Checks, checked, room}
use Rattle.wire.specs.Numbers.{bytes_of}
pub use Rattle.wire.specs.Parts.{with_length}
use Rattle.utf8.specs.Scan.{is_text}
use Rattle.kinds.specs.declared.Message.{Message}
use Rattle.kinds.specs.declared.Body.{Body}
use Rattle.kinds.specs.declared.Body.TheVariants.{Empty, Bytes, Text}
use Rattle.kinds.specs.declared.Cell.{Cell}
use Rattle.kinds.specs.declared.Form.{Form}
use Rattle.kinds.specs.Kinds.{paper, cells, ok_of}
use Rattle.messages.specs.Fields.{field_width, allowed}
use Rattle.messages.specs.Reading.{message_most}

-- ---- the bytes: tag, fields in order, and for data its length and itself

-- each number in the bytes of its field
unfoldable pub field_bytes : ℕ → List Cell → List ℕ
field_bytes ok [] = []
field_bytes ok (c ∷ cs) = bytes_of (field_width ok c.0) c.1 ++ field_bytes ok cs

-- what stands behind the numbers
abbrev pub body_bytes : Body → List ℕ → List ℕ
body_bytes Empty d = []
body_bytes Bytes d = with_length d
body_bytes Text d = with_length d

-- all of it
unfoldable pub form_bytes : Form → List ℕ → List ℕ
form_bytes f d = bytes_of 2 f.tag ++ (field_bytes (ok_of f) (cells f) ++ body_bytes f.body d)

-- ---- the checks: VALUE and TEXT at 0, LIMIT at 0, ROOM

-- a listed number outside its values, or an error code beside `ok` 1
unfoldable pub value_checks : ℕ → List Cell → Checks
value_checks ok [] = []
value_checks ok (c ∷ cs) = (allowed ok c.0 c.1, VALUE, 0) ∷ value_checks ok cs

-- one byte or more for a kind that has no data; a text that is not UTF-8
abbrev pub data_checks : Body → List ℕ → Checks
data_checks Empty d = (leb (length d) 0, VALUE, 0) ∷ []
data_checks Bytes d = []
data_checks Text d = (is_text d, TEXT, 0) ∷ []

-- the case for nothing is VALUE too; last, the bound on a message
unfoldable pub write_checks : Form → List ℕ → Checks
write_checks f d =
    (f.known, VALUE, 0)
    ∷ (value_checks (ok_of f) (cells f) ++ (data_checks f.body d ++ (leb (length (form_bytes f d)) message_most, LIMIT, 0) ∷ []))

-- the bytes of a message with its data
unfoldable pub written : Message → List ℕ → List ℕ
written k d = form_bytes (paper k) d

-- the bytes, or the first check that fails, where the output has `have` bytes
unfoldable pub write_message : Message → List ℕ → ℕ → Outcome (List ℕ)
write_message k d have = checked (write_checks (paper k) d ++ room have (length (written k d))) (taken (written k d))
