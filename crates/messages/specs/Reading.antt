-- What reading a message gives: the checks in their order, and behind them the message with the place and the length of its data.
-- Assumes nothing.
use Rattle.std.specs.Prelude.{List, [], ◌∷◌, ◌++◌, ℕ, ◌+◌, leb, length, take, drop}
use Rattle.answer.specs.Numbers.{SHAPE, LIMIT, TEXT, VALUE, TAG}
use Rattle.answer.specs.Outcome.{Outcome, taken, refused, Checks, checked}
use Rattle.wire.specs.Numbers.{le_at}
pub use Rattle.wire.specs.Parts.{left_over_checks}
use Rattle.utf8.specs.Scan.{is_text, break_at}
use Rattle.kinds.specs.declared.Message.{Message}
use Rattle.kinds.specs.declared.Message.TheVariants.{Nothing}
use Rattle.kinds.specs.declared.Body.{Body}
use Rattle.kinds.specs.declared.Body.TheVariants.{Empty, Bytes, Text}
use Rattle.kinds.specs.declared.Cell.{Cell}
use Rattle.kinds.specs.declared.Form.{Form}
use Rattle.messages.specs.declared.Content.{Content}
use Rattle.messages.specs.declared.Reading.{Reading}
use Rattle.kinds.specs.Kinds.{paper, cells, ok_of}
use Rattle.messages.specs.Fields.{field_width, allowed, size_of, message_at}

-- the longest message
abbrev pub message_most : ℕ
message_most = 65536

-- each field in order: that it fits, then its value
unfoldable pub cell_checks : ℕ → List Cell → ℕ → List ℕ → Checks
cell_checks ok [] at m = []
cell_checks ok (c ∷ cs) at m =
    (leb (at + field_width ok c.0) (length m), SHAPE, at)
    ∷ (allowed ok c.0 c.1, VALUE, at)
    ∷ cell_checks ok cs (at + field_width ok c.0) m

-- data at a place is a u32 length and as many bytes; this is the length
abbrev pub data_length : ℕ → List ℕ → ℕ
data_length at m = le_at 4 m at

-- the length fits, then the bytes behind it
abbrev pub data_fits : ℕ → List ℕ → Checks
data_fits at m = (leb (at + 4) (length m), SHAPE, at) ∷ (leb (at + 4 + data_length at m) (length m), SHAPE, at + 4) ∷ []

-- the bytes
abbrev pub data_in : ℕ → List ℕ → List ℕ
data_in at m = take (data_length at m) (drop (at + 4) m)

-- what stands behind the numbers, at a place: nothing, data, or a text; and nothing after
unfoldable pub body_checks : Body → ℕ → List ℕ → Checks
body_checks Empty at m = left_over_checks m at
body_checks Bytes at m = data_fits at m ++ left_over_checks m (at + 4 + data_length at m)
body_checks Text at m = data_fits at m ++ (is_text (data_in at m), TEXT, at + 4 + break_at (data_in at m)) ∷ left_over_checks m (at + 4 + data_length at m)

-- where the numbers of a message end
abbrev pub numbers_end : Form → ℕ
numbers_end f = 2 + size_of (ok_of f) (cells f)

-- LIMIT, SHAPE of the tag, TAG, the fields in order, the data, TEXT, left over
unfoldable pub read_checks : Form → List ℕ → Checks
read_checks f m =
    (leb (length m) message_most, LIMIT, 0)
    ∷ (leb 2 (length m), SHAPE, 0)
    ∷ (f.known, TAG, 0)
    ∷ (cell_checks (ok_of f) (cells f) 2 m ++ body_checks f.body (numbers_end f) m)

-- a message, and its data by place and length
abbrev pub MessageAndData : Type 0
MessageAndData = Content

-- 0 and 0 for a kind that has no data; the real place for empty data
abbrev pub message_content : Message → Body → ℕ → List ℕ → MessageAndData
message_content k Empty at m = record { message = k; start = 0; len = 0 }
message_content k Bytes at m = record { message = k; start = at + 4; len = data_length at m }
message_content k Text at m = record { message = k; start = at + 4; len = data_length at m }

-- a message as its kind with its numbers, or the first check that fails
unfoldable pub read_message : List ℕ → Outcome MessageAndData
read_message m =
    let k = message_at m in
    let f = paper k in
    checked (read_checks f m) (taken (message_content k f.body (numbers_end f) m))

-- the answer: a refusal reads as the case for nothing
abbrev pub reading : Outcome MessageAndData → Reading
reading (taken c) = record { number = 0; place = 0; message = c.message; start = c.start; len = c.len }
reading (refused n p) = record { number = n; place = p; message = Nothing; start = 0; len = 0 }
