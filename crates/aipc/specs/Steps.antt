-- For contracts of private functions: what they say to each other.
-- Assumes nothing.
use Rattle.std.specs.Prelude.{Bool, List, [], ◌∷◌, ◌++◌, ℕ, ◌+◌, ◌-◌, leb, length, take, drop}
use Rattle.std.specs.List.{list_all}
use Rattle.answer.specs.Numbers.{SHAPE, LIMIT, TEXT, VALUE}
use Rattle.answer.specs.Outcome.{Outcome, taken, Checks, checked, room}
use Rattle.wire.specs.Numbers.{bytes_of}
use Rattle.wire.specs.Parts.{put}
use Rattle.utf8.specs.Scan.{is_text, break_at}
use Rattle.kinds.specs.declared.Message.{Message}
use Rattle.kinds.specs.declared.Body.{Body}
use Rattle.kinds.specs.declared.Body.TheVariants.{Empty, Bytes, Text}
use Rattle.kinds.specs.declared.Cell.{Cell}
use Rattle.kinds.specs.declared.Form.{Form}
use Rattle.kinds.specs.Kinds.{cells, ok_of}
use Rattle.messages.specs.Fields.{field_width, allowed}
use Rattle.messages.specs.Reading.{MessageAndData}
use Rattle.messages.specs.Reading.{message_most, cell_checks, body_checks, numbers_end, message_content}
use Rattle.messages.specs.Writing.{data_checks, form_bytes, write_checks}

-- one field at a place, and where it ends
abbrev pub field_at : ℕ → Cell → List ℕ → ℕ → Outcome ℕ
field_at ok c m at =
    checked
    ((leb (at + field_width ok c.0) (length m), SHAPE, at) ∷ (allowed ok c.0 c.1, VALUE, at) ∷ [])
    (taken (at + field_width ok c.0))

-- a text from start to end
abbrev pub text_part : ℕ → ℕ → List ℕ → Checks
text_part start end m = (is_text (take (end - start) (drop start m)), TEXT, start + break_at (take (end - start) (drop start m))) ∷ []

-- what stands behind the numbers, at a place
unfoldable pub behind : Message → Body → ℕ → List ℕ → Outcome MessageAndData
behind k b at m = checked (body_checks b at m) (taken (message_content k b at m))

-- the numbers, and what stands behind them
unfoldable pub formed : Message → Form → List ℕ → Outcome MessageAndData
formed k f m = checked (cell_checks (ok_of f) (cells f) 2 m) (behind k f.body (numbers_end f) m)

-- each number is among its values
abbrev pub all_allowed : Form → Bool
all_allowed f = list_all (λ c. allowed (ok_of f) c.0 c.1) (cells f)

-- the first checks of writing, which go by the numbers and the data
abbrev pub write_faults : Form → List ℕ → Checks
write_faults f d = (f.known, VALUE, 0) ∷ (all_allowed f, VALUE, 0) ∷ data_checks f.body d

-- the last ones, which go by the length needed
abbrev pub limits : ℕ → ℕ → Checks
limits need have = (leb need message_most, LIMIT, 0) ∷ room have need

-- all of them
abbrev pub writing : Form → List ℕ → ℕ → Checks
writing f d have = write_checks f d ++ room have (length (form_bytes f d))

-- the fields put into the output one after the other
unfoldable pub put_cells : ℕ → List Cell → ℕ → List ℕ → List ℕ
put_cells ok [] at out = out
put_cells ok (c ∷ cs) at out = put_cells ok cs (at + field_width ok c.0) (put at (bytes_of (field_width ok c.0) c.1) out)

abbrev pub put_sized : List ℕ → ℕ → List ℕ → List ℕ
put_sized d at out = put (at + 4) d (put at (bytes_of 4 (length d)) out)

abbrev pub put_body : Body → List ℕ → ℕ → List ℕ → List ℕ
put_body Empty d at out = out
put_body Bytes d at out = put_sized d at out
put_body Text d at out = put_sized d at out

-- tag, numbers and what stands behind them
unfoldable pub put_form : Form → List ℕ → List ℕ → List ℕ
put_form f d out = put_body f.body d (numbers_end f) (put_cells (ok_of f) (cells f) 2 (put 0 (bytes_of 2 f.tag) out))
