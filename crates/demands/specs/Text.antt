-- Texts. UTF-8 is as in RFC 3629, whose section 4 is the grammar of crates/utf8/specs/Grammar.antt, alternative by alternative (request 7 of document 02);
-- and where a text is broken (request 2).
-- Assumes nothing.
use Rattle.std.specs.Prelude.{◌≡◌, ◌↔◌, ◌⊎◌, true, List, ℕ, ◌+◌, ◌≤◌, ◌<◌, length, take, drop}
use Rattle.answer.specs.Numbers.{TEXT}
use Rattle.answer.specs.Outcome.{taken, refused}
use Rattle.wire.specs.Numbers.{le_at}
use Rattle.format.specs.Format.{utf8, text}
use Rattle.format.specs.Places.{read_at}
use Rattle.std.specs.Prelude.{Result}
use Rattle.utf8.specs.Grammar.{Text, Begins, Breaks, text_of, Reads}
use Rattle.utf8.specs.Scan.{is_text}
use Rattle.kinds.specs.declared.Message.{Message}
use Rattle.kinds.specs.Kinds.{paper}
use Rattle.messages.specs.Fields.{message_at}
use Rattle.messages.specs.Reading.{numbers_end, read_message}
use Rattle.messages.specs.Writing.{write_message}
use Rattle.aerosnap.specs.Content.{content_at}
use Rattle.aerosnap.specs.Adding.{Item}
use Rattle.aerosnap.specs.Edits.{add_item}
use Rattle.aerosnap.specs.Calls.{check_call}

-- a text is taken exactly if it is one of the RFC's grammar
pub record Texts : Type 0 where
  -- in labels and image texts
  pub fields : (s : List ℕ) → (utf8 s ≡ taken tt) ↔ Text s
  -- in Log and Panic, and in what an add or a message is given
  pub tests : (s : List ℕ) → (is_text s ≡ true) ↔ Text s
  -- by the call that looks at it
  pub calls : (s : List ℕ) (r : Result (Unit {0}) ℕ) → Reads s (text_of r) → (text_of r ≡ taken tt) ↔ Text s

-- ---- request 2: TEXT points at the first byte at which no valid UTF-8 continues (the length, if the text ends early)

-- the text of n bytes that stands at the place a of s breaks at p
pub record Points (s : List ℕ) (a n p : ℕ) : Type 0 where
  pub offset : ℕ
  pub place : p ≡ a + offset
  pub breaks : Breaks (take n (drop a s)) offset

-- some text of s, whose length stands at `field`, lies within s and breaks at p
pub record Pointer (s : List ℕ) (p : ℕ) : Type 0 where
  pub field : ℕ
  pub fits : field + 4 + le_at 4 s field ≤ length s
  pub points : Points s (field + 4) (le_at 4 s field) p

pub record BrokenTexts : Type 0 where
  -- what is no text breaks somewhere
  pub broken : (s : List ℕ) → (Text s → ⊥) ↔ ((k : ℕ) × Breaks s k)
  -- before that place some text begins with all the bytes, and with the byte at it none does
  pub continues : (s : List ℕ) (k : ℕ) → Breaks s k → Begins (take k s)
  pub stops : (s : List ℕ) (k : ℕ) → Breaks s k → k < length s → Begins (take (k + 1) s) → ⊥
  -- it is the only such place
  pub only : (s : List ℕ) (k : ℕ) → Breaks s k → (j : ℕ) → j ≤ length s → Begins (take j s) → (j < length s → Begins (take (j + 1) s) → ⊥) → j ≡ k
  -- the call that looks at a text names it
  pub calls : (s : List ℕ) (r : Result (Unit {0}) ℕ) → Reads s (text_of r) → (k : ℕ) → (text_of r ≡ refused TEXT k) ↔ Breaks s k
  -- TEXT of a file points there in one of its texts
  pub files : (s : List ℕ) (p : ℕ) → check_call s ≡ refused TEXT p → Pointer s p
  -- and of a label or an image text, whose length stands at a place, in that one
  pub fields : (most : ℕ) (s : List ℕ) (at p : ℕ) → read_at (text most) s at ≡ refused TEXT p → Points s (at + 4) (le_at 4 s at) p
  -- and so does TEXT of a Log or a Panic, whose text's length stands behind the numbers
  pub messages : (m : List ℕ) (p : ℕ) → read_message m ≡ refused TEXT p → let at = numbers_end (paper (message_at m)) in Points m (at + 4) (le_at 4 m at) p
  -- adds and message writing keep place 0
  pub adds : (have : ℕ) (s : List ℕ) (x : Item) (p : ℕ) → add_item have s x ≡ refused TEXT p → (content_at s ≡ refused TEXT p) ⊎ (p ≡ 0)
  pub writing : (k : Message) (d : List ℕ) (have p : ℕ) → write_message k d have ≡ refused TEXT p → p ≡ 0
