-- For contracts of private functions: what they say to each other.
-- Assumes nothing.
use Rattle.std.specs.Prelude.{List, [], ◌∷◌, Bool, cond, ◌&&◌, ℕ, ◌^◌, ◌%◌, eqb}
use Rattle.kinds.specs.declared.Message.{Message}
use Rattle.kinds.specs.declared.Message.TheVariants.{Nothing}
use Rattle.kinds.specs.declared.Field.{Field}
use Rattle.kinds.specs.declared.Form.{Form}
use Rattle.kinds.specs.Kinds.{Kind, blank}
use Rattle.messages.specs.Fields.{field_width}
use Rattle.numbers.specs.declared.Numbers.{Numbers}

-- the low bytes of a number, as many as its field has
abbrev pub low : Field → ℕ → ℕ
low f v = v % 256 ^ field_width 0 f

-- a kind with the low bytes of its numbers
abbrev pub narrow : Kind → ℕ → ℕ → ℕ → ℕ → Message
narrow k a b c d = let f = blank k in k (low f.a.0 a) (low f.b.0 b) (low f.c.0 c) (low f.d.0 d)

-- the same of the kind that has the tag; nothing if none has it
abbrev pub narrow_in : List Kind → ℕ → ℕ → ℕ → ℕ → ℕ → Message
narrow_in [] t a b c d = Nothing
narrow_in (k ∷ ks) t a b c d = cond (eqb t (blank k).tag) (narrow k a b c d) (narrow_in ks t a b c d)

-- a row has just these numbers
abbrev pub same_numbers : Form → Numbers → Bool
same_numbers f n = eqb f.a.1 n.a && (eqb f.b.1 n.b && (eqb f.c.1 n.c && eqb f.d.1 n.d))
