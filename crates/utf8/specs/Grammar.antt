-- UTF-8 as the grammar of RFC 3629, section 4: each line of the RFC is a definition under its name, and each alternative is one row,
-- in the RFC's order; and the place at which bytes cease to follow it. Assumes nothing.
use Rattle.std.specs.Prelude.{Result, Ok, Err, ℕ, zero, suc, ◌≤◌, ◌⊎◌, List, [], ◌∷◌, ◌++◌, length, take}
use Rattle.answer.specs.Numbers.{TEXT}
use Rattle.answer.specs.Outcome.{Outcome, taken, refused}

-- ---- the RFC's table
-- %xFROM-TO
pub record Range : Type 0 where
  pub from : ℕ
  pub to : ℕ

infix 80 ◌⋯◌
abbrev pub ◌⋯◌ : ℕ → ℕ → Range
a ⋯ z = record { from = a; to = z }

-- %xA
abbrev pub only : ℕ → Range
only a = a ⋯ a

-- An alternative: the range of its first byte, and then those of the bytes behind it.
pub record Alternative : Type 0 where
  pub first : Range
  pub rest : List Range

infixr 70 ◌then◌
abbrev pub ◌then◌ : Range → List Range → Alternative
r then rs = record { first = r; rest = rs }

-- UTF8-tail = %x80-BF
abbrev pub UTF8-tail : Range
UTF8-tail = 0x80 ⋯ 0xBF

-- n( UTF8-tail )
abbrev pub tails : ℕ → List Range
tails zero = []
tails (suc n) = UTF8-tail ∷ tails n

-- UTF8-1 = %x00-7F
abbrev pub UTF8-1 : List Alternative
UTF8-1 = 0x00 ⋯ 0x7F then [] ∷ []

-- UTF8-2 = %xC2-DF UTF8-tail
abbrev pub UTF8-2 : List Alternative
UTF8-2 = 0xC2 ⋯ 0xDF then tails 1 ∷ []

-- UTF8-3 = %xE0 %xA0-BF UTF8-tail / %xE1-EC 2( UTF8-tail ) /
--          %xED %x80-9F UTF8-tail / %xEE-EF 2( UTF8-tail )
abbrev pub UTF8-3 : List Alternative
UTF8-3 =
    only 0xE0 then (0xA0 ⋯ 0xBF ∷ tails 1)
    ∷ 0xE1 ⋯ 0xEC then tails 2
    ∷ only 0xED then (0x80 ⋯ 0x9F ∷ tails 1)
    ∷ 0xEE ⋯ 0xEF then tails 2
    ∷ []

-- UTF8-4 = %xF0 %x90-BF 2( UTF8-tail ) / %xF1-F3 3( UTF8-tail ) /
--          %xF4 %x80-8F 2( UTF8-tail )
abbrev pub UTF8-4 : List Alternative
UTF8-4 =
    only 0xF0 then (0x90 ⋯ 0xBF ∷ tails 2)
    ∷ 0xF1 ⋯ 0xF3 then tails 3
    ∷ only 0xF4 then (0x80 ⋯ 0x8F ∷ tails 2)
    ∷ []

-- UTF8-char = UTF8-1 / UTF8-2 / UTF8-3 / UTF8-4
abbrev pub UTF8-char : List Alternative
UTF8-char = UTF8-1 ++ (UTF8-2 ++ (UTF8-3 ++ UTF8-4))

-- ---- what it makes
-- the byte b is one of %xLO-HI
pub record InRange (lo hi b : ℕ) : Type 0 where
  pub low : lo ≤ b
  pub high : b ≤ hi

-- one byte of each range
pub data Fits : List Range → List ℕ → Type 0 where
  done : Fits [] []
  byte : {r : Range} {rs : List Range} {b : ℕ} {t : List ℕ} → InRange r.from r.to b → Fits rs t → Fits (r ∷ rs) (b ∷ t)

-- the bytes of one of the alternatives
abbrev pub OneOf : List Alternative → List ℕ → Type 0
OneOf [] c = ⊥
OneOf (a ∷ l) c = Fits (a.first ∷ a.rest) c ⊎ OneOf l c

abbrev pub Char : List ℕ → Type 0
Char c = OneOf UTF8-char c

-- UTF8-octets = *( UTF8-char )
pub data Text : List ℕ → Type 0 where
  none : Text []
  more : {c t : List ℕ} → Char c → Text t → Text (c ++ t)

-- ---- where bytes cease to follow it
-- Some text begins with the bytes p.
pub record Begins (p : List ℕ) : Type 0 where
  pub rest : List ℕ
  pub text : Text (p ++ rest)

-- The first k bytes of s are its longest prefix that some text begins with.
pub record Longest (s : List ℕ) (k : ℕ) : Type 0 where
  pub within : k ≤ length s
  pub continues : Begins (take k s)
  pub longest : (j : ℕ) → j ≤ length s → Begins (take j s) → j ≤ k

-- s is no text, and k is the place of the first byte at which none continues: what stands before it is that prefix. Where s ends within a
-- character there is no such byte, and k is the length.
pub record Breaks (s : List ℕ) (k : ℕ) : Type 0 where
  pub wrong : Text s → ⊥
  pub prefix : Longest s k

-- ---- answers
-- Document 01's number and place for each answer: a text is taken, another is TEXT.
abbrev pub text_of : Result (Unit {0}) ℕ → Outcome (Unit {0})
text_of (Ok _) = taken tt
text_of (Err k) = refused TEXT k

-- The right answer for s: taken if it is a text, else TEXT where it breaks.
pub data Reads (s : List ℕ) : Outcome (Unit {0}) → Type 0 where
  whole : Text s → Reads s (taken tt)
  broken : {k : ℕ} → Breaks s k → Reads s (refused TEXT k)
