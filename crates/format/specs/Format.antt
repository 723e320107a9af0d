-- What a piece of a file is, as data: how it is read, with its first fault, and which bytes it is. Places count from the piece's start.
-- Assumes nothing.
use Rattle.std.specs.Prelude.{◌≡◌, ◌⊎◌, List, [], ◌∷◌, ◌++◌, true, false, ◌&&◌, ℕ, ◌+◌, ◌-◌, length, take, drop, leb, eqb}
use Rattle.answer.specs.Numbers.{SHAPE, LIMIT, TEXT, VALUE}
use Rattle.answer.specs.Outcome.{Outcome, taken, Checks, checked, Pass, after, moved, shift}
use Rattle.answer.specs.Calls.{asked}
use Rattle.wire.specs.Numbers.{le, le_at}
use Rattle.utf8.specs.Scan.{is_text, break_at}

-- what is asked of bytes whose number is known
abbrev pub Asks : Type 0
Asks = List ℕ → Outcome (Unit {0})

pub data Format : Type 0 where
  -- n bytes, and what is asked of them
  block : ℕ → Asks → Format
  -- a length of w bytes, the checks that it is asked (their places count from it), as many bytes, and what is asked of those
  sized : ℕ → (ℕ → Checks) → Asks → Format
  -- a byte 0, or a byte 1 and what follows it
  option : Format → Format
  -- one after the other
  pair : Format → Format → Format
  -- a piece, and what is then asked of all its bytes; places count from its start
  also : Format → Asks → Format

-- a length is checked when it is read: it fits, its own checks, its bytes fit
abbrev pub sized_checks : ℕ → (ℕ → Checks) → List ℕ → Checks
sized_checks w checks b = (leb w (length b), SHAPE, 0) ∷ (checks (le_at w b 0) ++ ((leb (le_at w b 0) (length b - w), SHAPE, w) ∷ []))

abbrev pub option_checks : List ℕ → Checks
option_checks b = (leb 1 (length b), SHAPE, 0) ∷ (leb (le_at 1 b 0) 1, VALUE, 0) ∷ []

-- where the piece that begins b ends, or its first fault
unfoldable pub read : Format → List ℕ → Outcome ℕ
read (block n ask) b = checked ((leb n (length b), SHAPE, 0) ∷ []) (after (ask (take n b)) (λ _. taken n))
read (sized w checks ask) b = checked (sized_checks w checks b) (after (moved w (ask (take (le_at w b 0) (drop w b)))) (λ _. taken (w + le_at w b 0)))
read (option f) b = checked (option_checks b) (elim (eqb (le_at 1 b 0) 0) [ true ↦ taken 1 | false ↦ shift 1 (read f (drop 1 b)) ])
read (pair f g) b = after (read f b) (λ k. shift k (read g (drop k b)))
read (also f ask) b = after (read f b) (λ k. after (ask (take k b)) (λ _. taken k))

-- how many bytes the piece that begins b says that it has: only its lengths are looked at
unfoldable pub span : Format → List ℕ → ℕ
span (block n ask) b = n
span (sized w checks ask) b = w + le_at w b 0
span (option f) b = elim (eqb (le_at 1 b 0) 0) [ true ↦ 1 | false ↦ 1 + span f (drop 1 b) ]
span (pair f g) b = span f b + span g (drop (span f b) b)
span (also f ask) b = span f b

-- the bytes e are such a piece
abbrev pub Is : Format → List ℕ → Type 0
Is (block n ask) e = (length e ≡ n) × (ask e ≡ taken tt)
Is (sized w checks ask) e = (x : List ℕ) × (y : List ℕ) × (e ≡ x ++ y) × (length x ≡ w) × (le x ≡ length y) × Pass (checks (length y)) × (ask y ≡ taken tt)
Is (option f) e = (e ≡ 0 ∷ []) ⊎ ((x : List ℕ) × (e ≡ 1 ∷ x) × Is f x)
Is (pair f g) e = (x : List ℕ) × (y : List ℕ) × (e ≡ x ++ y) × Is f x × Is g y
Is (also f ask) e = Is f e × (ask e ≡ taken tt)

-- bytes of which nothing is asked
abbrev pub any : Asks
any e = taken tt

abbrev pub bytes : ℕ → Format
bytes n = block n any

-- a length over its bound
abbrev pub at_most : ℕ → ℕ → Checks
at_most most n = (leb n most, LIMIT, 0) ∷ []

-- a length of w bytes, at most so much, and as many bytes
abbrev pub blob : ℕ → ℕ → Format
blob w most = sized w (at_most most) any

-- UTF-8; else TEXT at the first byte at which none continues
abbrev pub utf8 : Asks
utf8 e = asked ((is_text e, TEXT, break_at e) ∷ [])

-- a u32 length, at most so much, and as many bytes of UTF-8
abbrev pub text : ℕ → Format
text most = sized 4 (at_most most) utf8

-- rows of listed numbers: the offset, how many bytes, the least and the greatest that may stand there
unfoldable pub values : List (ℕ × ℕ × ℕ × ℕ) → Asks
values [] e = taken tt
values (r ∷ l) e = let n = le_at r.1 e r.0 in checked ((leb r.2 n && leb n r.3, VALUE, r.0) ∷ []) (values l e)
