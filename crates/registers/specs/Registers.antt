-- Registers of 8 bytes and segments, read from a state and written over one.
-- Assumes nothing.
use Rattle.std.specs.Prelude.{List, [], ◌∷◌, ◌++◌, ℕ, zero, suc, ◌+◌, ◌*◌, length, get_or}
use Rattle.wire.specs.Numbers.{le_at, bytes_of}
use Rattle.wire.specs.Parts.{put}
use Rattle.registers.specs.declared.Segment.{Segment}

-- f at 0, 1, .. below n
unfoldable pub gather : {A : Type 0} → (ℕ → A) → ℕ → List A
gather f zero = []
gather f (suc k) = gather f k ++ (f k ∷ [])

-- f at 0, 1, .. below n, one after another over a list
unfoldable pub in_turn : (ℕ → List ℕ → List ℕ) → ℕ → List ℕ → List ℕ
in_turn f zero s = s
in_turn f (suc k) s = f k (in_turn f k s)

-- a number over a state at a place
abbrev pub at : ℕ → ℕ → ℕ → List ℕ → List ℕ
at k w x s = put k (bytes_of w x) s

-- n registers of 8 bytes, from a place on
abbrev pub words_at : ℕ → ℕ → List ℕ → List ℕ
words_at k n s = gather (λ i. le_at 8 s (i * 8 + k)) n

-- registers of 8 bytes over a state, from a place on
abbrev pub words_over : ℕ → List ℕ → List ℕ → List ℕ
words_over k a s = in_turn (λ i. at (i * 8 + k) 8 (get_or a i 0)) (length a) s

-- ---- segments

abbrev pub segment_in : List ℕ → ℕ → Segment
segment_in s at = record { selector = le_at 2 s at; base = le_at 8 s (at + 2); limit = le_at 4 s (at + 10); access = le_at 4 s (at + 14) }

abbrev pub segment_over : ℕ → Segment → List ℕ → List ℕ
segment_over k g s = at (k + 14) 4 g.access (at (k + 10) 4 g.limit (at (k + 2) 8 g.base (at k 2 g.selector s)))

abbrev pub no_segment : Segment
no_segment = record { selector = 0; base = 0; limit = 0; access = 0 }

-- a field that no state has
abbrev pub no_member : ℕ → List ℕ
no_member i = []
