-- Pieces read by computation: a label that may be there, with its length, its bound and its text.
-- Assumes nothing.
use mathlib.Core.Path.{◌≡◌, refl}
use mathlib.Core.List.{List, [], ◌∷◌}
use Prim.Native.Nat.{ℕ}
use Rattle.answer.specs.Numbers.{SHAPE, LIMIT, TEXT, VALUE}
use Rattle.answer.specs.Outcome.{Outcome, taken, refused}
use Rattle.wire.specs.Numbers.{le, le_at}
use Rattle.utf8.specs.Scan.{lead_of, after_of, scan_from, scan, is_text, break_at}
use Rattle.format.specs.Format.{Format, option, text, values, read}

abbrev label : Format
label = option (text 3)

abbrev ReadsAs : List ℕ → Outcome ℕ → Type 0
ReadsAs b o = read label b ≡ o

pub labels : ReadsAs (0 ∷ 7 ∷ []) (taken 1)
    -- a label of length 0 is a label
    × ReadsAs (1 ∷ 0 ∷ 0 ∷ 0 ∷ 0 ∷ []) (taken 5)
    × ReadsAs (1 ∷ 2 ∷ 0 ∷ 0 ∷ 0 ∷ 195 ∷ 169 ∷ 9 ∷ []) (taken 7)
    × ReadsAs [] (refused SHAPE 0)
    × ReadsAs (2 ∷ []) (refused VALUE 0)
    × ReadsAs (1 ∷ 1 ∷ 0 ∷ 0 ∷ []) (refused SHAPE 1)
    -- the bound is asked before the bytes are looked for
    × ReadsAs (1 ∷ 4 ∷ 0 ∷ 0 ∷ 0 ∷ []) (refused LIMIT 1)
    × ReadsAs (1 ∷ 3 ∷ 0 ∷ 0 ∷ 0 ∷ 65 ∷ 66 ∷ []) (refused SHAPE 5)
    -- the text is asked once its bytes are there
    × ReadsAs (1 ∷ 2 ∷ 0 ∷ 0 ∷ 0 ∷ 65 ∷ 195 ∷ []) (refused TEXT 7)
unfolding read le_at le is_text break_at scan scan_from after_of lead_of
labels = (refl, refl, refl, refl, refl, refl, refl, refl, refl)

-- a listed byte from 0 to 3 at 1, and a u16 at 2 that is 4
abbrev rows : List (ℕ × ℕ × ℕ × ℕ)
rows = (1, 1, 0, 3) ∷ (2, 2, 4, 4) ∷ []

pub listed : (values rows (9 ∷ 3 ∷ 4 ∷ 0 ∷ []) ≡ taken tt)
    × (values rows (9 ∷ 4 ∷ 5 ∷ 0 ∷ []) ≡ refused VALUE 1)
    × (values rows (9 ∷ 3 ∷ 4 ∷ 1 ∷ []) ≡ refused VALUE 2)
unfolding values le_at le
listed = (refl, refl, refl)
