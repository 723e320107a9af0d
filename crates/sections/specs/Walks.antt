-- The walk over the sections, as the code keeps it.
-- Assumes nothing.
use Rattle.std.specs.Prelude.{◌≡◌, List, [], ◌∷◌, cond, ℕ, ◌+◌, length}
use Rattle.answer.specs.Outcome.{Outcome, taken, refused, after}
use Rattle.aerosnap.specs.File.{file_of}
use Rattle.aerosnap.specs.Content.{is_id}

-- how many sections were found
abbrev pub counted : Outcome (List (List ℕ)) → Outcome ℕ
counted r = after r (λ l. taken (length l))

-- the sections of a file; of one that is refused, none
abbrev pub sections_in : List ℕ → List (List ℕ)
sections_in s = elim (file_of s) [ taken l ↦ l | refused n p ↦ [] ]

-- s is taken
abbrev pub Read : List ℕ → Type 0
Read s = file_of s ≡ taken (sections_in s)

-- where the first section with an id starts, of sections that stand from a place on; where they end, if none has it
unfoldable pub place_of : ℕ → ℕ → List (List ℕ) → ℕ
place_of i at [] = at
place_of i at (e ∷ l) = cond (is_id i e) at (place_of i (at + length e) l)
