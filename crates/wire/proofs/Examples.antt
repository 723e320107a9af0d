-- Numbers and stores by computation: a level of 15 is not 3840.
-- Assumes nothing.
use mathlib.Core.Path.{◌≡◌, refl}
use mathlib.Core.List.{[], ◌∷◌}
use Rattle.wire.specs.Numbers.{le, le_at, bytes_of}
use Rattle.wire.specs.Parts.{splice, put}

pub level : le_at 2 (15 ∷ 0 ∷ []) 0 ≡ 15
unfolding le_at le
level = refl

pub swapped : le_at 2 (0 ∷ 15 ∷ []) 0 ≡ 3840
unfolding le_at le
swapped = refl

pub address : le_at 2 (0 ∷ 1 ∷ []) 0 ≡ 256
unfolding le_at le
address = refl

pub past_end : le_at 4 (7 ∷ 1 ∷ []) 1 ≡ 1
unfolding le_at le
past_end = refl

pub stored_level : put 1 (bytes_of 2 15) (9 ∷ 9 ∷ 9 ∷ 9 ∷ []) ≡ 9 ∷ 15 ∷ 0 ∷ 9 ∷ []
unfolding put splice bytes_of
stored_level = refl

pub no_room : put 3 (bytes_of 2 15) (9 ∷ 9 ∷ 9 ∷ 9 ∷ []) ≡ 9 ∷ 9 ∷ 9 ∷ 9 ∷ []
unfolding put splice bytes_of
no_room = refl
