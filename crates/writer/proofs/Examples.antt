-- Lists written by computation: the payload of P4 becomes that of P5.
-- Assumes nothing.
use mathlib.Core.Path.{◌≡◌, refl}
use mathlib.Core.List.{List, [], ◌∷◌, ◌++◌, map}
use Prim.Native.Nat.{ℕ}
use Rattle.wire.specs.Numbers.{le, le_at, bytes_of}
use Rattle.format.specs.Format.{read, span}
use Rattle.order.specs.Keyed.{insert}
use Rattle.order.specs.Entries.{join, split}
use Rattle.entries.specs.Kinds.{devices}
use Rattle.writer.specs.Runs.{entry_by, fits, by_starts}
use Rattle.writer.specs.Steps.{sorted_bytes}

-- device (id, 1, 0) with one or two payload bytes
abbrev device : ℕ → ℕ → List ℕ → List ℕ
device id n payload = id ∷ 0 ∷ 0 ∷ 0 ∷ 1 ∷ 0 ∷ 0 ∷ 0 ∷ n ∷ 0 ∷ 0 ∷ 0 ∷ 0 ∷ 0 ∷ 0 ∷ 0 ∷ payload

-- entry (14, 1, 0) with `11`, entry (3, 1, 0) with `AB CD`
abbrev fourteen : List ℕ
fourteen = device 14 1 (17 ∷ [])

abbrev three : List ℕ
three = device 3 2 (171 ∷ 205 ∷ [])

abbrev counted : ℕ → List ℕ → List ℕ
counted n entries = n ∷ 0 ∷ 0 ∷ 0 ∷ entries

-- the payload of P4
abbrev payload : List ℕ
payload = counted 2 (fourteen ++ three)

-- P5: (3, 1, 0) comes first; in order it is the same; a tail stays behind the entries
pub sorted : (sorted_bytes devices payload ≡ counted 2 (three ++ fourteen))
    × (sorted_bytes devices (counted 2 (three ++ fourteen)) ≡ counted 2 (three ++ fourteen))
    × (sorted_bytes devices (payload ++ (7 ∷ 8 ∷ [])) ≡ counted 2 (three ++ fourteen) ++ (7 ∷ 8 ∷ []))
unfolding read le_at le bytes_of insert split
sorted = (refl, refl, refl)

-- (3, 1, 0) fits, (14, 1, 0) does not, and nothing stands past the end
pub run : (join (fits 34 (map (entry_by devices payload) (21 ∷ 4 ∷ []))) ≡ three) × (join (fits 35 (map (entry_by devices payload) (21 ∷ 99 ∷ 4 ∷ []))) ≡ three ++ fourteen)
unfolding span le_at le
run = (refl, refl)

-- the entries in the order of their starts, and the tail behind them; with one start too few what is left of the list stays behind the entry
pub placed : (by_starts devices (payload ++ (7 ∷ 8 ∷ [])) (21 ∷ 4 ∷ []) ≡ counted 2 (three ++ fourteen) ++ (7 ∷ 8 ∷ [])) × (by_starts devices payload (4 ∷ []) ≡ payload)
unfolding span le_at le
placed = (refl, refl)
