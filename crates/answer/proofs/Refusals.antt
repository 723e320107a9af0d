-- The refusals have different numbers.
-- Assumes nothing.
use mathlib.Core.Path.{◌≡◌, refl, sym, ◌∙◌, ap}
use mathlib.Core.List.{List, [], ◌∷◌}
use mathlib.Core.Bool.{true, false}
use Prim.Native.Nat.{ℕ}
use lib.Dec.{eqb}
use Rattle.answer.specs.declared.Refusal.{Refusal}
use Rattle.answer.specs.declared.Refusal.TheVariants.{Short, Magic, Version, Endian, Reserved, Size, Cut, Many, Twice, Secver, Shape, Limit, Key, Text, Value, Room, Have, Tag, Region, Big, Full, Empty, Record, Absent, Payload, Card, Turn}
use Rattle.answer.specs.Refusals.{number_of}

-- the first refusal of a list that has a number, and Short if none has
abbrev named_in : List Refusal → ℕ → Refusal
named_in [] n = Short
named_in (r ∷ l) n = elim (eqb n (number_of r)) [ true ↦ r | false ↦ named_in l n ]

abbrev named : ℕ → Refusal
named = named_in (Short ∷ Magic ∷ Version ∷ Endian ∷ Reserved ∷ Size ∷ Cut ∷ Many ∷ Twice ∷ Secver ∷ Shape ∷ Limit ∷ Key ∷ Text ∷ Value ∷ Room ∷ Have ∷ Tag ∷ Region ∷ Big ∷ Full ∷ Empty ∷ Record ∷ Absent ∷ Payload ∷ Card ∷ Turn ∷ [])

named_again : (r : Refusal) → named (number_of r) ≡ r
named_again Short = refl
named_again Magic = refl
named_again Version = refl
named_again Endian = refl
named_again Reserved = refl
named_again Size = refl
named_again Cut = refl
named_again Many = refl
named_again Twice = refl
named_again Secver = refl
named_again Shape = refl
named_again Limit = refl
named_again Key = refl
named_again Text = refl
named_again Value = refl
named_again Room = refl
named_again Have = refl
named_again Tag = refl
named_again Region = refl
named_again Big = refl
named_again Full = refl
named_again Empty = refl
named_again Record = refl
named_again Absent = refl
named_again Payload = refl
named_again Card = refl
named_again Turn = refl

pub number_once : (r s : Refusal) → number_of r ≡ number_of s → r ≡ s
number_once r s e = sym (named_again r) ∙ (ap named e ∙ named_again s)
