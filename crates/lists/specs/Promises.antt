-- What the calls promise: a list indexed, and a place found in an index.
-- Assumes nothing.
use Rattle.std.specs.Prelude.{◌≡◌, Bool, true, false, List, [], ◌∷◌, ◌++◌, ℕ, zero, suc, ◌+◌, ◌-◌, ◌/◌, ◌≤◌, ◌<◌, leb, eqb, length, take, drop, get_or, replicate}
use Rattle.std.specs.Prelude.{Result, Ok, Err}
use Rattle.answer.specs.declared.Fault.{Fault}
use Rattle.answer.specs.Numbers.{HAVE, ABSENT}
use Rattle.answer.specs.Outcome.{Outcome, taken, refused, after}
use Rattle.answer.specs.Calls.{outcome_of}
use Rattle.order.specs.Keyed.{has, sort, Apart}
use Rattle.sorting.specs.Sorting.{arranged_most}

-- so many zeros
abbrev pub zeros : ℕ → List ℕ
zeros n = replicate n 0

-- the lent places after it: the starts, and behind them what was there; a refusal leaves all as it was
abbrev pub lent_after : Outcome (List ℕ) → List ℕ → List ℕ
lent_after (taken l) old = l ++ drop (length l) old
lent_after (refused n p) old = old

-- the promise of the call that indexes a list: how many starts, and the starts in the lent places that held `old`
pub record Indexed (o : Outcome (List ℕ)) (old : List ℕ) (r : Result ℕ Fault) (new : List ℕ) : Type 0 where
  pub answers : outcome_of r ≡ after o (λ l. taken (length l))
  pub leaves : new ≡ lent_after o old

-- the same place, counted from i elements earlier
abbrev pub later : ℕ → Result ℕ ℕ → Result ℕ ℕ
later i (Ok p) = Ok (i + p)
later i (Err p) = Err (i + p)

-- where an entry with the key k goes: before the first whose key is not below k, unless that one has the key itself
unfoldable pub find_in : {E : Type 0} → (E → ℕ) → ℕ → List E → Result ℕ ℕ
find_in key k [] = Err 0
find_in key k (y ∷ l) = elim (eqb k (key y)) [ true ↦ Ok 0 | false ↦ elim (leb k (key y)) [ true ↦ Err 0 | false ↦ later 1 (find_in key k l) ] ]

-- what a search by halves finds that has so many starts from lo on before it: it looks at the middle one, and if that has another key goes on before it or behind it
unfoldable pub halves : (ℕ → ℕ) → ℕ → List ℕ → ℕ → ℕ → ℕ → Result ℕ ℕ
halves key k l zero lo many = Err lo
halves key k l (suc turns) lo zero = Err lo
halves key k l (suc turns) lo (suc n) = elim (eqb k (key (get_or l (lo + suc n / 2) 0))) [
  | true ↦ Ok (lo + suc n / 2)
  | false ↦ elim (leb k (key (get_or l (lo + suc n / 2) 0))) [ true ↦ halves key k l turns lo (suc n / 2) | false ↦ halves key k l turns (suc (lo + suc n / 2)) (n - suc n / 2) ]
]

-- where an entry with the key k goes, by halves, within as many turns as there are starts: in ascending keys the place that `find_in` has
abbrev pub halves_in : (ℕ → ℕ) → ℕ → List ℕ → Result ℕ ℕ
halves_in key k l = halves key k l (length l) 0 (length l)

-- the documents' number and place for each answer, by whether an entry with the key is wanted: one that is there then, or else its place, is taken; a key that is wanted and isn't there is ABSENT, one that is there unwanted HAVE
abbrev pub found_of : Bool → Result ℕ ℕ → Outcome ℕ
found_of true (Ok i) = taken i
found_of true (Err i) = refused ABSENT 0
found_of false (Ok i) = refused HAVE 0
found_of false (Err i) = taken i

-- the answer r is the place f, whichever is wanted
abbrev pub Finds : Result ℕ ℕ → Result ℕ ℕ → Type 0
Finds r f = (wanted : Bool) → found_of wanted r ≡ found_of wanted f

-- The first r of the starts `old` have keys of their own, and the next one, if it is looked at, has the key of one of them; the first r are then sorted, and the others stay.
pub record Arranged (key : ℕ → ℕ) (old : List ℕ) (r : ℕ) (new : List ℕ) : Type 0 where
  pub within : r ≤ length old
  pub few : r ≤ arranged_most
  pub apart : Apart key (take r old)
  pub again : r < length old → r < arranged_most → has key (key (get_or old r 0)) (take r old) ≡ true
  pub leaves : new ≡ sort key (take r old) ++ drop r old
