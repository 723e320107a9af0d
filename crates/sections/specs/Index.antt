-- The index of a file: where the entries of its lists start.
-- Assumes nothing.
use Rattle.std.specs.Prelude.{◌≡◌, List, [], ◌∷◌, ◌++◌, Bool, cond, ◌||◌, ℕ, zero, suc, ◌+◌, ◌-◌, ◌≤◌, eqb, length, drop}
use Rattle.std.specs.Prelude.{Result}
use Rattle.answer.specs.declared.Fault.{Fault}
use Rattle.answer.specs.Outcome.{Outcome, taken, after}
use Rattle.answer.specs.Calls.{outcome_of}
use Rattle.wire.specs.Numbers.{le_at}
use Rattle.order.specs.Keyed.{flat}
use Rattle.aerosnap.specs.Known.{DEVICES, DISKS, CPUS, MMUS}
use Rattle.aerosnap.specs.Payloads.{body_of}
use Rattle.aerosnap.specs.File.{id_of, version_of, length_of, payload_of, fits_in}
use Rattle.aerosnap.specs.Content.{is_id}
use Rattle.lists.specs.Lists.{whole}
use Rattle.lists.specs.Promises.{lent_after}
use Rattle.payloads.specs.Starts.{starts}
use Rattle.sections.specs.Walks.{counted, place_of}

-- where the entries of a section's list start, counted from its payload, in the order of their keys; none where it is no list
abbrev pub starts_of : List ℕ → List ℕ
starts_of e = starts (body_of (id_of e) (version_of e)) (payload_of e)

-- those of sections one after another, for a buffer that holds so many: those of a list wholly or not at all
abbrev pub kept : ℕ → List (List ℕ) → List ℕ
kept have [] = []
kept have (e ∷ l) = whole have (starts_of e) ++ kept (have - length (whole have (starts_of e))) l

-- the call that reads a file and keeps its starts
abbrev pub kept_in : ℕ → Outcome (List (List ℕ)) → Outcome (List ℕ)
kept_in have r = after r (λ l. taken (kept have l))

-- how many starts stand before those of the first section with an id
abbrev pub first_of : ℕ → List (List ℕ) → ℕ
first_of i [] = 0
first_of i (e ∷ l) = cond (is_id i e) 0 (length (starts_of e) + first_of i l)

-- where the first section with an id starts, of those of a file, and how many starts stand before its own
abbrev pub spot_in : ℕ → Outcome (List (List ℕ)) → Outcome (ℕ × ℕ)
spot_in i r = after r (λ l. taken (place_of i 16 l, first_of i l))

-- the ids of the sections that are lists
abbrev pub is_list_id : ℕ → Bool
is_list_id id = eqb id DEVICES || eqb id DISKS || eqb id CPUS || eqb id MMUS

-- how many entries the section that begins b says that it has: none where it is no list
abbrev pub count_in : List ℕ → ℕ
count_in b = cond (is_list_id (id_of b)) (le_at 4 b 16) 0

-- from a place on the index holds the starts of the sections l
pub record Reading (l : List (List ℕ)) (index : List ℕ) (used : ℕ) : Type 0 where
  pub rest : List ℕ
  pub inside : used ≤ length index
  pub same : drop used index ≡ flat starts_of l ++ rest

-- how many entries the at most n sections of b say that they have, up to one that does not fit
unfoldable pub counts : ℕ → List ℕ → ℕ
counts zero b = 0
counts (suc n) b = cond (fits_in b) (count_in b + counts n (drop (16 + length_of b) b)) 0

-- the promise of the call that reads sections: how many there are, and their starts in the lent places that held `old`
pub record Scanned (o : Outcome (List (List ℕ))) (old : List ℕ) (r : Result ℕ Fault) (new : List ℕ) : Type 0 where
  pub answers : outcome_of r ≡ counted o
  pub leaves : new ≡ lent_after (kept_in (length old) o) old

-- the promise of the call that looks for the section with an id: where it starts and how many starts stand before its own, and all starts in the lent places that held `old`
pub record Spotted (i : ℕ) (o : Outcome (List (List ℕ))) (old : List ℕ) (r : Result (ℕ × ℕ) Fault) (new : List ℕ) : Type 0 where
  pub answers : outcome_of r ≡ spot_in i o
  pub leaves : new ≡ lent_after (kept_in (length old) o) old
