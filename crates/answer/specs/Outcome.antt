-- The outcome of a definition: what was asked for, or the number and the place of the first check that fails.
-- Assumes nothing.
use Rattle.std.specs.Prelude.{◌≡◌, ◌⊎◌, List, [], ◌∷◌, ◌++◌, Bool, true, false, ℕ, zero, suc, ◌+◌, leb, length}
use Rattle.answer.specs.Numbers.{ROOM, is_fault}

-- `refused n p`: the refusal's number and its place
pub data Outcome (A : Type 0) : Type 0 where
  taken : A → Outcome A
  refused : ℕ → ℕ → Outcome A

-- what is refused is refused for a fault of the input
abbrev pub Faulty : {A : Type 0} → Outcome A → Type 0
Faulty (taken a) = Unit {0}
Faulty (refused n p) = is_fault n ≡ true

-- checks in their order: each a test, and the number and the place that it gives where it is false
abbrev pub Checks : Type 0
Checks = List (Bool × ℕ × ℕ)

-- the first check that fails, or what comes after them all
abbrev pub checked : {A : Type 0} → Checks → Outcome A → Outcome A
checked [] next = next
checked (c ∷ l) next = elim c.0 [ true ↦ checked l next | false ↦ refused c.1 c.2 ]

-- none of the checks fails
abbrev pub Pass : Checks → Type 0
Pass [] = Unit {0}
Pass (c ∷ l) = (c.0 ≡ true) × Pass l

-- what is taken goes on to the next definition
abbrev pub after : {A B : Type 0} → Outcome A → (A → Outcome B) → Outcome B
after (taken a) next = next a
after (refused n p) next = refused n p

-- the same, its place counted from k bytes earlier
abbrev pub moved : {A : Type 0} → ℕ → Outcome A → Outcome A
moved k (taken a) = taken a
moved k (refused n p) = refused n (k + p)

-- the same where what is taken is a place too
abbrev pub shift : ℕ → Outcome ℕ → Outcome ℕ
shift k r = after (moved k r) (λ e. taken (k + e))

-- taken or not, whatever is taken
abbrev pub done : {A : Type 0} → Outcome A → Outcome (Unit {0})
done r = after r (λ _. taken tt)

-- the last check of a call that writes: `have` bytes of output hold the `need` that are to be written
abbrev pub room : ℕ → ℕ → Checks
room have need = (leb need have, ROOM, need) ∷ []

-- bytes for an output that holds so many
abbrev pub fitting : ℕ → List ℕ → Outcome (List ℕ)
fitting have b = checked (room have (length b)) (taken b)

-- the checks of 0, of 1, .. up to the n-th
unfoldable pub each : (ℕ → Checks) → ℕ → Checks
each f zero = []
each f (suc n) = each f n ++ f n

-- checks are asked in their order, and this is the first that fails
pub record First (rows : Checks) (n p : ℕ) : Type 0 where
  pub before : Checks
  pub behind : Checks
  pub split : rows ≡ before ++ ((false, n, p) ∷ behind)
  pub passed : Pass before

-- the first of some checks that fails; or all of them pass, and the fault comes from behind them
abbrev pub FirstOr : Checks → ℕ → ℕ → Type 0 → Type 0
FirstOr rows n p behind = First rows n p ⊎ (Pass rows × behind)

-- the fault of a part that starts at a place
abbrev pub FaultAt : {A : Type 0} → ℕ → Outcome A → ℕ → ℕ → Type 0
FaultAt at o n p = (q : ℕ) × (o ≡ refused n q) × (p ≡ at + q)
