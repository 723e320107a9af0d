-- A list: a count, as many entries, and a tail, which only some kinds may have. One reader and one writer for every kind of entry.
-- Places count from the list's start.
-- Assumes nothing.
use Rattle.std.specs.Prelude.{◌≡◌, List, [], ◌∷◌, ◌++◌, Bool, true, not, ◌||◌, cond, ℕ, zero, suc, ◌≤◌, length, drop, leb}
use Rattle.answer.specs.Numbers.{SHAPE, LIMIT, KEY, SIZE}
use Rattle.answer.specs.Outcome.{Outcome, taken, refused, Checks, checked, after, shift}
use Rattle.wire.specs.Numbers.{le_at, bytes_of}
use Rattle.format.specs.Format.{read, Is}
use Rattle.order.specs.Keyed.{weigh, insert, has, Apart, Every}
use Rattle.order.specs.Entries.{join, split}
use Rattle.entries.specs.Kinds.{Description, lead_checks}

-- the key of the entry that starts at a place
abbrev pub key_at : Description → List ℕ → ℕ → ℕ
key_at d s at = d.key (drop at s)

-- what is asked of the entry that begins b before its lengths are read, where its key came before or not
abbrev pub entry_checks : Description → Bool → List ℕ → Checks
entry_checks d again b = lead_checks d b ++ ((not again, KEY, 0) ∷ [])

-- an entry after those that start at seen: where it ends, or its first fault
unfoldable pub entry_at : Description → List ℕ → ℕ → List ℕ → Outcome ℕ
entry_at d s at seen = shift at (checked (entry_checks d (has (key_at d s) (key_at d s at) seen) (drop at s)) (read d.form (drop at s)))

-- whether the entries may end at a place: what follows is a tail, or nothing is left over
abbrev pub ends_at : Description → List ℕ → ℕ → Bool
ends_at d s at = not d.closed || leb (length s) at

-- asked last, at the first byte left over
abbrev pub end_checks : Description → List ℕ → ℕ → Checks
end_checks d s at = (ends_at d s at, SHAPE, at) ∷ []

-- n entries from at on, after those that start at seen; then the end. The answer: where entries start, in the order of their keys
unfoldable pub walk : Description → List ℕ → ℕ → ℕ → List ℕ → Outcome (List ℕ)
walk d s zero at seen = checked (end_checks d s at) (taken seen)
walk d s (suc n) at seen = after (entry_at d s at seen) (λ e. walk d s n e (insert (key_at d s) at seen))

abbrev pub count_checks : Description → List ℕ → Checks
count_checks d s = (leb 4 (length s), SHAPE, 0) ∷ (leb (le_at 4 s 0) d.most, LIMIT, 0) ∷ []

-- the list that s is: where its entries start, in the order of their keys
unfoldable pub list_at : Description → List ℕ → Outcome (List ℕ)
list_at d s = checked (count_checks d s) (walk d s (le_at 4 s 0) 4 [])

-- the starts of a list that was taken; none of one that was refused
abbrev pub starts_in : Outcome (List ℕ) → List ℕ
starts_in (taken l) = l
starts_in (refused n p) = []

-- the length of the entry that begins b
abbrev pub width_of : Description → List ℕ → ℕ
width_of d b = elim (read d.form b) [ taken w ↦ w | refused n p ↦ 0 ]

-- the entries of a list, in the order in which they stand there
abbrev pub entries : Description → List ℕ → List (List ℕ)
entries d s = split (width_of d) (le_at 4 s 0) (drop 4 s)

-- what follows the last entry; nothing in it is looked at
abbrev pub tail_of : Description → List ℕ → List ℕ
tail_of d s = drop (weigh length (entries d s)) (drop 4 s)

-- entries as a list
abbrev pub list_bytes : List (List ℕ) → List ℕ
list_bytes l = bytes_of 4 (length l) ++ join l

-- s is a list, with no word of how it is read: a count within its bound, as many entries one after another, no key twice, and a tail, empty in a closed kind
pub record IsList (d : Description) (s : List ℕ) : Type 0 where
  pub count : 4 ≤ length s
  pub few : le_at 4 s 0 ≤ d.most
  pub items : List (List ℕ)
  pub tail : List ℕ
  pub number : le_at 4 s 0 ≡ length items
  pub cut : drop 4 s ≡ join items ++ tail
  pub are : Every (Is d.form) items
  pub apart : Apart d.key items
  pub ended : d.closed ≡ true → tail ≡ []

-- a file has at most 1024 MiB
abbrev pub file_most : ℕ
file_most = 1073741824

-- a list's slice is at most as long as a file may be
abbrev pub part_checks : List ℕ → Checks
part_checks s = (leb (length s) file_most, SIZE, 0) ∷ []

-- all of l, or none where it has more than so many
abbrev pub whole : ℕ → List ℕ → List ℕ
whole have l = cond (leb (length l) have) l []

-- the call that indexes a list: the starts, for a buffer that holds so many; none where it holds fewer
abbrev pub index_of : Description → ℕ → List ℕ → Outcome (List ℕ)
index_of d have s = checked (part_checks s) (after (list_at d s) (λ l. taken (whole have l)))
