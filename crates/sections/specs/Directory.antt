-- The parts of a file as the code finds them: the directory at the front of an index says where the sections stand that are kept, and records of what is lost stand in a lent buffer.
-- Assumes nothing.
use Rattle.std.specs.Prelude.{◌≡◌, List, [], ◌∷◌, ◌++◌, cond, ℕ, ◌+◌, ◌-◌, ◌≤◌, leb, eqb, length, drop, get_or}
use Rattle.answer.specs.Numbers.{ROOM}
use Rattle.answer.specs.Outcome.{Outcome, taken, refused, checked, after}
use Rattle.std.specs.Prelude.{Result, Option, Some, None}
use Rattle.answer.specs.declared.Fault.{Fault}
use Rattle.answer.specs.Calls.{outcome_of}
use Rattle.answer.specs.Refusals.{number_of}
use Rattle.order.specs.Keyed.{weigh}
use Rattle.lists.specs.Lists.{whole}
use Rattle.aerosnap.specs.Known.{known}
use Rattle.aerosnap.specs.File.{header_checks, id_of, file_of}
use Rattle.aerosnap.specs.Content.{content_of, secs, render}
use Rattle.aerosnap.specs.Salvage.{Part, keeps, loses, parts_of, all_kept, loss_rows}
use Rattle.sections.specs.declared.Losses.{Losses}
use Rattle.sections.specs.Index.{starts_of, kept}

-- the places of an index that its directory takes
abbrev pub directory_places : ℕ
directory_places = 19

-- a section that is kept: its id, where it starts in the file, and at which place of the index the starts of its list begin
pub record Seat : Type 0 where
  pub id : ℕ
  pub place : ℕ
  pub first : ℕ

-- the seats of the sections that are kept of parts: the first part starts at a place, and the next start goes to the place n of the index, where so many are left
abbrev pub seats : ℕ → ℕ → ℕ → List Part → List Seat
seats at n have [] = []
seats at n have (keeps e ∷ l) = record { id = id_of e; place = at; first = n } ∷ seats (at + length e) (n + length (whole have (starts_of e))) (have - length (whole have (starts_of e))) l
seats at n have (loses k e ∷ l) = seats (at + length e) n have l

-- what f says of the seat with an id, 0 where there is none
abbrev pub seat_of : (Seat → ℕ) → ℕ → List Seat → ℕ
seat_of f i [] = 0
seat_of f i (x ∷ l) = cond (eqb x.id i) (f x) (seat_of f i l)

-- how many sections have an id that is not known
abbrev pub others_in : List (List ℕ) → ℕ
others_in l = weigh (λ e. cond (known (id_of e)) 0 1) l

-- The index that held `old` after the parts l were found: how many other sections there are; where each known one starts and where the starts of its list begin;
-- how many sections and bytes the canonical form of what is kept has; and the starts.
pub record Directory (l : List Part) (old new : List ℕ) : Type 0 where
  pub long : length new ≡ length old
  pub others : get_or new 0 0 ≡ others_in (all_kept l)
  pub places : (i : ℕ) → 1 ≤ i → i ≤ 8 → get_or new i 0 ≡ seat_of (λ x. x.place) i (seats 16 directory_places (length old - directory_places) l)
  pub firsts : (i : ℕ) → 1 ≤ i → i ≤ 8 → get_or new (i + 8) 0 ≡ seat_of (λ x. x.first) i (seats 16 directory_places (length old - directory_places) l)
  pub sections : get_or new 17 0 ≡ length (secs (content_of (all_kept l)))
  pub bytes : get_or new 18 0 ≡ length (render (content_of (all_kept l)))
  pub starts : drop directory_places new ≡ kept (length old - directory_places) (all_kept l) ++ drop (length (kept (length old - directory_places) (all_kept l))) (drop directory_places old)

-- records one after another, for a buffer that holds so many bytes: each wholly or not at all
abbrev pub loss_rows_in : ℕ → List (List ℕ) → List ℕ
loss_rows_in have [] = []
loss_rows_in have (r ∷ l) = whole have r ++ loss_rows_in (have - length (whole have r)) l

-- the parts of a file whose header has no fault, for an index that has room for the directory
abbrev pub parts_in : ℕ → List ℕ → Outcome (List Part)
parts_in have s = checked (header_checks s) (checked ((leb directory_places have, ROOM, directory_places) ∷ []) (taken (parts_of s)))

-- what is answered of parts: nothing is lost where the reader takes the file, else how many parts are, and the reader's refusal
abbrev pub losses_of : Outcome (List (List ℕ)) → List Part → Option (ℕ × ℕ × ℕ)
losses_of (taken l) parts = None
losses_of (refused n p) parts = Some (length (loss_rows 16 parts), n, p)

abbrev pub division_of : List ℕ → Outcome (List Part) → Outcome (Option (ℕ × ℕ × ℕ))
division_of s o = after o (λ l. taken (losses_of (file_of s) l))

-- what the code's own answers stand for
abbrev pub lost_of : Option Losses → Option (ℕ × ℕ × ℕ)
lost_of None = None
lost_of (Some l) = Some (l.parts, number_of l.first.0, l.first.1)

abbrev pub divided_of : Result (Option Losses) Fault → Outcome (Option (ℕ × ℕ × ℕ))
divided_of r = after (outcome_of r) (λ l. taken (lost_of l))

-- the lent places and bytes afterwards; a refusal leaves them as they were
abbrev pub IndexAfter : Outcome (List Part) → List ℕ → List ℕ → Type 0
IndexAfter (taken l) old new = Directory l old new
IndexAfter (refused n p) old new = new ≡ old

abbrev pub rows_after : Outcome (List Part) → List ℕ → List ℕ
rows_after (taken l) old = loss_rows_in (length old) (loss_rows 16 l) ++ drop (length (loss_rows_in (length old) (loss_rows 16 l))) old
rows_after (refused n p) old = old

-- the promise of the call that finds the parts of s: what is lost, the index that held `old`, and as many records as stand whole in the buffer that held `rows`
pub record Divides (s old rows : List ℕ) (r : Result (Option Losses) Fault) (new after-rows : List ℕ) : Type 0 where
  pub answers : divided_of r ≡ division_of s (parts_in (length old) s)
  pub index : IndexAfter (parts_in (length old) s) old new
  pub records : after-rows ≡ rows_after (parts_in (length old) s) rows

-- the same as a verdict
abbrev pub verdict_of : Option (ℕ × ℕ × ℕ) → Outcome (Unit {0})
verdict_of None = taken tt
verdict_of (Some (k, n, p)) = refused n p

-- the promise of the call that makes the index of a file that is taken
pub record IndexesFile (s old : List ℕ) (r : Result (Unit {0}) Fault) (new : List ℕ) : Type 0 where
  pub answers : outcome_of r ≡ after (division_of s (parts_in (length old) s)) verdict_of
  pub index : IndexAfter (parts_in (length old) s) old new
