-- For contracts of private functions, here and in the crates that write by a directory: what is asked of an index, and what the parts of the code give that walk over a file and find its parts.
-- Assumes nothing.
use Rattle.std.specs.Prelude.{◌≡◌, cond, ◌&&◌, List, [], ◌++◌, ℕ, ◌+◌, ◌-◌, ◌≤◌, eqb, length, drop, get_or, set}
use Rattle.answer.specs.Outcome.{Outcome, taken, refused, Pass, after}
use Rattle.answer.specs.Calls.{outcome_of, fault_of}
use Rattle.std.specs.Prelude.{Result, Ok, Err, Option, Some, None}
use Rattle.answer.specs.declared.Fault.{Fault}
use Rattle.order.specs.Keyed.{flat, has}
use Rattle.aerosnap.specs.Known.{known}
use Rattle.aerosnap.specs.File.{header_checks, sections_most, slot_of, section_of, sections, file_of}
use Rattle.aerosnap.specs.Salvage.{read_part, parts_of, all_kept, loss_rows}
use Rattle.aerosnap.specs.Content.{content_of, secs, render}
use Rattle.sections.specs.declared.Losses.{Losses}
use Rattle.sections.specs.Walks.{Read}
use Rattle.sections.specs.Index.{starts_of, kept, is_list_id}
use Rattle.sections.specs.Directory.{directory_places, seats, seat_of, others_in, loss_rows_in, losses_of, lost_of, Directory}

-- the marks say which slots are taken by the n sections before
pub record Marks (m : List ℕ) (before : List (List ℕ)) (n : ℕ) : Type 0 where
  pub long : length m ≡ 9
  pub count : n ≡ length before
  pub says : (i : ℕ) → 1 ≤ i → i ≤ 8 → has slot_of i before ≡ eqb (get_or m i 0) 1

-- the sections behind the header
abbrev pub walked_from : List ℕ → Outcome (List (List ℕ))
walked_from s = sections sections_most [] 16 (drop 16 s)

-- a section read, of which the outcome is o, and its starts k kept: how many, or the fault; and unless there is one, they stand first in the lent places that held `old`, which a fault leaves as they were
pub record Keeps {A : Type 0} (o : Outcome A) (k old : List ℕ) (r : Result ℕ Fault) (new : List ℕ) : Type 0 where
  pub answers : outcome_of r ≡ after o (λ _. taken (length k))
  pub leaves : (a : A) → o ≡ taken a → new ≡ k ++ drop (length k) old
  pub stays : (n p : ℕ) → o ≡ refused n p → new ≡ old

-- so many places hold all starts of s, where it is a file that is taken
abbrev pub HoldsStarts : List ℕ → ℕ → Type 0
HoldsStarts s n = (l : List (List ℕ)) → file_of s ≡ taken l → length (flat starts_of l) ≤ n

-- how many bytes are written of a section of w bytes: none of a list whose payload is its count alone
abbrev pub written_size : ℕ → ℕ → ℕ
written_size id w = cond (is_list_id id && eqb w 20) 0 w

-- a directory with one section more: a known one at its id, another counted
abbrev pub seated : ℕ → ℕ → ℕ → List ℕ → List ℕ
seated id at first d = cond (known id) (set (set d id at) (id + 8) first) (set d 0 (get_or d 0 0 + 1))

-- and the sections and bytes that are written
abbrev pub tallied : ℕ → List ℕ → List ℕ
tallied size d = set (set d 17 (get_or d 17 0 + cond (eqb size 0) 0 1)) 18 (get_or d 18 0 + size)

-- the sections that are kept of a file
abbrev pub held : List ℕ → List (List ℕ)
held s = all_kept (parts_of s)

-- so many places of an index have room for the directory and all starts of what is kept
pub record HoldsKept (s : List ℕ) (n : ℕ) : Type 0 where
  pub directory : directory_places ≤ n
  pub starts : length (flat starts_of (held s)) ≤ n - directory_places

-- the same of a file whose header may have a fault
pub record HoldsParts (s : List ℕ) (n : ℕ) : Type 0 where
  pub directory : directory_places ≤ n
  pub starts : Pass (header_checks s) → length (flat starts_of (held s)) ≤ n - directory_places

-- the index has the directory of what is kept of s, and all starts of its lists
pub record HasDirectory (s index : List ℕ) : Type 0 where
  pub passes : Pass (header_checks s)
  pub old : List ℕ
  pub directory : Directory (parts_of s) old index
  pub room : HoldsKept s (length old)

-- all of s is taken, and the index has its directory and all starts of its lists
pub record WholeFile (s index : List ℕ) : Type 0 where
  pub read : Read s
  pub filed : HasDirectory s index

-- ---- what the parts of the code ask and give that find the parts of a file

-- the first fault stays; before there is one, it is the reader's own of a part at a place that is lost for a fault, after n sections that are kept
pub record FirstFound (s : List ℕ) (at n : ℕ) (f : Fault) (r : Result (Unit {0}) Fault) : Type 0 where
  pub fault : Fault
  pub is : r ≡ Err fault
  pub reader : (l : List (List ℕ)) → n ≡ length l → read_part l at (drop at s) ≡ fault_of f → section_of l at (drop at s) ≡ fault_of fault

abbrev pub FirstOf : Result (Unit {0}) Fault → List ℕ → ℕ → ℕ → Fault → Result (Unit {0}) Fault → Type 0
FirstOf (Err g) s at n f r = r ≡ Err g
FirstOf (Ok _) s at n f r = FirstFound s at n f r

-- what is answered where so many parts are lost
abbrev pub losses_by : Result (Unit {0}) Fault → ℕ → Option Losses
losses_by (Err f) k = Some (record { parts = k; first = f })
losses_by (Ok _) k = None

-- the parts of a file: the directory d alone, and the starts and records in what held `old` and `rows`. The bytes of the header are not counted yet.
pub record Parted (s d old new rows after-rows : List ℕ) (r : Option Losses) : Type 0 where
  pub long : length d ≡ directory_places
  pub others : get_or d 0 0 ≡ others_in (all_kept (parts_of s))
  pub places : (i : ℕ) → 1 ≤ i → i ≤ 8 → get_or d i 0 ≡ seat_of (λ x. x.place) i (seats 16 directory_places (length old) (parts_of s))
  pub firsts : (i : ℕ) → 1 ≤ i → i ≤ 8 → get_or d (i + 8) 0 ≡ seat_of (λ x. x.first) i (seats 16 directory_places (length old) (parts_of s))
  pub sections : get_or d 17 0 ≡ length (secs (content_of (all_kept (parts_of s))))
  pub bytes : 16 + get_or d 18 0 ≡ length (render (content_of (all_kept (parts_of s))))
  pub starts : new ≡ kept (length old) (all_kept (parts_of s)) ++ drop (length (kept (length old) (all_kept (parts_of s)))) old
  pub records : after-rows ≡ loss_rows_in (length rows) (loss_rows 16 (parts_of s)) ++ drop (length (loss_rows_in (length rows) (loss_rows 16 (parts_of s)))) rows
  pub losses : lost_of r ≡ losses_of (walked_from s) (parts_of s)
  pub small : get_or d 18 0 + 16 ≤ length s

-- the same of the whole index
pub record Divided (s old new rows after-rows : List ℕ) (r : Option Losses) : Type 0 where
  pub index : Directory (parts_of s) old new
  pub records : after-rows ≡ loss_rows_in (length rows) (loss_rows 16 (parts_of s)) ++ drop (length (loss_rows_in (length rows) (loss_rows 16 (parts_of s)))) rows
  pub losses : lost_of r ≡ losses_of (walked_from s) (parts_of s)
