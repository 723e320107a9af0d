-- Each promise fixes its answer and all of the lent memory: any two that it allows are equal.
-- Assumes nothing.
use mathlib.Core.Path.{◌≡◌}
use mathlib.Core.Bool.{Bool, not, ◌||◌}
use mathlib.Core.List.{List}
use Prim.Native.Nat.{ℕ}
use lib.Dec.{leb, eqb}
use lib.ListN.{drop, get_or}
use Rattle.std.proofs.Common.{Result, Option}
use Rattle.answer.specs.declared.Fault.{Fault}
use Rattle.answer.specs.Outcome.{Outcome}
use Rattle.aerosnap.specs.File.{devices_most, fits_in}
use Rattle.answer.proofs.Once.{equal_once, outcome_once}
use Rattle.sections.specs.declared.Losses.{Losses}
use Rattle.sections.specs.declared.Places.{Places}
use Rattle.sections.specs.Places.{places_for}
use Rattle.sections.specs.Directory.{Divides, IndexesFile}
use Rattle.sections.proofs.Directories.{divides_once, indexes_once}
use Rattle.sections.specs.Index.{is_list_id, counts, Scanned, Spotted}

pub small_once : (id n : ℕ) {r p : Bool} → r ≡ (not (eqb id 4) || leb n devices_most) → p ≡ (not (eqb id 4) || leb n devices_most) → r ≡ p
small_once id n e f = equal_once e f

pub scan_once : {o : Outcome (List (List ℕ))} {old : List ℕ} (r p : Result ℕ Fault) {new now : List ℕ} → Scanned o old r new → Scanned o old p now → (r ≡ p) × (new ≡ now)
scan_once r p a b = (outcome_once r p (equal_once a.answers b.answers), equal_once a.leaves b.leaves)

pub is_list_once : (id : ℕ) {r p : Bool} → r ≡ is_list_id id → p ≡ is_list_id id → r ≡ p
is_list_once id e f = equal_once e f

pub check_and_find_once : (i : ℕ) {o : Outcome (List (List ℕ))} {old : List ℕ} (r p : Result (ℕ × ℕ) Fault) {new now : List ℕ} → Spotted i o old r new → Spotted i o old p now → (r ≡ p) × (new ≡ now)
check_and_find_once i r p a b = (outcome_once r p (equal_once a.answers b.answers), equal_once a.leaves b.leaves)

pub places_for_once : (s : List ℕ) (most : ℕ) {r p : Places} → r ≡ places_for (counts most (drop 16 s)) → p ≡ places_for (counts most (drop 16 s)) → r ≡ p
places_for_once s most e f = equal_once e f

pub noted_once : (index : List ℕ) (i : ℕ) {r p : ℕ} → r ≡ get_or index i 0 → p ≡ get_or index i 0 → r ≡ p
noted_once index i e f = equal_once e f

pub fits_once : (s : List ℕ) (at : ℕ) {r p : Bool} → r ≡ fits_in (drop at s) → p ≡ fits_in (drop at s) → r ≡ p
fits_once s at e f = equal_once e f

pub divide_once : (s old rows : List ℕ) (r p : Result (Option Losses) Fault) {new now recs lines : List ℕ} → Divides s old rows r new recs → Divides s old rows p now lines → (r ≡ p) × (new ≡ now) × (recs ≡ lines)
divide_once s old rows r p a b = divides_once s old rows r p a b

pub index_file_once : (s old : List ℕ) (r p : Result (Unit {0}) Fault) {new now : List ℕ} → IndexesFile s old r new → IndexesFile s old p now → (r ≡ p) × (new ≡ now)
index_file_once s old r p a b = indexes_once s old r p a b
