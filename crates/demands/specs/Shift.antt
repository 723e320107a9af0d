-- Request 10, a whole shift's edits: any sequence of adds, removals and replacements from a canonical file, beside its true card and with memory at least as long as each result, answers as
-- a plain map from names to payloads or paths does (crates/aerosnap/specs/Maps.antt). The calls are those that were made (crates/cards/specs/Shifts.antt): each with the memory lent to it,
-- what it answered and what it left there. Many at once are the same edits one by one: Together.antt.
-- Assumes nothing.
use Rattle.std.specs.Prelude.{◌≡◌, true, cond, List, [], ◌∷◌, ℕ}
use Rattle.answer.specs.Outcome.{taken, refused}
use Rattle.wire.specs.Numbers.{Bytes}
use Rattle.aerosnap.specs.Content.{IsCanonical}
use Rattle.aerosnap.specs.Adding.{Name}
use Rattle.aerosnap.specs.Edits.{Edit, target}
use Rattle.aerosnap.specs.Maps.{same_name, Map, find, NamesApart, map_after, held_then, AllElse, map_edit, map_file}
use Rattle.cards.specs.declared.Card.{Card}
use Rattle.cards.specs.Shifts.{CallMade, file_then, CallsMade, map_card, map_then, LongEnough, AsMap}
use Rattle.demands.specs.Beside.{TrueCard}

-- every file of a shift from s is canonical
abbrev pub AllCanonical : List ℕ → List CallMade → Type 0
AllCanonical s [] = Unit {0}
AllCanonical s (q ∷ l) = IsCanonical (file_then s q) × AllCanonical (file_then s q) l

-- The map is a map.
pub record Dictionary : Type 0 where
  -- what is accepted is the map after the edit: its name holds what the edit says, and every other name what it held
  pub gives : (a : AllElse) (m : Map) (e : Edit) (u : Map) → map_edit a m e ≡ taken u → u ≡ map_after e m
  pub holds : (e : Edit) (m : Map) (n : Name) → find n (map_after e m) ≡ cond (same_name n (target e)) (held_then e) (find n m)
  -- names are the same exactly if they are equal
  pub same : (n k : Name) → same_name n k ≡ true → n ≡ k
  pub self : (n : Name) → same_name n n ≡ true
  -- no name stands in it twice
  pub apart : (a : AllElse) (m : Map) (e : Edit) (u : Map) → map_edit a m e ≡ taken u → NamesApart m → NamesApart u
  -- a refused call leaves it
  pub stays : (a : AllElse) (m : Map) (e : Edit) (n p : ℕ) → map_edit a m e ≡ refused n p → map_then m (map_edit a m e) ≡ m

-- The canonical file s, whose true card is k, is the file of the map and all else; the file depends on what names hold alone; and every shift from it answers as the map does.
pub record ShiftFrom (s : List ℕ) (k : Card) : Type 0 where
  pub pairs : Map
  pub all_else : AllElse
  pub apart : NamesApart pairs
  pub file : map_file all_else pairs ≡ s
  pub card : map_card all_else pairs ≡ k
  pub only : (u : Map) → NamesApart u → ((n : Name) → find n pairs ≡ find n u) → map_file all_else u ≡ s
  pub answers : (l : List CallMade) → CallsMade s k l → LongEnough all_else pairs l → AsMap all_else pairs s l
  pub canonical : (l : List CallMade) → CallsMade s k l → AllCanonical s l

pub record Shifts : Type 0 where
  pub dictionary : Dictionary
  pub shift : (s : List ℕ) (k : Card) → Bytes s → IsCanonical s → TrueCard s k → ShiftFrom s k
