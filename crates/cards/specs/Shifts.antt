-- A whole shift: calls in turn, each on the file and beside the card that the last one gave, and what a plain map answers instead.
-- Assumes nothing.
use Rattle.std.specs.Prelude.{◌≡◌, List, [], ◌∷◌, cond, ℕ, ◌≤◌, length, take, eqb}
use Rattle.answer.specs.Outcome.{Outcome, taken, refused}
use Rattle.order.specs.Keyed.{weigh}
use Rattle.aerosnap.specs.Edits.{Edit, WideEdit}
use Rattle.aerosnap.specs.Maps.{Map, AllElse, one_device, payload_length, map_sections, map_size, map_edit, map_file}
use Rattle.cards.specs.declared.Card.{Card}
use Rattle.cards.specs.declared.Edited.{Edited}
use Rattle.cards.specs.Cards.{edit_card, WritesBeside}

-- ---- the calls

-- A call that was made: its edit, the memory that was lent, what it answered, and what stands in that memory then.
pub record CallMade : Type 0 where
  pub edit : Edit
  pub lent : List ℕ
  pub answer : Edited
  pub left : List ℕ

-- the file that its caller has then: the first `place` bytes of the memory where the number is 0, and else the one that was there
abbrev pub file_then : List ℕ → CallMade → List ℕ
file_then s q = cond (eqb q.answer.number 0) (take q.answer.place q.left) s

-- calls in turn from the file s and the card k
abbrev pub CallsMade : List ℕ → Card → List CallMade → Type 0
CallsMade s k [] = Unit {0}
CallsMade s k (q ∷ l) = WideEdit q.edit × WritesBeside k (0, edit_card (length q.lent) k s q.edit) q.lent q.answer q.left × CallsMade (file_then s q) q.answer.card l

-- ---- the map

-- the card of its state, by counting
abbrev pub map_card : AllElse → Map → Card
map_card a m = record { length = map_size a m; sections = map_sections a m; devices = weigh one_device m; payloads = weigh payload_length m }

-- a refused call leaves the map
abbrev pub map_then : Map → Outcome Map → Map
map_then m (taken u) = u
map_then m (refused n p) = m

-- its number, and its place: how many bytes the file has then
abbrev pub map_number : Outcome Map → ℕ
map_number (taken u) = 0
map_number (refused n p) = n

abbrev pub map_place : AllElse → Outcome Map → ℕ
map_place a (taken u) = map_size a u
map_place a (refused n p) = p

-- each lent memory is at least as long as the result of its call
abbrev pub LongEnough : AllElse → Map → List CallMade → Type 0
LongEnough a m [] = Unit {0}
LongEnough a m (q ∷ l) = ((u : Map) → map_edit a m q.edit ≡ taken u → map_size a u ≤ length q.lent) × LongEnough a (map_then m (map_edit a m q.edit)) l

-- a call on the file s answered as the map m does: its number and its place; the file then is that of the map and all else, and the card that of the map
pub record AnswersAs (a : AllElse) (m : Map) (s : List ℕ) (q : CallMade) : Type 0 where
  pub number : q.answer.number ≡ map_number (map_edit a m q.edit)
  pub place : q.answer.place ≡ map_place a (map_edit a m q.edit)
  pub index : q.answer.index ≡ 0
  pub file : file_then s q ≡ map_file a (map_then m (map_edit a m q.edit))
  pub card : q.answer.card ≡ map_card a (map_then m (map_edit a m q.edit))

-- every call of a shift
abbrev pub AsMap : AllElse → Map → List ℕ → List CallMade → Type 0
AsMap a m s [] = Unit {0}
AsMap a m s (q ∷ l) = AnswersAs a m s q × AsMap a (map_then m (map_edit a m q.edit)) (file_then s q) l
