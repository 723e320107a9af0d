-- For contracts of private functions: the payload of a section by the table of sections, a list walked by its entries' lengths, and the list of what is missing.
-- Assumes nothing.
use Rattle.std.specs.Prelude.{◌≡◌, List, [], ◌∷◌, ◌++◌, map, Bool, true, false, not, ◌&&◌, ◌||◌, cond, ℕ, ◌+◌, ◌<◌, length, take, drop, get_or, set, leb, ltb, eqb}
use Rattle.wire.specs.Numbers.{le_at}
use Rattle.wire.specs.Parts.{splice}
use Rattle.format.specs.Format.{Is}
use Rattle.order.specs.Keyed.{Every}
use Rattle.order.specs.Entries.{join}
use Rattle.entries.specs.Kinds.{Description, id_key}
use Rattle.tables.specs.Named.{NamesFramed, Each}
use Rattle.aerosnap.specs.Content.{is_id}
use Rattle.dskc.specs.Wrapper.{wrapper_of}
use Rattle.ready.specs.Missing.{is_taken, name_in, wanted, pair_bytes}

-- ---- the payload of a section

-- b is the table of the sections l of the input s
pub record NamesSections (s : List ℕ) (l : List (List ℕ)) (b : List ℕ) : Type 0 where
  pub rows : List (List ℕ)
  pub bytes : b ≡ join rows
  pub names : Each (NamesFramed s) rows l

-- the payload of the first section with an id; no bytes where none has it
unfoldable pub payload_in : ℕ → List (List ℕ) → List ℕ
payload_in i [] = []
payload_in i (e ∷ l) = elim (is_id i e) [ true ↦ drop 16 e | false ↦ payload_in i l ]

-- ---- a list, walked

-- the bytes s begin with the count of some entries of a kind and with these; no bytes are no entries
pub record Stands (d : Description) (s : List ℕ) (m : List (List ℕ)) : Type 0 where
  pub number : le_at 4 s 0 ≡ length m
  pub rest : List ℕ
  pub cut : drop 4 s ≡ join m ++ rest
  pub are : Every (Is d.form) m

-- what is noted of an id: 0 as long as no entry has it, then where the entry starts that has, 1 once a second one has
abbrev pub mark : ℕ → ℕ → ℕ
mark v at = cond (eqb v 0) at 1

-- notes of the ids below their number, when an entry with an id starts at a place
abbrev pub noted : List ℕ → ℕ → ℕ → List ℕ
noted l id at = cond (ltb id (length l)) (set l id (mark (get_or l id 0) at)) l

-- what is noted of the id k behind entries that stand one after another from a place on, if v was noted of it before
unfoldable pub note_of : ℕ → ℕ → ℕ → List (List ℕ) → ℕ
note_of k v at [] = v
note_of k v at (e ∷ m) = note_of k (cond (eqb (id_key e) k) (mark v at) v) (at + length e) m

-- notes taken of all entries of a list; its first entry starts at 4
abbrev pub NotedAll : List (List ℕ) → List ℕ → List ℕ → Type 0
NotedAll m old new = (k : ℕ) → k < length old → get_or new k 0 ≡ note_of k (get_or old k 0) 4 m

-- ---- what is there

-- the payload of the device that begins the bytes b
abbrev pub payload_from : List ℕ → List ℕ
payload_from b = take (le_at 8 b 8) (drop 16 b)

-- one entry starts at a place of the list s, and its payload is an accepted wrapper; no entry starts before the fourth byte
abbrev pub wrapper_at : List ℕ → ℕ → Bool
wrapper_at s at = leb 4 at && is_taken (wrapper_of (payload_from (drop at s)))

-- something is noted of the id k
abbrev pub seen : ℕ → List (List ℕ) → Bool
seen k m = not (eqb (note_of k 0 4 m) 0)

-- whether each thing that is needed is there, in the order of `names`
abbrev pub found_in : List ℕ → List (List ℕ) → List (List ℕ) → List Bool
found_in s m k = seen 3 m ∷ seen 4 m ∷ wrapper_at s (note_of 6 0 4 m) ∷ seen 13 m ∷ seen 16 m ∷ seen 17 m ∷ (seen 2 m || seen 21 m) ∷ seen 0 k ∷ seen 1 k ∷ []

-- the pairs that name them
abbrev pub names : List (ℕ × ℕ)
names = map name_in wanted

abbrev pub wanted_name : ℕ → ℕ × ℕ
wanted_name i = get_or names i (0, 0)

-- a pair if what it names is missing
abbrev pub pair_for : ℕ × ℕ → Bool → List ℕ
pair_for p there = cond there [] (pair_bytes p)

-- the pairs of all that is missing
unfoldable pub pairs_for : List (ℕ × ℕ) → List Bool → List ℕ
pairs_for [] l = []
pairs_for (p ∷ ps) [] = []
pairs_for (p ∷ ps) (x ∷ l) = pair_for p x ++ pairs_for ps l

-- bs were written over old from a place on, which ends at r
pub record PutAt (bs : List ℕ) (at : ℕ) (old new : List ℕ) (r : ℕ) : Type 0 where
  pub ends : r ≡ at + length bs
  pub bytes : new ≡ splice at bs old
