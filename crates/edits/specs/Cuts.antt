-- For contracts of private functions: what the parts of the code that writes an edited file ask and give.
-- Assumes nothing.
use Rattle.std.specs.Prelude.{◌≡◌, Bool, true, not, cond, List, [], ◌∷◌, ◌++◌, map, ℕ, ◌+◌, ◌-◌, ◌≤◌, leb, length, take, drop}
use Rattle.answer.specs.Numbers.{SIZE, MANY, LIMIT, HAVE, ABSENT}
use Rattle.answer.specs.Outcome.{Outcome, Checks, checked, fitting}
use Rattle.wire.specs.Numbers.{bytes_of}
use Rattle.order.specs.Keyed.{Asc}
use Rattle.order.specs.Entries.{join, starts_from}
use Rattle.entries.specs.Kinds.{payload_most}
use Rattle.lists.specs.Lists.{key_at, list_bytes}
use Rattle.writer.specs.Runs.{entry_by}
use Rattle.aerosnap.specs.declared.Side.{Side}
use Rattle.aerosnap.specs.File.{file_most, sections_most, devices_most, header}
use Rattle.aerosnap.specs.Content.{Content, content_of, secs, render, kind_at, id_at, entries_at, tail_at}
use Rattle.aerosnap.specs.Adding.{device, device_named, side_of, entry_of, there, own_checks}
use Rattle.aerosnap.specs.Edits.{stands, Edit, add, remove, replace, target, news, changed, apply}
use Rattle.sections.specs.Walks.{sections_in}
use Rattle.edits.specs.declared.Edit as code
use Rattle.edits.specs.Edits.{edit_of}
use Rattle.edits.specs.declared.Site.{Site}
use Rattle.edits.specs.declared.Cut.{Cut}
use Rattle.edits.specs.Steps.{frame}
use Rattle.canon.specs.Steps.{ranks}

-- ---- edits by their numbers

-- the same that brings nothing: its target and what it wants are the same
abbrev pub bare : code.Edit → Edit
bare e = edit_of e [] []

-- the list that it changes
abbrev pub side_for : code.Edit → Side
side_for e = side_of (target (bare e))

-- the entry that it brings
abbrev pub entry_for : Edit → List ℕ
entry_for (add x) = entry_of x
entry_for (remove n) = []
entry_for (replace id v f p) = entry_of (device id v f p)

-- ---- what is asked

-- of the new entry alone
abbrev pub own_rows : Edit → Checks
own_rows (add x) = own_checks x
own_rows (remove n) = []
own_rows (replace id v f p) = (leb (length p) payload_most, LIMIT, 0) ∷ []

-- of the key: HAVE and ABSENT stand in one position
abbrev pub key_row : Edit → Content → Bool × ℕ × ℕ
key_row (add x) c = (not (there x c), HAVE, 0)
key_row (remove n) c = (stands n c, ABSENT, 0)
key_row (replace id v f p) c = (stands (device_named id v f) c, ABSENT, 0)

-- of any result: count, DEVICES, sections, size. Those that an edit isn't asked never fail
abbrev pub bound_rows : Side → Content → Checks
bound_rows i u =
    (leb (length (entries_at i u)) (kind_at i).most, LIMIT, 0)
    ∷ (leb (length (list_bytes u.devices ++ u.device_tail)) devices_most, LIMIT, 0)
    ∷ (leb (length (secs u)) sections_most, MANY, 0)
    ∷ (leb (length (render u)) file_most, SIZE, 0)
    ∷ []

-- an edit whose own checks passed, and one whose key did too
abbrev pub bounded_edit : ℕ → Content → Edit → Outcome (List ℕ)
bounded_edit have c e = checked (bound_rows (side_of (target e)) (apply e c)) (fitting have (render (apply e c)))

abbrev pub keyed_edit : ℕ → Content → Edit → Outcome (List ℕ)
keyed_edit have c e = checked (key_row e c ∷ []) (bounded_edit have c e)

-- ---- the list in its file

-- the entries of a file's list, in the order of their keys
abbrev pub old_entries : Side → List ℕ → List (List ℕ)
old_entries i s = entries_at i (content_of (sections_in s))

-- and what follows them
abbrev pub old_tail : Side → List ℕ → List ℕ
old_tail i s = tail_at i (content_of (sections_in s))

-- the bytes at a site of the file, and the starts at its places of the index
abbrev pub site_bytes : List ℕ → Site → List ℕ
site_bytes s w = take (w.end - w.begin) (drop w.begin s)

abbrev pub site_starts : List ℕ → Site → List ℕ
site_starts index w = take (w.last - w.first) (drop w.first index)

-- how long the list's payload is; one that the file has not is its count alone
abbrev pub payload_long : Site → ℕ
payload_long w = cond (leb w.end w.begin) 4 (w.end - w.begin)

-- the site is that of the list: its entries and their keys stand there, its payload is as long, and its tail stands at the end
pub record HoldsList (i : Side) (s index : List ℕ) (w : Site) : Type 0 where
  pub begins : w.begin ≤ w.end
  pub ends : w.end ≤ length s
  pub firsts : w.first ≤ w.last
  pub early : w.first ≤ 4883
  pub lasts : w.last ≤ length index
  pub entries : map (entry_by (kind_at i) (site_bytes s w)) (site_starts index w) ≡ old_entries i s
  pub keys : map (key_at (kind_at i) (site_bytes s w)) (site_starts index w) ≡ map (kind_at i).key (old_entries i s)
  pub asc : Asc (key_at (kind_at i) (site_bytes s w)) 0 (site_starts index w)
  pub long : payload_long w ≡ length (list_bytes (old_entries i s) ++ old_tail i s)
  pub tail-in : length (old_tail i s) ≤ w.end
  pub tail : take (length (old_tail i s)) (drop (w.end - length (old_tail i s)) s) ≡ old_tail i s
  pub small : length s ≤ file_most
  -- where its entries stand in the order of their keys, so do their starts, and the tail behind them
  pub wide : w.straight ≡ true → w.begin + 4 ≤ w.end
  pub starts : w.straight ≡ true → site_starts index w ≡ starts_from 4 (old_entries i s)
  pub standing : w.straight ≡ true → drop 4 (site_bytes s w) ≡ join (old_entries i s) ++ old_tail i s

-- q is the number of an entry of the list, or how many it has; they are few, and its payload is no longer than a file
pub record Fair (w : Site) (q : ℕ) : Type 0 where
  pub order : w.first ≤ w.last
  pub within : q ≤ w.last - w.first
  pub few : w.last - w.first ≤ 4096
  pub places : w.last ≤ 8979
  pub small : payload_long w ≤ file_most

-- the entries from q to r go, and the list then has so many entries and its payload so many bytes
pub record CutBy (w : Site) (q r n m : ℕ) (c : Cut) : Type 0 where
  pub low : c.low ≡ w.first + q
  pub high : c.high ≡ w.first + r
  pub count : c.count ≡ n
  pub bytes : c.bytes ≡ m

-- a cut of the list at a site
pub record Cuts (i : Side) (s index : List ℕ) (w : Site) (c : Cut) : Type 0 where
  pub holds : HoldsList i s index w
  pub first-low : w.first ≤ c.low
  pub low_high : c.low ≤ c.high
  pub high_last : c.high ≤ w.last

-- and it is that of the edit
pub record Lands (e : Edit) (s index : List ℕ) (w : Site) (c : Cut) : Type 0 where
  pub cuts : Cuts (side_of (target e)) s index w c
  pub becomes : changed e (kind_at (side_of (target e))) (old_entries (side_of (target e)) s)
      ≡ take (c.low - w.first) (old_entries (side_of (target e)) s) ++ (map entry_of (news e) ++ drop (c.high - w.first) (old_entries (side_of (target e)) s))
  pub count : c.count ≡ length (changed e (kind_at (side_of (target e))) (old_entries (side_of (target e)) s))
  pub bytes : c.bytes ≡ length (list_bytes (changed e (kind_at (side_of (target e))) (old_entries (side_of (target e)) s)) ++ old_tail (side_of (target e)) s)
  pub most : c.bytes ≤ 2147483648

-- ---- the file with the list changed

-- how many sections and bytes the section of a list has whose payload is so long
abbrev pub shown : ℕ → ℕ
shown m = cond (leb m 4) 0 1

abbrev pub space : ℕ → ℕ
space m = cond (leb m 4) 0 (16 + m)

-- the section of a list of n entries, whose payload has m bytes, up to its entries; nothing where that is the count alone
abbrev pub list_head : ℕ → ℕ → ℕ → List ℕ
list_head id n m = cond (leb m 4) [] (frame id 1 0 m ++ bytes_of 4 n)

-- the file up to the entries of the list
abbrev pub front_bytes : Side → List ℕ → Cut → List ℕ
front_bytes i s c = header ++ (ranks (sections_in s) 0 (id_at i - 1) ++ list_head (id_at i) c.count c.bytes)

-- its entries from one place of the index to another
abbrev pub span_bytes : Side → List ℕ → Site → ℕ → ℕ → List ℕ
span_bytes i s w p n = join (take (n - p) (drop (p - w.first) (old_entries i s)))

-- its entries before the place of an edit, and those behind it
abbrev pub low_bytes : Side → List ℕ → Site → Cut → List ℕ
low_bytes i s w c = join (take (c.low - w.first) (old_entries i s))

abbrev pub high_bytes : Side → List ℕ → Site → Cut → List ℕ
high_bytes i s w c = join (drop (c.high - w.first) (old_entries i s))

-- the file behind that place: those entries and the tail, and the ranks behind the list
abbrev pub back_bytes : Side → List ℕ → Site → Cut → List ℕ
back_bytes i s w c = high_bytes i s w c ++ (old_tail i s ++ ranks (sections_in s) (id_at i) (9 - id_at i))

-- all of it with an entry at that place
abbrev pub file_bytes : Side → List ℕ → Site → Cut → List ℕ → List ℕ
file_bytes i s w c e = front_bytes i s c ++ (low_bytes i s w c ++ (e ++ back_bytes i s w c))

-- so many bytes of the payload come behind the place of an edit
abbrev pub BytesBehind : Side → List ℕ → Site → Cut → ℕ → Type 0
BytesBehind i s w c n = n ≡ length (high_bytes i s w c) + length (old_tail i s)

-- the payload has room for the count, an entry of n bytes and all else that stays
abbrev pub PayloadWith : Side → List ℕ → Site → Cut → ℕ → Type 0
PayloadWith i s w c n = c.bytes ≡ 4 + (length (low_bytes i s w c) + (n + (length (high_bytes i s w c) + length (old_tail i s))))
