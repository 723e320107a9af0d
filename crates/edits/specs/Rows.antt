-- For contracts of private functions: what the parts of the code ask and give that add the rows of a table.
-- Assumes nothing.
use Rattle.std.specs.Prelude.{◌≡◌, ◌⊎◌, Bool, true, ◌||◌, List, [], ◌∷◌, ◌++◌, ℕ, zero, suc, ◌+◌, ◌-◌, ◌*◌, ◌/◌, ◌≤◌, ◌<◌, eqb, length, take, drop, get_or}
use Rattle.answer.specs.Outcome.{Outcome, taken, after, room}
use Rattle.std.specs.Prelude.{Result, Ok, Err}
use Rattle.answer.specs.declared.Fault.{Fault}
use Rattle.answer.specs.Calls.{asked, outcome_of, fault_of}
use Rattle.wire.specs.Numbers.{bytes_of}
use Rattle.wire.specs.Parts.{Wrote}
use Rattle.order.specs.Entries.{join}
use Rattle.order.specs.Keyed.{Every}
use Rattle.entries.specs.Kinds.{devices}
use Rattle.sorting.specs.Sorting.{arranged_most}
use Rattle.lists.specs.Promises.{find_in}
use Rattle.aerosnap.specs.declared.NewDevice.{NewDevice}
use Rattle.aerosnap.specs.declared.Side.TheVariants.{OfDevices}
use Rattle.aerosnap.specs.File.{file_most, sections_most}
use Rattle.aerosnap.specs.Adding.{entry_of, grown}
use Rattle.lists.specs.Lists.{key_at, list_bytes}
use Rattle.aerosnap.specs.Many.{new_device_at, new_devices, new_item, new_items, add_all, new_key, is_inside, is_seen, Tally, grow, pass_checks, pass}
use Rattle.edits.specs.declared.Site.{Site}
use Rattle.edits.specs.declared.Extent.{Extent}
use Rattle.edits.specs.declared.Change.{Change}
use Rattle.canon.specs.Steps.{ranks}
use Rattle.edits.specs.Plans.{Modest}
use Rattle.sections.specs.Walks.{sections_in}
use Rattle.sections.specs.Steps.{WholeFile}
use Rattle.aerosnap.specs.Content.{Content, content_of, secs, render}
use Rattle.edits.specs.Cuts.{old_entries, old_tail, payload_long, shown, space, HoldsList, front_bytes}
use Rattle.cards.specs.declared.Refused.{Refused}

-- ---- the rows of a table

-- the row with a number
abbrev pub table_row : List ℕ → ℕ → NewDevice
table_row t i = new_device_at t (24 * i)

-- places hold the starts of the first rows
abbrev pub HoldsRows : List ℕ → Type 0
HoldsRows l = (j : ℕ) → j < length l → get_or l j 0 ≡ 24 * j

-- the keys of the first i rows, the last of them first
abbrev pub seen_by : List ℕ → ℕ → List ℕ
seen_by t zero = []
seen_by t (suc i) = new_key (table_row t i) ∷ seen_by t i

-- the first r rows have keys of their own, and the next one, if it is looked at, has the key of one of them
abbrev pub OwnKeys : List ℕ → ℕ → Type 0
OwnKeys t r = (i : ℕ) → i < length t / 24 → i ≤ 4096 → i ≤ r → is_seen (new_key (table_row t i)) (seen_by t i) ≡ eqb i r

-- ---- the pass

-- the numbers after i rows, whose entries have g bytes
abbrev pub tallied_by : Site → Extent → ℕ → ℕ → Tally
tallied_by w x i g = record {
  sections = x.sections - shown (payload_long w) + 1;
  size = x.bytes - space (payload_long w) + (16 + (payload_long w + g));
  count = w.last - w.first + i;
  bytes = payload_long w + g;
}

-- these numbers are small
pub record Modestly (w : Site) (x : Extent) (i g : ℕ) : Type 0 where
  pub order : w.first ≤ w.last
  pub places : w.last ≤ 8979
  pub few : i ≤ 4096
  pub shows : shown (payload_long w) ≤ x.sections
  pub sections : x.sections ≤ sections_most
  pub takes : space (payload_long w) ≤ x.bytes
  pub bytes : x.bytes ≤ file_most
  pub small : payload_long w + g ≤ file_most

-- a row is asked, beside those before it and the file's devices
abbrev pub RowAsked : ℕ → List ℕ → NewDevice → Bool → Tally → ℕ → Result ℕ Fault → Type 0
RowAsked have store x known k g r = (again old : Bool) → known ≡ (again || old) → outcome_of r ≡ after (asked (pass_checks have store again old (grow x.length k) x)) (λ _. taken (g + (16 + x.length)))

-- all rows are asked
abbrev pub pass_of : ℕ → List ℕ → List ℕ → List (List ℕ) → Site → Extent → ℕ × Outcome Tally
pass_of have t store old w x = pass have store old [] (tallied_by w x 0 0) 0 (new_devices t)

-- what is known when every row passed
pub record PassedBy (o : ℕ × Outcome Tally) (t : List ℕ) (r : ℕ) (w : Site) (x : Extent) (g : ℕ) : Type 0 where
  pub goes : o ≡ (0, taken (tallied_by w x (length t / 24) g))
  pub own : length t / 24 ≤ r
  pub many : w.last - w.first + length t / 24 ≤ 4096
  pub modest : Modestly w x (length t / 24) g

abbrev pub CountedBy : ℕ × Outcome Tally → List ℕ → ℕ → Site → Extent → Result ℕ Refused → Type 0
CountedBy o t r w x (Err f) = (o ≡ (f.index, fault_of f.fault)) × (f.index ≤ 4096)
CountedBy o t r w x (Ok g) = PassedBy o t r w x g

-- ---- the bytes

-- a device's entry whose first eight bytes are one number
abbrev pub keyed_entry : ℕ → List ℕ → List ℕ
keyed_entry key p = bytes_of 8 key ++ (bytes_of 8 (length p) ++ p)

-- the entry of the row that starts at a place
abbrev pub row_entry : List ℕ → List ℕ → ℕ → List ℕ
row_entry t store y = entry_of (new_item store (new_device_at t y))

-- how many of some entries stand before it
abbrev pub place_in : Result ℕ ℕ → ℕ
place_in (Ok p) = p
place_in (Err p) = p

abbrev pub before : List ℕ → ℕ → List (List ℕ) → ℕ
before t y old = place_in (find_in devices.key (key_at devices t y) old)

-- the entries before it, and it
abbrev pub turn_bytes : List ℕ → List ℕ → ℕ → List (List ℕ) → List ℕ
turn_bytes t store y old = join (take (before t y old) old) ++ row_entry t store y

-- the rows that start at some places, one after another, each behind those of the old entries that go before it
unfoldable pub turns : List ℕ → List ℕ → List ℕ → List (List ℕ) → List ℕ
turns t store [] old = join old
turns t store (y ∷ l) old = turn_bytes t store y old ++ turns t store l (drop (before t y old) old)

-- the rows stand within the table, and their payloads within the second buffer
abbrev pub InsideAt : List ℕ → List ℕ → List ℕ → Type 0
InsideAt t store = Every (λ y. (is_inside store (new_device_at t y) ≡ true) × (y + 24 ≤ length t))

-- of all bytes a part was written over the start of `old`, n of them, and the rest is to come
pub record Begun (all rest old new : List ℕ) (n : ℕ) : Type 0 where
  pub part : List ℕ
  pub whole : all ≡ part ++ rest
  pub wrote : Wrote part old new n

-- the old entries from the place p of the index on
abbrev pub old_from : List ℕ → Site → ℕ → List (List ℕ)
old_from s w p = drop (p - w.first) (old_entries OfDevices s)

-- ---- the whole

-- the content of a file with all rows of a table
abbrev pub with_rows : List ℕ → List ℕ → List ℕ → Content
with_rows t store s = grown (content_of (sections_in s)) (new_items store (new_devices t))

-- a table that may be written, for an output of so many bytes: its starts in the order of their keys, the file, and the numbers before and after
pub record TableReady (have : ℕ) (t store starts s index : List ℕ) (x : Change) : Type 0 where
  pub whole : WholeFile s index
  pub holds : HoldsList OfDevices s index x.site
  pub inside : InsideAt t store starts
  pub goes : add_all have s (new_devices t) store ≡ (0, taken (render (with_rows t store s)))
  pub file : render (with_rows t store s) ≡ front_bytes OfDevices s x.cut ++ (turns t store starts (old_entries OfDevices s) ++ (old_tail OfDevices s ++ ranks (sections_in s) 4 5))
  pub payload : x.cut.bytes ≡ 4 + (length (turns t store starts (old_entries OfDevices s)) + length (old_tail OfDevices s))
  pub most : length (render (with_rows t store s)) ≤ file_most
  pub room : length (render (with_rows t store s)) ≤ have
  pub modest : Modest x
  pub count : x.cut.count ≡ length (with_rows t store s).devices
  pub long : x.cut.bytes ≡ length (list_bytes (with_rows t store s).devices ++ old_tail OfDevices s)
  pub old_sections : x.old.sections ≡ length (secs (content_of (sections_in s)))
  pub old_bytes : x.old.bytes ≡ length (render (content_of (sections_in s)))
  pub new_sections : x.new.sections ≡ length (secs (with_rows t store s))
  pub new_bytes : x.new.bytes ≡ length (render (with_rows t store s))

abbrev pub PreparedBy : ℕ → List ℕ → List ℕ → List ℕ → List ℕ → List ℕ → Result Change Refused → Type 0
PreparedBy have t store starts s index (Err f) = (add_all have s (new_devices t) store ≡ (f.index, fault_of f.fault)) × (f.index ≤ 4096)
PreparedBy have t store starts s index (Ok x) = TableReady have t store starts s index x

-- so many places for the starts of the rows: one for each, or more than a list may have
pub record RowsFor (t : List ℕ) (n : ℕ) : Type 0 where
  pub few : n ≤ arranged_most
  pub rows : n ≤ length t / 24
  pub all : (length t / 24 ≤ n) ⊎ (n ≡ arranged_most)

-- what is planned where every row passed, by the numbers
abbrev pub StandsAt : Site → Extent → ℕ → ℕ → ℕ → Result Change Fault → Type 0
StandsAt w e m g have (Err f) = fault_of f ≡ asked (room have (e.bytes - space (payload_long w) + space (payload_long w + g)))
StandsAt w e m g have (Ok x) = (x.site ≡ w) × (x.old ≡ e) × (x.cut.count ≡ w.last - w.first + m) × (x.cut.bytes ≡ payload_long w + g)
    × (x.new.sections ≡ e.sections - shown (payload_long w) + shown (payload_long w + g)) × (x.new.bytes ≡ e.bytes - space (payload_long w) + space (payload_long w + g)) × (x.new.bytes ≤ have)
