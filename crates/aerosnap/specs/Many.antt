-- Many devices at once: the table of the new entries, adding them one by one, and what one pass over the table computes of it.
-- Assumes nothing.
use Rattle.std.specs.Prelude.{◌≡◌, List, [], ◌∷◌, ◌++◌, map, Bool, true, not, cond, ◌&&◌, ◌||◌, ℕ, zero, suc, ◌+◌, ◌-◌, ◌/◌, ◌<◌, length, take, drop, leb}
use Rattle.answer.specs.Numbers.{SIZE, MANY, LIMIT, HAVE, PAYLOAD}
use Rattle.answer.specs.Outcome.{Outcome, taken, refused, Checks, checked, after, room, fitting}
use Rattle.answer.specs.Calls.{asked}
use Rattle.wire.specs.Numbers.{le_at}
use Rattle.order.specs.Keyed.{Every, has}
use Rattle.order.specs.Adding.{Chain}
use Rattle.entries.specs.Kinds.{payload_most, devices}
use Rattle.lists.specs.Lists.{list_bytes}
use Rattle.aerosnap.specs.declared.NewDevice.{NewDevice}
use Rattle.aerosnap.specs.File.{file_most, sections_most, devices_most}
use Rattle.aerosnap.specs.Content.{is_absent, Content, secs, render, content_at, canonical}
use Rattle.aerosnap.specs.Adding.{Item, device, Name, device_named, grown}
use Rattle.aerosnap.specs.Edits.{key_of, add_to, Call}

-- ---- the table

-- the entry at a place of the table: u32 id, u16 version, u16 flags, u64 place, u64 length
abbrev pub new_device_at : List ℕ → ℕ → NewDevice
new_device_at t at = record { id = le_at 4 t at; version = le_at 2 t (at + 4); flags = le_at 2 t (at + 6); place = le_at 8 t (at + 8); length = le_at 8 t (at + 16) }

-- n entries, the first of them at a place
unfoldable pub new_devices_from : ℕ → ℕ → List ℕ → List NewDevice
new_devices_from zero at t = []
new_devices_from (suc n) at t = new_device_at t at ∷ new_devices_from n (at + 24) t

-- the entries of a table, 24 bytes each; a part record at the end is no entry
abbrev pub new_devices : List ℕ → List NewDevice
new_devices t = new_devices_from (length t / 24) 0 t

-- its payload lies within the second buffer; an empty one may lie at its very end
abbrev pub is_inside : List ℕ → NewDevice → Bool
is_inside store x = leb x.place (length store) && leb x.length (length store - x.place)

-- what is added
abbrev pub new_name : NewDevice → Name
new_name x = device_named x.id x.version x.flags

abbrev pub new_item : List ℕ → NewDevice → Item
new_item store x = device x.id x.version x.flags (take x.length (drop x.place store))

abbrev pub new_items : List ℕ → List NewDevice → List Item
new_items store = map (new_item store)

-- every payload lies within the second buffer
abbrev pub Inside : List ℕ → List NewDevice → Type 0
Inside store = Every (λ x. is_inside store x ≡ true)

-- the calls that the entries stand for, each with the room of the output
abbrev pub new_calls : ℕ → List ℕ → List NewDevice → List (ℕ × Item)
new_calls have store = map (λ x. (have, new_item store x))

-- ---- one by one

-- an answer with an index: what is taken goes on, what is refused is refused with that index
abbrev pub further : {A B : Type 0} → ℕ × Outcome A → (A → ℕ × Outcome B) → ℕ × Outcome B
further (i, taken a) next = next a
further (i, refused n p) next = (i, refused n p)

-- it is taken, or refused at an entry behind number i
abbrev pub Beyond : {A : Type 0} → ℕ → ℕ × Outcome A → Type 0
Beyond i (j, taken a) = Unit {0}
Beyond i (j, refused n p) = i < j

-- an entry added to a file, for an output of so many bytes: the file's faults, where its payload lies, then as any add
unfoldable pub add_new : ℕ → List ℕ → List ℕ → NewDevice → Outcome (List ℕ)
add_new have s store x = after (content_at s) (λ c. checked ((is_inside store x, PAYLOAD, 0) ∷ []) (add_to have c (new_item store x)))

-- the entries from number i on, each added to the file that the last one gave
unfoldable pub add_each : ℕ → List ℕ → ℕ → List NewDevice → List ℕ → ℕ × Outcome (List ℕ)
add_each have s i [] store = (0, taken s)
add_each have s i (x ∷ l) store = further (i, add_new have s store x) (λ b. add_each have b (suc i) l store)

-- the entry with the number i is refused: those before it were added one by one, and led to a file
pub record RefusedAt (have : ℕ) (s : List ℕ) (l : List NewDevice) (store : List ℕ) (i n p : ℕ) : Type 0 where
  pub before : List NewDevice
  pub entry : NewDevice
  pub behind : List NewDevice
  pub split : l ≡ before ++ (entry ∷ behind)
  pub number : length before ≡ i
  pub inside : Inside store before
  pub file : List ℕ
  pub added : Chain Call s (new_calls have store before) file
  pub refuses : add_new have file store entry ≡ refused n p

-- all of them; where there is none, the canonical form
unfoldable pub add_all : ℕ → List ℕ → List NewDevice → List ℕ → ℕ × Outcome (List ℕ)
add_all have s [] store = (0, canonical have s)
add_all have s (x ∷ l) store = add_each have s 0 (x ∷ l) store

-- the call: the file s, the table t of the new entries, and the second buffer
abbrev pub many : ℕ → List ℕ → List ℕ → List ℕ → ℕ × Outcome (List ℕ)
many have s t store = add_all have s (new_devices t) store

-- ---- one pass

-- The sections and the bytes of the file that would be written by now, the entries of its DEVICES list, and the bytes of that list's payload.
pub record Tally : Type 0 where
  pub sections : ℕ
  pub size : ℕ
  pub count : ℕ
  pub bytes : ℕ

-- that of a content whose DEVICES section is made, if it isn't there: with it a pass begins
abbrev pub opened : Content → Tally
opened c = record {
  sections = length (secs c) + cond (is_absent c.devices c.device_tail) 1 0;
  size = length (render c) + cond (is_absent c.devices c.device_tail) 20 0;
  count = length c.devices;
  bytes = length (list_bytes c.devices ++ c.device_tail);
}

-- with an entry more, whose payload has n bytes
abbrev pub grow : ℕ → Tally → Tally
grow n k = record { sections = k.sections; size = k.size + (16 + n); count = suc k.count; bytes = k.bytes + (16 + n) }

-- what is asked of an entry, by numbers alone: whether its key came before in the table, whether it is in the file, and the tally with it
abbrev pub pass_checks : ℕ → List ℕ → Bool → Bool → Tally → NewDevice → Checks
pass_checks have store again old k x =
    (is_inside store x, PAYLOAD, 0)
    ∷ (leb x.length payload_most, LIMIT, 0)
    ∷ (not (again || old), HAVE, 0)
    ∷ (leb k.count devices.most, LIMIT, 0)
    ∷ (leb k.bytes devices_most, LIMIT, 0)
    ∷ (leb k.sections sections_most, MANY, 0)
    ∷ (leb k.size file_most, SIZE, 0)
    ∷ room have k.size

-- the key of an entry, and whether one of some keys is that
abbrev pub new_key : NewDevice → ℕ
new_key x = key_of (new_name x)

abbrev pub is_seen : ℕ → List ℕ → Bool
is_seen = has (λ k. k)

-- one pass over the entries from number i on: the first refusal and its index, or the tally at the end. `old` are the devices of the file, `seen` the keys of the entries before
unfoldable pub pass : ℕ → List ℕ → List (List ℕ) → List ℕ → Tally → ℕ → List NewDevice → ℕ × Outcome Tally
pass have store old seen k i [] = (0, taken k)
pass have store old seen k i (x ∷ l) =
    further (i, asked (pass_checks have store (is_seen (new_key x) seen) (has devices.key (new_key x) old) (grow x.length k) x))
    (λ _. pass have store old (new_key x ∷ seen) (grow x.length k) (suc i) l)

-- all of them into a content: nothing is written before the pass is done
unfoldable pub one_pass : ℕ → Content → List NewDevice → List ℕ → ℕ × Outcome (List ℕ)
one_pass have c [] store = (0, fitting have (render c))
one_pass have c (x ∷ l) store = further (pass have store c.devices [] (opened c) 0 (x ∷ l)) (λ _. (0, taken (render (grown c (new_items store (x ∷ l))))))
