-- An edit of a file: a device or a disk more, one fewer, or a device's payload exchanged. What becomes of the content, what is asked, and the canonical file that is written.
-- Assumes nothing.
use Rattle.std.specs.Prelude.{◌≡◌, List, [], ◌∷◌, ◌++◌, map, Bool, true, false, cond, ℕ, length, leb}
use Rattle.answer.specs.Numbers.{SIZE, LIMIT, ABSENT}
use Rattle.answer.specs.Outcome.{Outcome, taken, Checks, checked, after, fitting}
use Rattle.order.specs.Keyed.{without, inserts, has}
use Rattle.entries.specs.Kinds.{Description, payload_most, devices, disks}
use Rattle.lists.specs.Lists.{list_bytes}
use Rattle.aerosnap.specs.File.{file_most, devices_most}
use Rattle.aerosnap.specs.Content.{Content, kind_at, entries_at, with_list, render, content_at}
use Rattle.aerosnap.specs.Adding.{Item, device, disk, Name, device_named, disk_named, name_of, side_of, WideName, entry_of, own_checks, add_checks}

-- the key of every entry of that name, as one number: that of one that holds nothing
abbrev pub key_of : Name → ℕ
key_of (device_named id v f) = devices.key (entry_of (device id v f []))
key_of (disk_named id) = disks.key (entry_of (disk id [] []))

-- an entry of that name is there
abbrev pub stands : Name → Content → Bool
stands n c = has (kind_at (side_of n)).key (key_of n) (entries_at (side_of n) c)

pub data Edit : Type 0 where
  add : Item → Edit
  remove : Name → Edit
  replace : ℕ → ℕ → ℕ → List ℕ → Edit

-- the name that it changes
abbrev pub target : Edit → Name
target (add x) = name_of x
target (remove n) = n
target (replace id v f p) = device_named id v f

-- what stands there afterwards
abbrev pub news : Edit → List Item
news (add x) = x ∷ []
news (remove n) = []
news (replace id v f p) = device id v f p ∷ []

-- whether something has to stand there before
abbrev pub wants : Edit → Bool
wants (add x) = false
wants (remove n) = true
wants (replace id v f p) = true

-- its numbers are as wide as the parameters of a call
abbrev pub WideEdit : Edit → Type 0
WideEdit e = WideName (target e)

-- the entries of its list after it
abbrev pub changed : Edit → Description → List (List ℕ) → List (List ℕ)
changed e d l = inserts d.key (cond (wants e) (without d.key (key_of (target e)) l) l) (map entry_of (news e))

-- the content after it
abbrev pub apply : Edit → Content → Content
apply e c = with_list (side_of (target e)) (changed e (kind_at (side_of (target e))) (entries_at (side_of (target e)) c)) c

-- what is asked of an edit of c that gives u: of an add as ever; of a removal that its entry is there; of a replacement its length, that entry, the DEVICES bound and the size
abbrev pub edit_checks : Edit → Content → Content → Checks
edit_checks (add x) c u = own_checks x ++ add_checks x c u
edit_checks (remove n) c u = (stands n c, ABSENT, 0) ∷ []
edit_checks (replace id v f p) c u =
    (leb (length p) payload_most, LIMIT, 0)
    ∷ (stands (device_named id v f) c, ABSENT, 0)
    ∷ (leb (length (list_bytes u.devices ++ u.device_tail)) devices_most, LIMIT, 0)
    ∷ (leb (length (render u)) file_most, SIZE, 0)
    ∷ []

-- an edit of a content, for an output of so many bytes: its checks, then the room
unfoldable pub edit_to : ℕ → Content → Edit → Outcome (List ℕ)
edit_to have c e = checked (edit_checks e c (apply e c)) (fitting have (render (apply e c)))

-- an edit of a file: the file's faults, then the edit's
unfoldable pub edit_file : ℕ → List ℕ → Edit → Outcome (List ℕ)
edit_file have s e = after (content_at s) (λ c. edit_to have c e)

-- a call that edits the file s, with an output of so many bytes: it is taken, and b is the file that it writes
pub record EditCall (have : ℕ) (s : List ℕ) (e : Edit) (b : List ℕ) : Type 0 where
  pub wide : WideEdit e
  pub accepts : edit_file have s e ≡ taken b

-- ---- adds alone

abbrev pub add_to : ℕ → Content → Item → Outcome (List ℕ)
add_to have c x = edit_to have c (add x)

abbrev pub add_item : ℕ → List ℕ → Item → Outcome (List ℕ)
add_item have s x = edit_file have s (add x)

-- a call of add_device or add_disk
abbrev pub Call : ℕ → List ℕ → Item → List ℕ → Type 0
Call have s x b = EditCall have s (add x) b
