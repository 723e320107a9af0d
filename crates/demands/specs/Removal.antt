-- Request 3, taking devices out: removal of one device or disk by key, and replacement of a device's payload under the same key, each beside a card. That an edit is taken exactly if none of its
-- checks fails, that it names the first that does, and that its result is canonical, is said of all edits in Demand 2; Demand 3 goes on reading adds only.
-- Assumes nothing.
use Rattle.std.specs.Prelude.{◌≡◌, true, false, List, [], ℕ, ◌≤◌, length}
use Rattle.answer.specs.Numbers.{ABSENT, is_number}
use Rattle.answer.specs.Outcome.{taken, refused}
use Rattle.order.specs.Keyed.{keep, without}
use Rattle.aerosnap.specs.File.{file_of}
use Rattle.aerosnap.specs.Content.{is_id, Content, content_at, kind_at, id_at, entries_at, tail_at, IsCanonical}
use Rattle.aerosnap.specs.Adding.{Item, Name, device_named, name_of, side_of}
use Rattle.aerosnap.specs.Edits.{key_of, stands, add, remove, replace, apply}
use Rattle.cards.specs.declared.Card.{Card}
use Rattle.cards.specs.Cards.{edit_card}
use Rattle.demands.specs.Beside.{TrueCard, CallBeside}

pub record Removal : Type 0 where
  -- an entry that isn't there is ABSENT at 0, a number of the list, whatever the card is
  pub absent : (have : ℕ) (k : Card) (s : List ℕ) (n : Name) (c : Content) → content_at s ≡ taken c → stands n c ≡ false → edit_card have k s (remove n) ≡ refused ABSENT 0
  pub on_list : is_number ABSENT ≡ true
  -- a removal leaves the other entries of its list, in their order, and no other with that key
  pub leaves : (n : Name) (c : Content) → (entries_at (side_of n) (apply (remove n) c) ≡ without (kind_at (side_of n)).key (key_of n) (entries_at (side_of n) c)) × (stands n (apply (remove n) c) ≡ false)
  -- the last entry's removal removes its section, if that has no tail (and else leaves it with its tail: Tails)
  pub last : (have : ℕ) (s : List ℕ) (k : Card) (n : Name) (b : List ℕ) (j : Card) (c : Content) (l : List (List ℕ)) → CallBeside have s k (remove n) b j → content_at s ≡ taken c → length (entries_at (side_of n) c) ≡ 1
      → tail_at (side_of n) c ≡ [] → file_of b ≡ taken l → keep (is_id (id_at (side_of n))) l ≡ []
  -- removing what was just added to a canonical file beside its true card gives that file's bytes and its card again
  pub undo : (have room : ℕ) (s : List ℕ) (k : Card) (x : Item) (b : List ℕ) (j : Card) → IsCanonical s → TrueCard s k → CallBeside have s k (add x) b j → length s ≤ room → edit_card room j b (remove (name_of x)) ≡ taken (s, k)
  -- a replacement keeps the key and the number of devices, and touches no disk and no other section
  pub keeps : (have : ℕ) (s : List ℕ) (k : Card) (id v f : ℕ) (p b : List ℕ) (j : Card) (c : Content) → CallBeside have s k (replace id v f p) b j → content_at s ≡ taken c
      → (u : Content) × (content_at b ≡ taken u) × (stands (device_named id v f) u ≡ true) × (length u.devices ≡ length c.devices) × (u.disks ≡ c.disks) × (u.rest ≡ c.rest)
  -- replacing twice is replacing once, beside a true card
  pub twice : (have room : ℕ) (s : List ℕ) (k : Card) (b : List ℕ) (i : Card) (d : List ℕ) (j : Card) (id v f : ℕ) (p q : List ℕ) → TrueCard s k → CallBeside have s k (replace id v f p) b i → CallBeside room b i (replace id v f q) d j
      → (more : ℕ) → length d ≤ more → edit_card more k s (replace id v f q) ≡ taken (d, j)
