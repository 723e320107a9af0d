-- Request 8, twenty devices at once: one call takes a file, a table of the new entries and a second buffer, and answers as adding them one by one would.
-- Assumes nothing.
use Rattle.std.specs.Prelude.{◌≡◌, ◌↔◌, ◌⊎◌, true, ℕ, ◌/◌, ◌%◌, ◌≤◌, ◌<◌, length, take}
use mathlib.Core.List.{List, ◌∷◌, ◌++◌, Permᴰ, Perm}
use Rattle.answer.specs.Numbers.{ROOM, PAYLOAD, is_number}
use Rattle.answer.specs.Outcome.{taken, refused, room, First}
use Rattle.wire.specs.Numbers.{Bytes}
use Rattle.order.specs.Keyed.{Every}
use Rattle.order.specs.Adding.{Chain}
use Rattle.aerosnap.specs.declared.NewDevice.{NewDevice}
use Rattle.aerosnap.specs.Content.{Content, content_at, render, IsCanonical}
use Rattle.aerosnap.specs.Adding.{grown}
use Rattle.aerosnap.specs.Edits.{add, apply, edit_checks, Call}
use Rattle.aerosnap.specs.Many.{new_devices, is_inside, new_item, new_items, Inside, new_calls, further, Beyond, add_new, RefusedAt, many, one_pass}
use Rattle.aerosnap.specs.Calls.{canonical_call}
use Rattle.cards.specs.declared.Card.{Card}
use Rattle.cards.specs.declared.Edited.{Edited}
use Rattle.cards.specs.Cards.{WritesBeside}
use Rattle.cards.specs.Whole.{add_all_card, many_card}
use Rattle.newcomers.specs.Records.{records_of, WideEntry}
use Rattle.demands.specs.Beside.{TrueCard}

pub record Together : Type 0 where
  -- the entries of a table, 24 bytes each; a part record at the end is no entry
  pub count : (t : List ℕ) → length (new_devices t) ≡ length t / 24
  pub part : (t u : List ℕ) → length t % 24 ≡ 0 → length u < 24 → new_devices (t ++ u) ≡ new_devices t
  -- a table with no entry yields the canonical form, with index 0
  pub none : (have : ℕ) (s t store : List ℕ) → length t < 24 → many have s t store ≡ (0, canonical_call have s)
  -- else it is taken exactly if every payload lies within the second buffer and adding the entries one by one, each with the room of the output, is taken: with the same bytes, and index 0
  pub taken_as : (have : ℕ) (s t store : List ℕ) (i : ℕ) (b : List ℕ) → Bytes t → 24 ≤ length t
      → (many have s t store ≡ (i, taken b)) ↔ ((i ≡ 0) × Inside store (new_devices t) × Chain Call s (new_calls have store (new_devices t)) b)
  -- and refused exactly as the first entry that is refused one by one, with its index
  pub refused_as : (have : ℕ) (s t store : List ℕ) (i n p : ℕ) → Bytes t → 24 ≤ length t → (many have s t store ≡ (i, refused n p)) ↔ RefusedAt have s (new_devices t) store i n p
  -- an entry is refused for the file's fault, else for the first check that fails: where its payload lies, then as any add, room last
  pub entry : (have : ℕ) (s store : List ℕ) (x : NewDevice) (n p : ℕ)
      → (add_new have s store x ≡ refused n p)
      ↔ ((content_at s ≡ refused n p)
      ⊎ ((c : Content) × (content_at s ≡ taken c) × First ((is_inside store x, PAYLOAD, 0) ∷ (edit_checks (add (new_item store x)) c (apply (add (new_item store x)) c) ++ room have (length (render (apply (add (new_item store x)) c))))) n p))
  -- the file's faults carry index 0, and no index passes 4096
  pub faults : (have : ℕ) (s t store : List ℕ) (n p : ℕ) → content_at s ≡ refused n p → many have s t store ≡ (0, refused n p)
  pub small : (have : ℕ) (s t store : List ℕ) → Bytes t → (many have s t store).0 ≤ 4096
  -- ROOM names what the entry with the index needs: with so much memory the call gets beyond it
  pub room_is : (have : ℕ) (s t store : List ℕ) (i p : ℕ) → Bytes t → many have s t store ≡ (i, refused ROOM p) → (have < p) × Beyond i (many p s t store)
  -- one pass over the table computes it, whatever the file is
  pub one-pass : (have : ℕ) (s t store : List ℕ) → Bytes t → many have s t store ≡ further (0, content_at s) (λ c. one_pass have c (new_devices t) store)
  -- the final content is the old one and the entries, and the final file its rendering
  pub final : (have : ℕ) (s t store : List ℕ) (i : ℕ) (b : List ℕ) (c : Content) → Bytes t → content_at s ≡ taken c → many have s t store ≡ (i, taken b)
      → (content_at b ≡ taken (grown c (new_items store (new_devices t)))) × (render (grown c (new_items store (new_devices t))) ≡ b) × IsCanonical b
  -- demand 3 for tables, from a canonical file beside its true card; the sets are of keys and payload bytes, wherever these lie
  pub any-table : (have room : ℕ) (s t u store other : List ℕ) (k : Card) (i : ℕ) (b : List ℕ) (j : Card) → IsCanonical s → TrueCard s k → Bytes t → Bytes u → many_card have k s t store ≡ (i, taken (b, j))
      → Permᴰ (new_items store (new_devices t)) (new_items other (new_devices u)) → Inside other (new_devices u) → length b ≤ room → many_card room k s u other ≡ (0, taken (b, j))
  pub no_two_tables : (have room : ℕ) (s t u store other : List ℕ) (k : Card) (i j : ℕ) (b : List ℕ) (x y : Card) → IsCanonical s → TrueCard s k → Bytes t → Bytes u → many_card have k s t store ≡ (i, taken (b, x))
      → many_card room k s u other ≡ (j, taken (b, y)) → Perm (new_items store (new_devices t)) (new_items other (new_devices u))
  -- a call that answers 0 is one that the definition takes, and its file is the first `place` bytes of the lent memory; and one that the definition takes, made with any lent memory of that length, answers so
  pub made : (s t store : List ℕ) → Bytes t → (k : Card) (old new : List ℕ) (r : Edited) → WritesBeside k (many_card (length old) k s t store) old r new → r.number ≡ 0
      → many_card (length old) k s t store ≡ (0, taken (take r.place new, r.card))
  pub makes : (s t store : List ℕ) (k : Card) (old new : List ℕ) (r : Edited) (i : ℕ) (b : List ℕ) (j : Card) → many_card (length old) k s t store ≡ (i, taken (b, j)) → WritesBeside k (many_card (length old) k s t store) old r new
      → (r.number ≡ 0) × (r.index ≡ 0) × (take r.place new ≡ b) × (r.card ≡ j)
  -- entries that are structs, each number as wide as its field: their records are read back as these, so that the call over structs answers as that over the bytes of their records
  pub structs : (have : ℕ) (k : Card) (s : List ℕ) (l : List NewDevice) (store : List ℕ) → Every WideEntry l → (new_devices (records_of l) ≡ l) × (add_all_card have k s l store ≡ many_card have k s (records_of l) store)
  -- and of more than 4097 the first 4097 alone tell the answer
  pub first : (have : ℕ) (k : Card) (s : List ℕ) (l : List NewDevice) (store : List ℕ) → Every WideEntry (take 4097 l) → add_all_card have k s (take 4097 l) store ≡ add_all_card have k s l store
  -- a number of the list
  pub on_list : is_number PAYLOAD ≡ true
