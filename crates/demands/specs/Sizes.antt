-- Request 12, sizes kept up to date: a card with a canonical file's length, sections, devices and summed device payload goes in and comes back with every edit, alone or many at once.
-- Assumes nothing.
use Rattle.std.specs.Prelude.{◌≡◌, ◌≢◌, ◌↔◌, true, List, ℕ, ◌+◌, ◌*◌, length}
use Rattle.answer.specs.Numbers.{CARD, is_number}
use Rattle.answer.specs.Outcome.{taken, refused, First}
use Rattle.wire.specs.Numbers.{Bytes, le_at}
use Rattle.order.specs.Keyed.{weigh}
use Rattle.order.specs.Entries.{join}
use Rattle.aerosnap.specs.Edits.{Edit, WideEdit, edit_file}
use Rattle.aerosnap.specs.Many.{many}
use Rattle.aerosnap.specs.Calls.{check_call, sections_call, devices_call, canonical_call}
use Rattle.cards.specs.declared.Card.{Card}
use Rattle.cards.specs.Cards.{open_file, card_checks, edit_card, bytes_beside}
use Rattle.cards.specs.Whole.{many_card}
use Rattle.demands.specs.Beside.{TrueCard}

-- the table t of the devices of a file has so many records, and the lengths in them add up to so many bytes
pub record DevicesShown (k : Card) (t : List ℕ) : Type 0 where
  pub rows : List (List ℕ)
  pub bytes : t ≡ join rows
  pub count : length rows ≡ k.devices
  pub sum : weigh (λ row. le_at 8 row 16) rows ≡ k.payloads

-- each number of a card has moved from k to j as that of the true one from a to b
pub record MovesAs (a b k j : Card) : Type 0 where
  pub length_moves : j.length + a.length ≡ k.length + b.length
  pub sections_move : j.sections + a.sections ≡ k.sections + b.sections
  pub devices_move : j.devices + a.devices ≡ k.devices + b.devices
  pub payloads_move : j.payloads + a.payloads ≡ k.payloads + b.payloads

pub record Sizes : Type 0 where
  -- opening an accepted file makes the true card of its canonical form b: what a fresh walk of b finds. Its length; its sections, as the reader counts them; its devices and the sum of
  -- their lengths, as its tables show them
  pub opens : (s : List ℕ) (l : List (List ℕ)) → check_call s ≡ taken l → (k : Card) × TrueCard s k
  pub faults : (s : List ℕ) (n p : ℕ) → (open_file s ≡ refused n p) ↔ (check_call s ≡ refused n p)
  pub same : (have : ℕ) (s b : List ℕ) (k : Card) → canonical_call have s ≡ taken b → TrueCard s k → TrueCard b k
  pub walked : (have : ℕ) (s b : List ℕ) (k : Card) → canonical_call have s ≡ taken b → TrueCard s k → (k.length ≡ length b) × ((l : List (List ℕ)) × (check_call b ≡ taken l) × (k.sections ≡ length l))
  pub sections : (have room : ℕ) (s b t : List ℕ) (k : Card) → canonical_call have s ≡ taken b → TrueCard s k → sections_call room b ≡ taken t → length t ≡ 32 * k.sections
  pub devices : (have room : ℕ) (s b t : List ℕ) (k : Card) → Bytes b → canonical_call have s ≡ taken b → TrueCard s k → devices_call room b ≡ taken t → DevicesShown k t
  -- beside a true card an edit answers as without one: the same bytes, or the same number and place; 28 never comes, and the card that comes back is the true one of the file written
  pub as_without : (have : ℕ) (s : List ℕ) (k : Card) (e : Edit) → TrueCard s k → WideEdit e → bytes_beside (edit_card have k s e) ≡ edit_file have s e
  pub stays_true : (have : ℕ) (s : List ℕ) (k : Card) (e : Edit) (b : List ℕ) (j : Card) → TrueCard s k → WideEdit e → edit_card have k s e ≡ taken (b, j) → TrueCard b j
  pub never : (have : ℕ) (s : List ℕ) (k : Card) (e : Edit) (n p : ℕ) → TrueCard s k → WideEdit e → edit_card have k s e ≡ refused n p → n ≢ CARD
  -- beside any card the bytes are the same, and each number moves by what the edit changes in the canonical form
  pub bytes : (have : ℕ) (k j : Card) (s : List ℕ) (e : Edit) (b : List ℕ) → edit_card have k s e ≡ taken (b, j) → edit_file have s e ≡ taken b
  pub moves : (have : ℕ) (k j : Card) (s : List ℕ) (e : Edit) (b : List ℕ) (x y : Card) → WideEdit e → edit_card have k s e ≡ taken (b, j) → TrueCard s x → TrueCard b y → MovesAs x y k j
  -- what is refused without a card is refused so beside every card
  pub refused_so : (have : ℕ) (k : Card) (s : List ℕ) (e : Edit) (n p : ℕ) → edit_file have s e ≡ refused n p → edit_card have k s e ≡ refused n p
  -- 28 comes last: where the edit is taken without a card and one of its numbers leaves its bounds
  pub card : (have : ℕ) (k : Card) (s : List ℕ) (e : Edit) (p : ℕ) (x y : Card) (b : List ℕ) → WideEdit e → TrueCard s x → edit_file have s e ≡ taken b → TrueCard b y
      → (edit_card have k s e ≡ refused CARD p) ↔ First (card_checks k x y) CARD p
  -- the same of many at once, whose card is asked of the whole, with index 0
  pub many_as_without : (have : ℕ) (s t store : List ℕ) (k : Card) → Bytes t → TrueCard s k
      → ((many_card have k s t store).0 ≡ (many have s t store).0) × (bytes_beside (many_card have k s t store).1 ≡ (many have s t store).1)
  pub many-stays_true : (have : ℕ) (s t store : List ℕ) (k : Card) (i : ℕ) (b : List ℕ) (j : Card) → Bytes t → TrueCard s k → many_card have k s t store ≡ (i, taken (b, j)) → TrueCard b j
  pub many_never : (have : ℕ) (s t store : List ℕ) (k : Card) (i n p : ℕ) → Bytes t → TrueCard s k → many_card have k s t store ≡ (i, refused n p) → n ≢ CARD
  pub many-bytes : (have : ℕ) (k j : Card) (s t store : List ℕ) (i : ℕ) (b : List ℕ) → many_card have k s t store ≡ (i, taken (b, j)) → (i ≡ 0) × ((many have s t store).1 ≡ taken b)
  pub many_moves : (have : ℕ) (k j : Card) (s t store : List ℕ) (i : ℕ) (b : List ℕ) (x y : Card) → Bytes t → many_card have k s t store ≡ (i, taken (b, j)) → TrueCard s x → TrueCard b y → MovesAs x y k j
  pub many-card : (have : ℕ) (k : Card) (s t store : List ℕ) (i p : ℕ) (x y : Card) (b : List ℕ) → Bytes t → TrueCard s x → (many have s t store).1 ≡ taken b → TrueCard b y
      → (many_card have k s t store ≡ (i, refused CARD p)) ↔ ((i ≡ 0) × First (card_checks k x y) CARD p)
  -- a number of the list
  pub on_list : is_number CARD ≡ true
