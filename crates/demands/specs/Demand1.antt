-- Demand 1: every call takes every input, ends, and answers or refuses with a number and a place; a refused call leaves all lent buffers exactly as they were.
-- That it takes every input and ends is what the checker proves of each function: none of the public ones asks anything of its caller.
-- The promise of every call for C says that it answers by its definition: `verdict` of it, `reading` of it, `Writes` or `WritesBeside` of it; inside, a `Result` stands for it (`outcome_of`). The demands speak of these definitions.
-- Assumes nothing.
use Rattle.std.specs.Prelude.{◌≡◌, true, ◌≢◌, ◌↔◌, ◌⊎◌, List, ◌++◌, ℕ, ◌≤◌, ◌<◌, length, drop}
use Rattle.answer.specs.declared.Answer.{Answer}
use Rattle.answer.specs.Numbers.{ROOM, CARD, is_number}
use Rattle.answer.specs.Outcome.{Outcome, taken, refused, Faulty}
use Rattle.answer.specs.Calls.{verdict, Writes}
use Rattle.wire.specs.Numbers.{Bytes}
use Rattle.aerosnap.specs.Edits.{Edit, WideEdit}
use Rattle.aerosnap.specs.Calls.{check_call, sections_call, devices_call, disks_call, cpus_call, mmus_call, canonical_call}
use Rattle.cards.specs.declared.Card.{Card}
use Rattle.cards.specs.declared.Edited.{Edited}
use Rattle.cards.specs.Cards.{open_file, edit_card, blank_card, open_answer, WritesBeside}
use Rattle.cards.specs.Whole.{many_card}
use Rattle.snapshot.specs.declared.MetaFields.{MetaFields}
use Rattle.snapshot.specs.MetaSection.{silent, meta_call, as_meta}
use Rattle.dskc.specs.Wrapper as wrapped
use Rattle.kinds.specs.declared.Message.{Message}
use Rattle.kinds.specs.declared.Message.TheVariants.{Nothing}
use Rattle.messages.specs.declared.Reading.{Reading}
use Rattle.messages.specs.Reading as messages
use Rattle.messages.specs.Writing.{write_message}
use Rattle.numbers.specs.declared.Numbers.{Numbers}
use Rattle.numbers.specs.declared.Told.{Told}
use Rattle.numbers.specs.Numbers.{numbers_of, message_of, told, write_numbers}
use Rattle.demands.specs.Beside.{TrueCard}

-- the definition takes its input
abbrev pub Taken : {A : Type 0} → Outcome A → Type 0
Taken {A} o = (a : A) × (o ≡ taken a)

-- a refusal has a number of the list
abbrev pub InTable : {A : Type 0} → Outcome A → Type 0
InTable (taken a) = Unit {0}
InTable (refused n p) = is_number n ≡ true

-- a call that writes nothing: it refuses for a fault of the input alone
pub record Answers {A : Type 0} (o : Outcome A) : Type 0 where
  pub faults : Faulty o
  -- its number is 0 exactly if the input is taken, and the place is 0 then
  pub zero : (r : Answer) → r ≡ verdict o → (r.number ≡ 0) ↔ Taken o
  pub takes : (r : Answer) → r ≡ verdict o → Taken o → r.place ≡ 0
  -- refused, number and place are the fault's
  pub refuses : (r : Answer) (n p : ℕ) → r ≡ verdict o → o ≡ refused n p → (r.number ≡ n) × (r.place ≡ p)
  pub once : (r s : Answer) → r ≡ verdict o → s ≡ verdict o → r ≡ s

-- a call that writes, by the length of the lent memory
pub record Fills (o : ℕ → Outcome (List ℕ)) : Type 0 where
  pub table : (have : ℕ) → InTable (o have)
  -- refused, it leaves the lent memory as it was
  pub stays : (old new : List ℕ) (r : Answer) → Writes (o (length old)) old r new → r.number ≢ 0 → new ≡ old
  -- taken, it names how many bytes it wrote from the start on, and those behind them stay
  pub writes : (old new : List ℕ) (r : Answer) → Writes (o (length old)) old r new → r.number ≡ 0
      → (b : List ℕ) × (o (length old) ≡ taken b) × (length b ≤ length old) × (r.place ≡ length b) × (new ≡ b ++ drop (length b) old)
  -- refused, number and place are those of the first check that fails
  pub refuses : (old new : List ℕ) (r : Answer) (n p : ℕ) → Writes (o (length old)) old r new → o (length old) ≡ refused n p → (r.number ≡ n) × (r.place ≡ p)
  -- where it is ROOM, the place is the length needed: memory of that length is enough
  pub room : (old new : List ℕ) (r : Answer) → Writes (o (length old)) old r new → r.number ≡ ROOM
      → (length old < r.place) × ((b : List ℕ) × (o r.place ≡ taken b) × (length b ≡ r.place))
  pub once : (old new now : List ℕ) (r s : Answer) → Writes (o (length old)) old r new → Writes (o (length old)) old s now → (r ≡ s) × (new ≡ now)

-- reading a message: the place is 0 if it is taken; a refused reading has no message, start 0 and length 0
pub record ReadsMessage (o : Outcome messages.MessageAndData) : Type 0 where
  pub faults : Faulty o
  pub zero : (r : Reading) → r ≡ messages.reading o → (r.number ≡ 0) ↔ Taken o
  pub takes : (r : Reading) (c : messages.MessageAndData) → r ≡ messages.reading o → o ≡ taken c
      → (r.place ≡ 0) × (r.message ≡ c.message) × (r.start ≡ c.start) × (r.len ≡ c.len)
  pub refuses : (r : Reading) (n p : ℕ) → r ≡ messages.reading o → o ≡ refused n p
      → (r.number ≡ n) × (r.place ≡ p) × (r.message ≡ Nothing) × (r.start ≡ 0) × (r.len ≡ 0)
  pub once : (r s : Reading) → r ≡ messages.reading o → s ≡ messages.reading o → r ≡ s

-- the tag and the four numbers that are told
abbrev pub numbers_in : Told → Numbers
numbers_in r = record { tag = r.tag; a = r.a; b = r.b; c = r.c; d = r.d }

-- the same by tag and numbers, as at the C boundary: a refused reading has 0 for each
pub record TellsMessage (o : Outcome messages.MessageAndData) : Type 0 where
  pub faults : Faulty o
  pub zero : (r : Told) → r ≡ told (messages.reading o) → (r.number ≡ 0) ↔ Taken o
  pub takes : (r : Told) (c : messages.MessageAndData) → r ≡ told (messages.reading o) → o ≡ taken c
      → (r.place ≡ 0) × (numbers_in r ≡ numbers_of c.message) × (r.data_place ≡ c.start) × (r.data_length ≡ c.len)
  pub refuses : (r : Told) (n p : ℕ) → r ≡ told (messages.reading o) → o ≡ refused n p
      → (r.number ≡ n) × (r.place ≡ p) × (numbers_in r ≡ record { tag = 0; a = 0; b = 0; c = 0; d = 0 }) × (r.data_place ≡ 0) × (r.data_length ≡ 0)
  pub once : (r s : Told) → r ≡ told (messages.reading o) → s ≡ told (messages.reading o) → r ≡ s

-- reading META: number and place are those of the file's check, and a refusal answers nothing else (what it says: Meta.antt)
pub record TellsMeta (file : List ℕ) : Type 0 where
  pub faults : Faulty (meta_call file)
  pub zero : (r : MetaFields) → r ≡ as_meta (meta_call file) → (r.number ≡ 0) ↔ Taken (check_call file)
  pub takes : (r : MetaFields) → r ≡ as_meta (meta_call file) → Taken (check_call file) → r.place ≡ 0
  pub refuses : (r : MetaFields) (n p : ℕ) → r ≡ as_meta (meta_call file) → check_call file ≡ refused n p → r ≡ silent n p
  pub once : (r s : MetaFields) → r ≡ as_meta (meta_call file) → s ≡ as_meta (meta_call file) → r ≡ s

-- taken; or refused at a later entry, or for the card
abbrev pub Past : ℕ → ℕ × Outcome (List ℕ × Card) → Type 0
Past i (j, taken t) = Unit {0}
Past i (j, refused n p) = (i < j) ⊎ (n ≡ CARD)

-- a call beside a card, by the length of the lent memory and the card
pub record FillsBeside (o : ℕ → Card → ℕ × Outcome (List ℕ × Card)) : Type 0 where
  pub table : (have : ℕ) (k : Card) → InTable (o have k).1
  -- refused, it leaves the lent memory as it was, and hands the card back unchanged
  pub stays : (k : Card) (old new : List ℕ) (r : Edited) → WritesBeside k (o (length old) k) old r new → r.number ≢ 0 → (new ≡ old) × (r.card ≡ k)
  -- taken, it names how many bytes it wrote from the start on, and those behind them stay; its index is 0
  pub writes : (k : Card) (old new : List ℕ) (r : Edited) → WritesBeside k (o (length old) k) old r new → r.number ≡ 0
      → (b : List ℕ) × ((o (length old) k).1 ≡ taken (b, r.card)) × (length b ≤ length old) × (r.index ≡ 0) × (r.place ≡ length b) × (new ≡ b ++ drop (length b) old)
  -- refused, number, index and place are those of the first check that fails
  pub refuses : (k : Card) (old new : List ℕ) (r : Edited) (i n p : ℕ) → WritesBeside k (o (length old) k) old r new → o (length old) k ≡ (i, refused n p) → (r.number ≡ n) × (r.index ≡ i) × (r.place ≡ p)
  -- where it is ROOM, the place is the length that the entry with the index needs: with memory of that length it is not this ROOM
  pub room : (k : Card) (old new : List ℕ) (r : Edited) → WritesBeside k (o (length old) k) old r new → r.number ≡ ROOM → (length old < r.place) × Past r.index (o r.place k)
  pub once : (k : Card) (old new now : List ℕ) (r t : Edited) → WritesBeside k (o (length old) k) old r new → WritesBeside k (o (length old) k) old t now → (r ≡ t) × (new ≡ now)

-- opening a file: it writes nothing, and refuses for a fault of the file alone, with a card that says nothing
pub record Opens (s : List ℕ) : Type 0 where
  pub faults : Faulty (open_file s)
  pub zero : (r : Edited) → r ≡ open_answer (open_file s) → (r.number ≡ 0) ↔ ((k : Card) × (open_file s ≡ taken k))
  pub takes : (r : Edited) (k : Card) → r ≡ open_answer (open_file s) → open_file s ≡ taken k → (r.place ≡ 0) × (r.index ≡ 0) × (r.card ≡ k)
  pub refuses : (r : Edited) (n p : ℕ) → r ≡ open_answer (open_file s) → open_file s ≡ refused n p → (r.number ≡ n) × (r.place ≡ p) × (r.index ≡ 0) × (r.card ≡ blank_card)

-- Each public call of `snapshot`, `dskc`, `aipc` and `numbers`; those of the C boundary (`cimbrolau`) promise the same, word for word, and stand beside them. Rings: Rings.antt.
pub record Demand1 : Type 0 where
  -- snapshot::check, cimbrolau_check
  pub check : (file : List ℕ) → Answers (check_call file)
  -- snapshot::sections, cimbrolau_sections
  pub sections : (file : List ℕ) → Fills (λ have. sections_call have file)
  -- snapshot::devices, cimbrolau_devices
  pub devices : (file : List ℕ) → Fills (λ have. devices_call have file)
  -- snapshot::disks, cimbrolau_disks
  pub disks : (file : List ℕ) → Fills (λ have. disks_call have file)
  -- snapshot::cpus, cimbrolau_cpus
  pub cpus : (file : List ℕ) → Fills (λ have. cpus_call have file)
  -- snapshot::mmus, cimbrolau_mmus
  pub mmus : (file : List ℕ) → Fills (λ have. mmus_call have file)
  -- snapshot::meta, cimbrolau_meta
  pub meta : (file : List ℕ) → TellsMeta file
  -- snapshot::canonical, cimbrolau_canonical
  pub canonical : (file : List ℕ) → Fills (λ have. canonical_call have file)
  -- snapshot::open, cimbrolau_open
  pub opens : (s : List ℕ) → Opens s
  -- add_device, add_disk, remove_device, remove_disk, replace_device
  pub edit : (s : List ℕ) (e : Edit) → FillsBeside (λ have k. (0, edit_card have k s e))
  -- add_devices
  pub many : (s t store : List ℕ) → Bytes t → FillsBeside (λ have k. many_card have k s t store)
  -- beside a true card memory of the length that ROOM names is enough for an edit
  pub enough : (s : List ℕ) (e : Edit) (k : Card) (old new : List ℕ) (r : Edited) → TrueCard s k → WideEdit e → WritesBeside k (0, edit_card (length old) k s e) old r new → r.number ≡ ROOM
      → (b : List ℕ) × (j : Card) × (edit_card r.place k s e ≡ taken (b, j)) × (length b ≡ r.place)
  -- dskc::check, cimbrolau_wrapper_check
  pub wrapper_check : (wrapper : List ℕ) → Answers (wrapped.wrapper_of wrapper)
  -- dskc::controllers, cimbrolau_controllers
  pub controllers : (wrapper : List ℕ) → Fills (λ have. wrapped.controllers_call have wrapper)
  -- dskc::canonical, cimbrolau_wrapper_canonical
  pub wrapper_canonical : (wrapper : List ℕ) → Fills (λ have. wrapped.wrapper_canonical_call have wrapper)
  -- aipc::read
  pub message_read : (message : List ℕ) → ReadsMessage (messages.read_message message)
  -- aipc::write
  pub message_write : (message : Message) (bytes : List ℕ) → Fills (write_message message bytes)
  -- numbers::read, cimbrolau_message_read
  pub numbers-read : (message : List ℕ) → TellsMessage (messages.read_message message)
  -- numbers::write, cimbrolau_message_write
  pub numbers_write : (n : Numbers) (bytes : List ℕ) → Fills (write_numbers n bytes)
  -- numbers::message_of refuses for a fault of the numbers alone; numbers::numbers_of refuses nothing
  pub message-of : (n : Numbers) → Faulty (message_of n)
