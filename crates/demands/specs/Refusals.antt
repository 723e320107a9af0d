-- Request 5 of document 02, a shorter refusal card: nobody could make an input for ADDRESS, 19, and it is withdrawn with its check.
-- Assumes nothing.
use Rattle.std.specs.Prelude.{◌≡◌, ◌≢◌, false, ◌&&◌, List, [], ◌∷◌, ℕ, ◌<◌, leb, length}
use Rattle.answer.specs.declared.Answer.{Answer}
use Rattle.answer.specs.Numbers.{is_number}
use Rattle.answer.specs.Outcome.{Outcome, Checks, checked, Pass}
use Rattle.answer.specs.Calls.{asked, verdict, Writes}
use Rattle.aerosnap.specs.Edits.{Edit}
use Rattle.cards.specs.declared.Card.{Card}
use Rattle.cards.specs.declared.Edited.{Edited}
use Rattle.cards.specs.Cards.{open_answer, WritesBeside}
use Rattle.cards.specs.Calls.{open_call, edit_call}
use Rattle.entries.specs.Kinds.{device_of, function_of}
use Rattle.aerosnap.specs.Calls.{check_call, sections_call, devices_call, disks_call, cpus_call, mmus_call, canonical_call}
use Rattle.snapshot.specs.declared.MetaFields.{MetaFields}
use Rattle.snapshot.specs.MetaSection.{meta_call, as_meta}
use Rattle.dskc.specs.Wrapper as wrapped
use Rattle.kinds.specs.declared.Message.{Message}
use Rattle.messages.specs.declared.Reading.{Reading}
use Rattle.messages.specs.Reading as messages
use Rattle.messages.specs.Writing.{write_message}
use Rattle.numbers.specs.declared.Numbers.{Numbers}
use Rattle.numbers.specs.Numbers.{write_numbers}
use Rattle.fields.specs.declared.State.{State}
use Rattle.fields.specs.Fields.{field_call, set_call, Changes}
use Rattle.region.specs.declared.Cursors.{Cursors}
use Rattle.region.specs.Region.{region_checks}
use Rattle.region.specs.Report.{as_cursors, report_call}
use Rattle.ready.specs.declared.Readiness.{Readiness}
use Rattle.ready.specs.Missing.{ready_call, Tells}
use Rattle.rings.specs.declared.Pair.{Pair}
use Rattle.rings.specs.declared.Record.{Record}
use Rattle.rings.specs.Calls.{as_answer, as_pair, as_record, Leaves, reserve_call, fill_call, commit_call, take_call}

-- the number that is withdrawn
abbrev pub withdrawn : ℕ
withdrawn = 19

-- the check that gave it, of a controller's address
abbrev pub address_check : ℕ → Checks
address_check a = (leb (device_of a) 31 && leb (function_of a) 7, withdrawn, 0) ∷ []

-- a call that writes, by the length of the lent memory, does not answer it
abbrev pub WritesNever : (ℕ → Outcome (List ℕ)) → Type 0
WritesNever o = (old new : List ℕ) (r : Answer) → Writes (o (length old)) old r new → r.number ≢ withdrawn

pub record Refusals : Type 0 where
  -- five bits don't exceed 31, nor three bits 7
  pub device : (a : ℕ) → device_of a < 32
  pub function : (a : ℕ) → function_of a < 8
  -- so no address failed the check, and without it every answer of a wrapper stays
  pub never : (a : ℕ) → Pass (address_check a)
  pub stays : (a : ℕ) (behind : Outcome (List ℕ)) → checked (address_check a) behind ≡ behind
  -- it is none of the numbers that are taken, and no call of the C boundary answers it
  pub gone : is_number withdrawn ≡ false
  pub check : (file : List ℕ) (r : Answer) → r ≡ verdict (check_call file) → r.number ≢ withdrawn
  pub sections : (file : List ℕ) → WritesNever (λ have. sections_call have file)
  pub devices : (file : List ℕ) → WritesNever (λ have. devices_call have file)
  pub disks : (file : List ℕ) → WritesNever (λ have. disks_call have file)
  pub cpus : (file : List ℕ) → WritesNever (λ have. cpus_call have file)
  pub mmus : (file : List ℕ) → WritesNever (λ have. mmus_call have file)
  pub meta : (file : List ℕ) (r : MetaFields) → r ≡ as_meta (meta_call file) → r.number ≢ withdrawn
  pub canonical : (file : List ℕ) → WritesNever (λ have. canonical_call have file)
  pub opens : (file : List ℕ) (r : Edited) → r ≡ open_answer (open_call file) → r.number ≢ withdrawn
  -- every edit
  pub edit : (card : Card) (file : List ℕ) (e : Edit) (old new : List ℕ) (r : Edited) → WritesBeside card (edit_call (length old) card file e) old r new → r.number ≢ withdrawn
  pub wrapper_check : (wrapper : List ℕ) (r : Answer) → r ≡ verdict (wrapped.wrapper_of wrapper) → r.number ≢ withdrawn
  pub controllers : (wrapper : List ℕ) → WritesNever (λ have. wrapped.controllers_call have wrapper)
  pub wrapper_canonical : (wrapper : List ℕ) → WritesNever (λ have. wrapped.wrapper_canonical_call have wrapper)
  pub message_read : (message : List ℕ) (r : Reading) → r ≡ messages.reading (messages.read_message message) → r.number ≢ withdrawn
  pub message_write : (message : Message) (bytes : List ℕ) → WritesNever (write_message message bytes)
  pub numbers_write : (n : Numbers) (bytes : List ℕ) → WritesNever (write_numbers n bytes)
  pub ready : (file old new : List ℕ) (r : Readiness) → Tells (ready_call (length old) file) old r new → r.number ≢ withdrawn
  pub region_check : (b : List ℕ) (r : Answer) → r ≡ verdict (asked (region_checks b)) → r.number ≢ withdrawn
  pub report : (b : List ℕ) (q : ℕ) (r : Cursors) → r ≡ as_cursors (report_call b q) → r.number ≢ withdrawn
  pub reserve : (b : List ℕ) (q n : ℕ) (new : List ℕ) (r : Pair) → Leaves as_pair (reserve_call b q n) b r new → r.number ≢ withdrawn
  pub fill : (b : List ℕ) (q start end : ℕ) (m new : List ℕ) (r : Answer) → Leaves as_answer (fill_call b q start end m) b r new → r.number ≢ withdrawn
  pub commit : (b : List ℕ) (q start end : ℕ) (new : List ℕ) (r : Answer) → Leaves as_answer (commit_call b q start end) b r new → r.number ≢ withdrawn
  pub take : (b : List ℕ) (q : ℕ) (new : List ℕ) (r : Record) → Leaves as_record (take_call b q) b r new → r.number ≢ withdrawn
  pub field : (k : State) (s : List ℕ) (n i : ℕ) → WritesNever (λ have. field_call k have s n i)
  pub set : (k : State) (s : List ℕ) (n i : ℕ) (v new : List ℕ) (r : Answer) → Changes (length v) (set_call k s n i v) s r new → r.number ≢ withdrawn
