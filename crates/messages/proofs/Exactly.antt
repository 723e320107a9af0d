-- The main theorems on messages. Reading and writing are inverse to each other, so a message is taken exactly if it is the writing
-- of some message and data, and these are unique. None of these proofs looks at a single kind; `Table` alone goes through the rows.
-- Assumes nothing.
use mathlib.Core.Path.{◌≡◌, refl, sym, ap, ◌∙◌}
use mathlib.Core.List.{List, ◌++◌}
use Prim.Native.Nat.{ℕ, ◌≤◌}
use borrow.Author.Tests.{le-leb}
use lib.ListN.{length}
use Rattle.answer.specs.Numbers.{TAG}
use Rattle.answer.specs.Outcome.{taken, refused, Pass, room}
use Rattle.answer.proofs.Checks.{pass-checked, checked-pass, pass-append, append-pass}
use Rattle.answer.proofs.Outcomes.{taken_is}
use Rattle.wire.specs.Numbers.{Bytes, le_at}
use Rattle.kinds.specs.declared.Message.{Message}
use Rattle.kinds.specs.Kinds.{paper, kinds}
use Rattle.messages.proofs.Tags.{Missing, unknown}
use Rattle.messages.specs.Reading.{message_most, MessageAndData, read_checks, read_message}
use Rattle.messages.specs.Writing.{write_checks, written, write_message}
use Rattle.messages.proofs.Cells.{Typed}
use Rattle.messages.proofs.Back.{told, read-written}
use Rattle.messages.proofs.Again.{data_of, written_read}

-- ---- tags

-- a tag that the table has not is TAG, whatever stands behind it
pub unknown_tag : (m : List ℕ) → length m ≤ message_most → 2 ≤ length m → Missing kinds (le_at 2 m 0) → read_message m ≡ refused TAG 0
unfolding read_message read_checks paper
unknown_tag m h g t = rw (unknown (le_at 2 m 0) m refl t, le-leb (length m) message_most h, le-leb 2 (length m) g)

-- ---- numbers

-- bytes are below 256, so each number of a reading is within its type
pub numbers_fit : (m : List ℕ) (c : MessageAndData) → Bytes m → read_message m ≡ taken c → Typed c.message
numbers_fit m c y e = (written_read m c y e).typed

-- ---- reading what was written, writing what was read

module _ (k : Message) (d b : List ℕ) (have : ℕ) where
  -- what a writer takes: its checks pass, and these are the bytes
  pub writes : write_message k d have ≡ taken b → Pass (write_checks (paper k) d) × (b ≡ written k d)
  unfolding write_message
  writes e =
      let h = checked-pass (write_checks (paper k) d ++ room have (length (written k d))) (taken (written k d)) b e in
      ((append-pass (write_checks (paper k) d) (room have (length (written k d))) h.0).0, sym (taken_is h.1))

  -- reading what was written gives the message, its data's place and length back, and there the data
  pub write_read : Typed k → write_message k d have ≡ taken b → (read_message b ≡ taken (told k d)) × (data_of (told k d) b ≡ d)
  write_read y e = let h = writes e in let r = read-written k d y h.0 in rw h.1 (r.reads, r.bytes)

-- writing a reading with its data gives the bytes back
pub read_write : (m : List ℕ) (c : MessageAndData) (have : ℕ) → Bytes m → length m ≤ have → read_message m ≡ taken c → write_message c.message (data_of c m) have ≡ taken m
unfolding write_message
read_write m c have y h e =
    let a = written_read m c y e in
    rw a.bytes (pass-checked (write_checks (paper c.message) (data_of c m) ++ room have (length m)) (taken m) (pass-append (write_checks (paper c.message) (data_of c m)) (room have (length m)) a.passes (le-leb (length m) have h, tt)))

-- ---- taken exactly if written

-- bytes are the writing of a message and its data
pub record Writing (m : List ℕ) : Type 0 where
  pub message : Message
  pub content : List ℕ
  pub typed : Typed message
  pub passes : Pass (write_checks (paper message) content)
  pub bytes : written message content ≡ m

-- bytes are taken
pub record Taken (m : List ℕ) : Type 0 where
  pub content : MessageAndData
  pub reads : read_message m ≡ taken content

pub taken_writing : (m : List ℕ) → Bytes m → Taken m → Writing m
taken_writing m y t =
    let a = written_read m t.content y t.reads in
    record { message = t.content.message; content = data_of t.content m; typed = a.typed; passes = a.passes; bytes = a.bytes }

pub writing_taken : (m : List ℕ) → Writing m → Taken m
writing_taken m w = record { content = told w.message w.content; reads = ap read_message (sym w.bytes) ∙ (read-written w.message w.content w.typed w.passes).reads }

pub taken_exactly : (m : List ℕ) → Bytes m → (Taken m → Writing m) × (Writing m → Taken m)
taken_exactly m y = (taken_writing m y, writing_taken m)

-- two different (message, data) never write the same bytes
pub writing_unique : (m : List ℕ) (v w : Writing m) → (v.message ≡ w.message) × (v.content ≡ w.content)
writing_unique m v w =
    let a = read-written v.message v.content v.typed v.passes in
    let b = read-written w.message w.content w.typed w.passes in
    let s : written v.message v.content ≡ written w.message w.content = v.bytes ∙ sym w.bytes in
    let e : told v.message v.content ≡ told w.message w.content = taken_is (sym a.reads ∙ ap read_message s ∙ b.reads) in (
      ap (λ (c : MessageAndData). c.message) e,
      sym a.bytes ∙ ap (data_of (told v.message v.content)) s ∙ ap (λ (c : MessageAndData). data_of c (written w.message w.content)) e ∙ b.bytes,
    )

pub injective : (k k' : Message) (d d' : List ℕ) → Typed k → Typed k' → Pass (write_checks (paper k) d) → Pass (write_checks (paper k') d') → written k d ≡ written k' d' → (k ≡ k') × (d ≡ d')
injective k k' d d' y y' p p' e =
    writing_unique (written k d) (record { message = k; content = d; typed = y; passes = p; bytes = refl }) (record { message = k'; content = d'; typed = y'; passes = p'; bytes = sym e })
