-- A message and its numbers say the same, so a reading that is written again by its numbers gives the same bytes.
-- Assumes nothing.
use mathlib.Core.Path.{◌≡◌, refl, ap, ◌∙◌}
use mathlib.Core.Bool.{true}
use mathlib.Core.List.{List}
use Prim.Native.Nat.{ℕ, ◌≤◌}
use native.Mathlib.Omega.{arith}
use borrow.Author.Tests.{lt-ltb}
use lib.ListN.{length}
use Rattle.answer.specs.Outcome.{Outcome, taken, after}
use Rattle.wire.specs.Numbers.{Bytes}
use Rattle.kinds.specs.declared.Message.{Message}
use Rattle.kinds.specs.declared.Message.TheVariants.{Nothing, Nop, Shutdown, MmioRead, MmioWrite, PortRead, PortWrite, DiskRead, DiskWrite, Ack, MmioReadResp, PortReadResp, MmioWriteResp, PortWriteResp, DiskReadResp, DiskWriteResp, FrameReady, IrqRaise, IrqLower, A20Set, ResetRequest, Log, SerialOutput, Panic, TripleFault}
use Rattle.kinds.specs.declared.Form.{Form}
use Rattle.kinds.specs.Kinds.{paper, cells}
use Rattle.messages.specs.Reading.{MessageAndData, read_message}
use Rattle.messages.specs.Writing.{write_message}
use Rattle.messages.proofs.Cells.{Fit, Typed}
use Rattle.messages.proofs.Again.{data_of, written_read}
use Rattle.messages.proofs.Back.{writable}
use Rattle.messages.proofs.Exactly.{read_write}
use Rattle.numbers.specs.Numbers.{row_numbers, numbers_of, all_within, message_of, write_numbers}

-- numbers within their types are within their fields
fit_within : (f : Form) → Fit 0 (cells f) → all_within f (row_numbers f) ≡ true
fit_within f (a, (b, (c, (d, _)))) = rw (lt-ltb _ _ a, lt-ltb _ _ b, lt-ltb _ _ c, lt-ltb _ _ d)

-- a case of the enum is made of its tag and its numbers again
again : (m : Message) → (paper m).known ≡ true → all_within (paper m) (numbers_of m) ≡ true → message_of (numbers_of m) ≡ taken m
unfolding paper message_of
again Nothing h w = absurd (let z : ◌≡◌ {A = ℕ} 0 1 = cc in omega arith)
again (Nop a) h w = rw w
again Shutdown h w = refl
again (MmioRead a b c) h w = rw w
again (MmioWrite a b) h w = rw w
again (PortRead a b c) h w = rw w
again (PortWrite a b c d) h w = rw w
again (DiskRead a b c d) h w = rw w
again (DiskWrite a b c d) h w = rw w
again (Ack a) h w = rw w
again (MmioReadResp a) h w = rw w
again (PortReadResp a b) h w = rw w
again (MmioWriteResp a) h w = rw w
again (PortWriteResp a) h w = rw w
again (DiskReadResp a b c d) h w = rw w
again (DiskWriteResp a b c d) h w = rw w
again (FrameReady a) h w = rw w
again (IrqRaise a) h w = rw w
again (IrqLower a) h w = rw w
again (A20Set a) h w = rw w
again ResetRequest h w = refl
again (Log a) h w = rw w
again (SerialOutput a) h w = rw w
again Panic h w = refl
again TripleFault h w = refl

pub message_again : (m : Message) → (paper m).known ≡ true → Typed m → message_of (numbers_of m) ≡ taken m
message_again m h t = again m h (fit_within (paper m) t)

-- Reading a message and writing it again by its tag and its numbers, with its data, gives the bytes back.
pub numbers_write : (m : List ℕ) (c : MessageAndData) (have : ℕ) → Bytes m → length m ≤ have → read_message m ≡ taken c → write_numbers (numbers_of c.message) (data_of c m) have ≡ taken m
unfolding write_numbers
numbers_write m c have y h e =
    let a = written_read m c y e in
    let k = (writable (paper c.message) (data_of c m) a.passes).known in
    ap (λ (o : Outcome Message). after o (λ k. write_message k (data_of c m) have)) (message_again c.message k a.typed) ∙ read_write m c have y h e
