-- The kinds of messages, as document 000 lists them in its sections 7.1 and 7.2: tag, fields in their order, and what stands behind them.
-- Assumes nothing.
use Rattle.std.specs.Prelude.{List, [], ◌∷◌, true, false, ℕ, get_or}
use Rattle.kinds.specs.declared.Message.{Message}
use Rattle.kinds.specs.declared.Message.TheVariants.{Nothing, Nop, Shutdown, MmioRead, MmioWrite, PortRead, PortWrite, DiskRead, DiskWrite, Ack, MmioReadResp, PortReadResp, MmioWriteResp, PortWriteResp, DiskReadResp, DiskWriteResp, FrameReady, IrqRaise, IrqLower, A20Set, ResetRequest, Log, SerialOutput, Panic, TripleFault}
use Rattle.kinds.specs.declared.Field.{Field}
use Rattle.kinds.specs.declared.Field.TheVariants.{Absent, U8, U16, U32, U64, Flag, Level, Error}
use Rattle.kinds.specs.declared.Body.{Body}
use Rattle.kinds.specs.declared.Body.TheVariants.{Empty, Bytes, Text}
use Rattle.kinds.specs.declared.Cell.{Cell}
use Rattle.kinds.specs.declared.Form.{Form}

-- a field with its number
abbrev pub cell : Field → ℕ → Cell
cell f v = record { 0 = f; 1 = v }

-- no field there
abbrev pub none : Cell
none = cell Absent 0

-- a message of up to four numbers
abbrev pub form_row : ℕ → Cell → Cell → Cell → Cell → Body → Form
form_row t a b c d z = record { known = true; tag = t; a = a; b = b; c = c; d = d; body = z }

-- each case of the enum in the paper's terms; the case for nothing has none
unfoldable pub paper : Message → Form
paper Nothing = record { known = false; tag = 0; a = none; b = none; c = none; d = none; body = Empty }
paper (Nop seq) = form_row 0x0000 (cell U32 seq) none none none Empty
paper Shutdown = form_row 0x0001 none none none none Empty
paper (MmioRead id addr size) = form_row 0x0100 (cell U32 id) (cell U64 addr) (cell U32 size) none Empty
paper (MmioWrite id addr) = form_row 0x0101 (cell U32 id) (cell U64 addr) none none Bytes
paper (PortRead id port size) = form_row 0x0102 (cell U32 id) (cell U16 port) (cell U32 size) none Empty
paper (PortWrite id port size value) = form_row 0x0103 (cell U32 id) (cell U16 port) (cell U32 size) (cell U32 value) Empty
paper (DiskRead id diskOffset len guestOffset) = form_row 0x0104 (cell U32 id) (cell U64 diskOffset) (cell U32 len) (cell U64 guestOffset) Empty
paper (DiskWrite id diskOffset len guestOffset) = form_row 0x0105 (cell U32 id) (cell U64 diskOffset) (cell U32 len) (cell U64 guestOffset) Empty
paper (Ack seq) = form_row 0x1000 (cell U32 seq) none none none Empty
paper (MmioReadResp id) = form_row 0x1100 (cell U32 id) none none none Bytes
paper (PortReadResp id value) = form_row 0x1101 (cell U32 id) (cell U32 value) none none Empty
paper (MmioWriteResp id) = form_row 0x1102 (cell U32 id) none none none Empty
paper (PortWriteResp id) = form_row 0x1103 (cell U32 id) none none none Empty
paper (DiskReadResp id ok bytes error) = form_row 0x1104 (cell U32 id) (cell Flag ok) (cell U32 bytes) (cell Error error) Empty
paper (DiskWriteResp id ok bytes error) = form_row 0x1105 (cell U32 id) (cell Flag ok) (cell U32 bytes) (cell Error error) Empty
paper (FrameReady frameId) = form_row 0x1200 (cell U64 frameId) none none none Empty
paper (IrqRaise irq) = form_row 0x1300 (cell U8 irq) none none none Empty
paper (IrqLower irq) = form_row 0x1301 (cell U8 irq) none none none Empty
paper (A20Set enabled) = form_row 0x1302 (cell Flag enabled) none none none Empty
paper ResetRequest = form_row 0x1303 none none none none Empty
paper (Log level) = form_row 0x1400 (cell Level level) none none none Text
paper (SerialOutput port) = form_row 0x1500 (cell U16 port) none none none Bytes
paper Panic = form_row 0x1FFE none none none none Text
paper TripleFault = form_row 0x1FFF none none none none Empty

-- a kind: what makes a message of its numbers
abbrev pub Kind : Type 0
Kind = ℕ → ℕ → ℕ → ℕ → Message

-- all kinds there are
abbrev pub kinds : List Kind
kinds =
    (λ a b c d. Nop a)
    ∷ (λ a b c d. Shutdown)
    ∷ (λ a b c d. MmioRead a b c)
    ∷ (λ a b c d. MmioWrite a b)
    ∷ (λ a b c d. PortRead a b c)
    ∷ (λ a b c d. PortWrite a b c d)
    ∷ (λ a b c d. DiskRead a b c d)
    ∷ (λ a b c d. DiskWrite a b c d)
    ∷ (λ a b c d. Ack a)
    ∷ (λ a b c d. MmioReadResp a)
    ∷ (λ a b c d. PortReadResp a b)
    ∷ (λ a b c d. MmioWriteResp a)
    ∷ (λ a b c d. PortWriteResp a)
    ∷ (λ a b c d. DiskReadResp a b c d)
    ∷ (λ a b c d. DiskWriteResp a b c d)
    ∷ (λ a b c d. FrameReady a)
    ∷ (λ a b c d. IrqRaise a)
    ∷ (λ a b c d. IrqLower a)
    ∷ (λ a b c d. A20Set a)
    ∷ (λ a b c d. ResetRequest)
    ∷ (λ a b c d. Log a)
    ∷ (λ a b c d. SerialOutput a)
    ∷ (λ a b c d. Panic)
    ∷ (λ a b c d. TripleFault)
    ∷ []

-- tag, fields and body of a kind do not depend on its numbers
abbrev pub blank : Kind → Form
blank k = paper (k 0 0 0 0)

-- the fields with their numbers, in order
abbrev pub cells : Form → List Cell
cells f = f.a ∷ f.b ∷ f.c ∷ f.d ∷ []

-- the fields alone
abbrev pub form_fields : Form → List Field
form_fields f = f.a.0 ∷ f.b.0 ∷ f.c.0 ∷ f.d.0 ∷ []

-- `ok` is the second number of the two kinds that have it
abbrev pub ok_of : Form → ℕ
ok_of f = f.b.1

-- a message of a kind, by the list of its numbers
abbrev pub make : Kind → List ℕ → Message
make k v = k (get_or v 0 0) (get_or v 1 0) (get_or v 2 0) (get_or v 3 0)
