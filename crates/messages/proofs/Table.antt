-- The table of kinds, gone through once in each direction: a case of the enum is found by its tag and made of its numbers again,
-- and what a kind of the table makes of the numbers that stand in a message has these numbers in its row.
-- Assumes nothing.
use mathlib.Core.Path.{◌≡◌, refl, sym, ap, ◌∙◌}
use mathlib.Core.Bool.{Bool, true, false, cond}
use mathlib.Core.List.{List, [], ◌∷◌}
use Prim.Native.Nat.{ℕ, ◌^◌, ◌<◌}
use native.Mathlib.Omega.{arith}
use borrow.Author.Tests.{eqb-true}
use lib.Dec.{eqb}
use Rattle.wire.specs.Numbers.{le, le_at}
use Rattle.kinds.specs.declared.Message.{Message}
use Rattle.kinds.specs.declared.Message.TheVariants.{Nothing, Nop, Shutdown, MmioRead, MmioWrite, PortRead, PortWrite, DiskRead, DiskWrite, Ack, MmioReadResp, PortReadResp, MmioWriteResp, PortWriteResp, DiskReadResp, DiskWriteResp, FrameReady, IrqRaise, IrqLower, A20Set, ResetRequest, Log, SerialOutput, Panic, TripleFault}
use Rattle.kinds.specs.Kinds.{paper, Kind, kinds, blank, cells, form_fields, ok_of, make}
use Rattle.messages.specs.Fields.{numbers_at, message_in, message_at}
use Rattle.messages.proofs.Cells.{numbers_in}

-- ---- from the enum to the table

-- its tag is a u16, and bytes that have its tag and its numbers say it
pub record Found (k : Message) : Type 0 where
  pub tag : (paper k).tag < 256 ^ 2
  pub said : (m : List ℕ) → (paper k).known ≡ true → le_at 2 m 0 ≡ (paper k).tag → numbers_at (ok_of (paper k)) (form_fields (paper k)) 2 m ≡ numbers_in (cells (paper k)) → message_at m ≡ k

pub found : (k : Message) → Found k
unfolding paper message_at numbers_at
found Nothing = record { tag = omega arith; said = λ m h t e. absurd (let z : ◌≡◌ {A = ℕ} 0 1 = cc in omega arith) }
found (Nop a) = record { tag = omega arith; said = λ m h t e. rw t (cc) }
found Shutdown = record { tag = omega arith; said = λ m h t e. rw t }
found (MmioRead a b c) = record { tag = omega arith; said = λ m h t e. rw t (cc) }
found (MmioWrite a b) = record { tag = omega arith; said = λ m h t e. rw t (cc) }
found (PortRead a b c) = record { tag = omega arith; said = λ m h t e. rw t (cc) }
found (PortWrite a b c d) = record { tag = omega arith; said = λ m h t e. rw t (cc) }
found (DiskRead a b c d) = record { tag = omega arith; said = λ m h t e. rw t (cc) }
found (DiskWrite a b c d) = record { tag = omega arith; said = λ m h t e. rw t (cc) }
found (Ack a) = record { tag = omega arith; said = λ m h t e. rw t (cc) }
found (MmioReadResp a) = record { tag = omega arith; said = λ m h t e. rw t (cc) }
found (PortReadResp a b) = record { tag = omega arith; said = λ m h t e. rw t (cc) }
found (MmioWriteResp a) = record { tag = omega arith; said = λ m h t e. rw t (cc) }
found (PortWriteResp a) = record { tag = omega arith; said = λ m h t e. rw t (cc) }
found (DiskReadResp a b c d) = record { tag = omega arith; said = λ m h t e. rw t (cc) }
found (DiskWriteResp a b c d) = record { tag = omega arith; said = λ m h t e. rw t (cc) }
found (FrameReady a) = record { tag = omega arith; said = λ m h t e. rw t (cc) }
found (IrqRaise a) = record { tag = omega arith; said = λ m h t e. rw t (cc) }
found (IrqLower a) = record { tag = omega arith; said = λ m h t e. rw t (cc) }
found (A20Set a) = record { tag = omega arith; said = λ m h t e. rw t (cc) }
found ResetRequest = record { tag = omega arith; said = λ m h t e. rw t }
found (Log a) = record { tag = omega arith; said = λ m h t e. rw t (cc) }
found (SerialOutput a) = record { tag = omega arith; said = λ m h t e. rw t (cc) }
found Panic = record { tag = omega arith; said = λ m h t e. rw t }
found TripleFault = record { tag = omega arith; said = λ m h t e. rw t }

-- ---- from the table to the enum

-- what a kind makes of the numbers that stand in a message
abbrev made : Kind → List ℕ → Message
made k m = make k (numbers_at (le_at 1 m 6) (form_fields (blank k)) 2 m)

-- what its row shows of it, and what is due: its kind is known, has its tag, and the numbers are those that stand in its fields
abbrev shown : Kind → List ℕ → Bool × ℕ × List ℕ
shown k m = ((paper (made k m)).known, (paper (made k m)).tag, numbers_in (cells (paper (made k m))))

abbrev due : Kind → List ℕ → Bool × ℕ × List ℕ
due k m = (true, (blank k).tag, numbers_at (ok_of (paper (made k m))) (form_fields (paper (made k m))) 2 m)

abbrev mapped : (Kind → List ℕ → Bool × ℕ × List ℕ) → List Kind → List ℕ → List (Bool × ℕ × List ℕ)
mapped f [] m = []
mapped f (k ∷ ks) m = f k m ∷ mapped f ks m

all_due : (m : List ℕ) → mapped shown kinds m ≡ mapped due kinds m
unfolding paper numbers_at le_at le
all_due m = refl

pub record Row (t : ℕ) (k : Message) (m : List ℕ) : Type 0 where
  pub tag : (paper k).tag ≡ t
  pub stand : numbers_in (cells (paper k)) ≡ numbers_at (ok_of (paper k)) (form_fields (paper k)) 2 m

row_in : (ks : List Kind) (t : ℕ) (m : List ℕ) → mapped shown ks m ≡ mapped due ks m → (paper (message_in ks t m)).known ≡ true → Row t (message_in ks t m) m
unfolding paper
row_in [] t m e h = absurd (let z : ◌≡◌ {A = ℕ} 0 1 = cc in omega arith)
row_in (k ∷ ks) t m e h = go (eqb t (blank k).tag) refl h (row_in ks t m (cc))
  where
    go : (b : Bool) → eqb t (blank k).tag ≡ b → (paper (cond b (made k m) (message_in ks t m))).known ≡ true
        → ((paper (message_in ks t m)).known ≡ true → Row t (message_in ks t m) m) → Row t (cond b (made k m) (message_in ks t m)) m
    go true q h r = let s : shown k m ≡ due k m = cc in record { tag = ap (λ (x : Bool × ℕ × List ℕ). x.1) s ∙ sym (eqb-true t (blank k).tag q); stand = ap (λ (x : Bool × ℕ × List ℕ). x.2) s }
    go false q h r = r h

-- a message whose tag is known, by its row
pub row : (m : List ℕ) → (paper (message_at m)).known ≡ true → Row (le_at 2 m 0) (message_at m) m
unfolding message_at
row m h = row_in kinds (le_at 2 m 0) m (all_due m) h
