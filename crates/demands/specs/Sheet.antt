-- Request 6 of document 02, the register sheet: fields read and set, sheets read and written back, and the access word.
-- They are statements only; proofs/ has their proofs. The layout stands in crates/fields/specs (Layout), the calls in crates/fields/specs (Fields) and
-- crates/sheet/specs and crates/mmu_sheet/specs (Calls), which member of a sheet is which field beside them (Members). By its promise a call answers its outcome and leaves what `changed` says.
-- Assumes nothing.
use Rattle.std.specs.Prelude.{◌≡◌, ◌≢◌, ◌↔◌, ◌⊎◌, true, List, [], ◌∷◌, ◌++◌, ℕ, ◌+◌, ◌≤◌, ◌<◌, leb, length, take, drop, get_or}
use Rattle.answer.specs.declared.Answer.{Answer}
use Rattle.answer.specs.Numbers.{SHAPE, VALUE, is_among}
use Rattle.answer.specs.Outcome.{Outcome, taken, refused, Pass, First, room, fitting}
use Rattle.answer.specs.Calls.{asked}
use Rattle.wire.specs.Numbers.{Bytes}
use Rattle.access.specs.Access.{access_of, Shows}
use Rattle.fields.specs.declared.State.{State}
use Rattle.fields.specs.declared.State.TheVariants.{Cpu, Mmu}
use Rattle.fields.specs.Layout.{row_at}
use Rattle.fields.specs.Fields.{state_checks, field_place, has_in, bytes_at, field_checks, field_call, set_to, set_checks, set_call, Changes}
use Rattle.sheet.specs.declared.CpuSheet.{CpuSheet}
use Rattle.mmu_sheet.specs.declared.MmuSheet.{MmuSheet}
use Rattle.sheet.specs.declared.CpuShown.{CpuShown}
use Rattle.mmu_sheet.specs.declared.MmuShown.{MmuShown}
use Rattle.sheet.specs.Sheet.{cpu_of, fields_over, cpu_over}
use Rattle.sheet.specs.Members.{cpu_member}
use Rattle.sheet.specs.Calls.{cpu_count, cpu_shown, cpu_call, cpu_over_checks, cpu_over_call}
use Rattle.mmu_sheet.specs.Sheet.{mmu_of}
use Rattle.mmu_sheet.specs.Members.{mmu_member}
use Rattle.mmu_sheet.specs.Calls.{mmu_shown, mmu_call, mmu_over_call}
use Rattle.demands.specs.Demand1.{Fills}

-- a state is accepted: its length, and its values
abbrev pub Accepted : State → List ℕ → Type 0
Accepted k s = asked (state_checks k s) ≡ taken tt

-- the state has field n with index i
abbrev pub HasField : State → ℕ → ℕ → List ℕ → Type 0
HasField k n i s = has_in (row_at k n) i (length s) ≡ true

-- ---- one field, of either kind of state

pub record FieldReading (k : State) : Type 0 where
  -- Demand 1: its numbers, every byte of lent memory, ROOM
  pub fills : (s : List ℕ) (n i : ℕ) → Fills (λ have. field_call k have s n i)
  -- the field's bytes exactly if the state is accepted and has it, and there is room
  pub takes : (have n i : ℕ) (s x : List ℕ) → (field_call k have s n i ≡ taken x) ↔ (Accepted k s × HasField k n i s × (length x ≤ have) × (x ≡ bytes_at (row_at k n) i s))
  -- else the first check that fails, ROOM last
  pub refuses : (have n i : ℕ) (s : List ℕ) (m p : ℕ)
      → (field_call k have s n i ≡ refused m p) ↔ First (field_checks k (row_at k n) i s ++ room have (length (bytes_at (row_at k n) i s))) m p

pub record Setting (k : State) : Type 0 where
  -- taken exactly if the state has the field, the value is as wide as it, and the state as it would be is accepted; it is that state then
  pub takes : (n i : ℕ) (v s t : List ℕ) → (set_call k s n i v ≡ taken t) ↔ (HasField k n i s × (length v ≡ (row_at k n).width) × Accepted k t × (t ≡ set_to (row_at k n) i v s))
  -- else the first check that fails
  pub refuses : (n i : ℕ) (v s : List ℕ) (m p : ℕ) → (set_call k s n i v ≡ refused m p) ↔ First (set_checks k (row_at k n) i v s) m p
  pub numbers : (n i : ℕ) (v s : List ℕ) (m p : ℕ) → set_call k s n i v ≡ refused m p → is_among (SHAPE ∷ VALUE ∷ []) m ≡ true
  -- that field's bytes and no other: whatever a call that meets the promise leaves has the same length and the same bytes before the field and behind it
  pub only : (n i : ℕ) (v s new : List ℕ) (r : Answer) → Changes (length v) (set_call k s n i v) s r new
      → (length new ≡ length s) × ((j : ℕ) → (j < field_place (row_at k n) i) ⊎ (field_place (row_at k n) i + (row_at k n).width ≤ j) → get_or new j 0 ≡ get_or s j 0)
  -- what is set is what is then read
  pub back : (n i have : ℕ) (v s t : List ℕ) → set_call k s n i v ≡ taken t → field_call k have t n i ≡ fitting have v
  -- what is read, set again, changes nothing
  pub same : (n i have : ℕ) (v s : List ℕ) → field_call k have s n i ≡ taken v → set_call k s n i v ≡ taken s

-- a call that changes a state in place, a set or a sheet written over it: refused, it leaves the state as it was, and number and place are those of the first check
-- that fails; taken, it names how many bytes it stored
pub record InPlace : Type 0 where
  pub stays : (count : ℕ) (o : Outcome (List ℕ)) (s new : List ℕ) (r : Answer) → Changes count o s r new → r.number ≢ 0 → new ≡ s
  pub refuses : (count : ℕ) (o : Outcome (List ℕ)) (s new : List ℕ) (r : Answer) (m p : ℕ) → Changes count o s r new → o ≡ refused m p → (r.number ≡ m) × (r.place ≡ p) × (new ≡ s)
  pub takes : (count : ℕ) (o : Outcome (List ℕ)) (s new t : List ℕ) (r : Answer) → Changes count o s r new → o ≡ taken t → (r.number ≡ 0) × (r.place ≡ count) × (new ≡ t)

-- ---- whole sheets

pub record CpuSheets : Type 0 where
  pub takes : (s : List ℕ) (c : CpuSheet) → (cpu_call s ≡ taken c) ↔ (Accepted Cpu s × (c ≡ cpu_of s))
  pub refuses : (s : List ℕ) (m p : ℕ) → (cpu_call s ≡ refused m p) ↔ First (state_checks Cpu s) m p
  -- each member is the field that `cpu_field` reads
  pub members : (s : List ℕ) (c : CpuSheet) → Bytes s → cpu_call s ≡ taken c → (have n i : ℕ) → HasField Cpu n i s → field_call Cpu have s n i ≡ fitting have (cpu_member c n i)
  pub extended : (s : List ℕ) (c : CpuSheet) → cpu_call s ≡ taken c → c.extension.there ≡ leb 1191 (length s)
  -- the sheet of one accepted state written over another of its length: every byte up to 1191 is the first's, and those behind stay
  pub over : (s t new : List ℕ) (x : CpuShown) (r : Answer) → Bytes s → Bytes t → Accepted Cpu s → Accepted Cpu t → length t ≡ length s → x ≡ cpu_shown (cpu_call s)
      → Changes (cpu_count (length t)) (cpu_over_call x.sheet t) t r new → (r.number ≡ 0) × (new ≡ take 1191 s ++ drop 1191 t)
  -- whatever the sheet, bytes past 1191 stay
  pub past : (c : CpuSheet) (s : List ℕ) → drop 1191 s ≡ drop (length (fields_over c (take 1191 s))) (cpu_over c s)
  -- read and written back over its state: nothing changes
  pub back : (s new : List ℕ) (x : CpuShown) (r : Answer) → Bytes s → Accepted Cpu s → x ≡ cpu_shown (cpu_call s) → Changes (cpu_count (length s)) (cpu_over_call x.sheet s) s r new
      → (r.number ≡ 0) × (new ≡ s)
  pub over-takes : (c : CpuSheet) (s t : List ℕ) → (cpu_over_call c s ≡ taken t) ↔ (Pass (cpu_over_checks c s) × (t ≡ cpu_over c s))
  pub over_refuses : (c : CpuSheet) (s : List ℕ) (m p : ℕ) → (cpu_over_call c s ≡ refused m p) ↔ First (cpu_over_checks c s) m p

pub record MmuSheets : Type 0 where
  pub takes : (s : List ℕ) (m : MmuSheet) → (mmu_call s ≡ taken m) ↔ (Accepted Mmu s × (m ≡ mmu_of s))
  pub members : (s : List ℕ) (m : MmuSheet) → Bytes s → mmu_call s ≡ taken m → (have n i : ℕ) → HasField Mmu n i s → field_call Mmu have s n i ≡ fitting have (mmu_member m n i)
  pub over : (s t new : List ℕ) (x : MmuShown) (r : Answer) → Bytes s → Accepted Mmu s → Accepted Mmu t → x ≡ mmu_shown (mmu_call s)
      → Changes 264 (mmu_over_call x.sheet t) t r new → (r.number ≡ 0) × (new ≡ s)
  pub back : (s new : List ℕ) (x : MmuShown) (r : Answer) → Bytes s → Accepted Mmu s → x ≡ mmu_shown (mmu_call s) → Changes 264 (mmu_over_call x.sheet s) s r new
      → (r.number ≡ 0) × (new ≡ s)

-- ---- the access word

pub record AccessWords : Type 0 where
  -- the sum of its parts at their places, each as wide as its bits, and the rest has none of theirs
  pub shows : (w : ℕ) → Shows w (access_of w)
  -- determined by them
  pub determined : (w v : ℕ) → access_of w ≡ access_of v → w ≡ v

pub record Sheet : Type 0 where
  pub reading : (k : State) → FieldReading k
  pub setting : (k : State) → Setting k
  pub in_place : InPlace
  pub cpu : CpuSheets
  pub mmu : MmuSheets
  pub access : AccessWords
