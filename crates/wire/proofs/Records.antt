-- A record: numbers stored one after another from the start of lent memory.
-- Assumes nothing.
use mathlib.Core.Path.{◌≡◌, ◌∙◌, ap}
use mathlib.Core.List.{List, [], ◌∷◌, ◌++◌, append_assoc, append-nil}
use Prim.Native.Nat.{ℕ, ◌+◌, ◌≤◌}
use native.Mathlib.Nat.{zero-add, add_assoc}
use native.Mathlib.Omega.{arith}
use lib.ListN.{length}
use Rattle.wire.specs.Numbers.{bytes_of}
use Rattle.wire.specs.Parts.{put, Wrote}
use Rattle.wire.proofs.Numbers.{length-bytes_of}
use Rattle.wire.proofs.Parts.{none, wrote_put, length-put}

-- fields: how many bytes, and the number
abbrev pub Fields : Type 0
Fields = List (ℕ × ℕ)

abbrev pub field_bytes : Fields → List ℕ
field_bytes [] = []
field_bytes (f ∷ []) = bytes_of f.0 f.1
field_bytes (f ∷ (g ∷ l)) = bytes_of f.0 f.1 ++ field_bytes (g ∷ l)

abbrev pub fields_length : Fields → ℕ
fields_length [] = 0
fields_length (f ∷ l) = f.0 + fields_length l

-- P holds of the memory once each field is put behind the one before it, from a place on
abbrev pub Stored : Fields → ℕ → List ℕ → (List ℕ → Type 0) → Type 0
Stored [] at now P = P now
Stored (f ∷ l) at now P = (new : List ℕ) → new ≡ put at (bytes_of f.0 f.1) now → Stored l (at + f.0) new P

stored_one : (f : ℕ × ℕ) {w old mid new : List ℕ} {at : ℕ} → Wrote w old mid at → at + f.0 ≤ length mid → new ≡ put at (bytes_of f.0 f.1) mid → Wrote (w ++ bytes_of f.0 f.1) old new (at + f.0)
stored_one f so h e = let n : length (bytes_of f.0 f.1) ≡ f.0 = length-bytes_of f.0 f.1 in rw n at (wrote_put so (bytes_of f.0 f.1) (omega arith) e)

stored_from : (l : Fields) {w old mid : List ℕ} {at : ℕ} → Wrote w old mid at → at + fields_length l ≤ length mid → Stored l at mid (λ new. Wrote (w ++ field_bytes l) old new (at + fields_length l))
stored_from [] so h = record { count = rw append-nil (omega (arith, so.count)); bytes = rw append-nil so.bytes }
stored_from (f ∷ []) so h = λ new e. let one = stored_one f so (omega arith) e in record { count = omega (arith, one.count); bytes = one.bytes }
stored_from (f ∷ (g ∷ l)) {w} {old} {mid} {at} so h = λ new e.
    let long : length new ≡ length mid = ap length e ∙ length-put at (bytes_of f.0 f.1) mid in
    rw (← append_assoc w (bytes_of f.0 f.1) (field_bytes (g ∷ l)), ← add_assoc at f.0 (fields_length (g ∷ l))) (stored_from (g ∷ l) (stored_one f so (omega arith) e) (omega arith))

-- the whole record, written over the start
pub stored_record : (l : Fields) (old : List ℕ) → fields_length l ≤ length old → Stored l 0 old (λ new. Wrote (field_bytes l) old new (fields_length l))
stored_record l old h = rw (zero-add (fields_length l)) at (stored_from l (none old) (omega arith))
