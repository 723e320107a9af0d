-- The records of a table of new devices.
-- Assumes nothing.
use mathlib.Core.Path.{◌≡◌, sym, ap, ◌∙◌}
use mathlib.Core.Bool.{Bool, true, cond}
use mathlib.Core.List.{List, ◌++◌}
use Prim.Native.Nat.{ℕ, ◌+◌, ◌-◌, ◌≤◌, ◌<◌}
use native.Mathlib.Omega.{arith}
use borrow.Author.Tests.{leb-true, lt-ltb, le-ltb, le-leb, lt-leb}
use lib.Dec.{leb}
use lib.ListN.{length, take, drop, length-append, take-append-drop}
use lib.Seq.{length-take-le}
use Rattle.wire.specs.Parts.{put, Wrote}
use Rattle.wire.proofs.Numbers.{length-bytes_of}
use Rattle.wire.proofs.Parts.{put_tested, as_splice, wrote_tail}
use Rattle.aerosnap.specs.declared.NewDevice.{NewDevice}
use Rattle.newcomers.specs.Records.{looked_at, record_of, record_put, stored_in}

pub length_record : (d : NewDevice) → length (record_of d) ≡ 24
length_record d = simp (length-append, length-bytes_of)

whole : (at : ℕ) (old : List ℕ) → at ≤ length old → Wrote (take at old) old old at
whole at old h = record { count = sym (length-take-le at old h); bytes = sym (rw (length-take-le at old h) (take-append-drop at old)) }

-- bytes written over the start of the tail from a place are put there
pub put-at : (at : ℕ) (bs old : List ℕ) → length bs ≡ 24 → leb (at + 24) (length old) ≡ true → {new : List ℕ} → Wrote bs (take (length old - at) (drop at old)) new 24
    → take at old ++ (new ++ drop (length old - at) (drop at old)) ≡ put at bs old
put-at at bs old n t so =
    let g : at + 24 ≤ length old = leb-true _ _ t in
    let h : at ≤ length old = omega arith in
    put_tested at bs old n t (as_splice old bs _ at (at + 24) h (wrote_tail (whole at old h) so))

-- a record of an entry that is looked at, and of one that is not
pub near_stored : (i : ℕ) (d : NewDevice) (old : List ℕ) {new : List ℕ} → i < 4097 → new ≡ record_put i d old → (i + 1 ≡ looked_at (i + 1)) × (new ≡ stored_in i d old)
near_stored i d old h e = (sym (ap (λ (t : Bool). cond t (i + 1) 4097) (le-leb (i + 1) 4097 (omega arith))), e ∙ sym (ap (λ (t : Bool). cond t (record_put i d old) old) (lt-ltb i 4097 h)))

pub far_stored : (i : ℕ) (d : NewDevice) (old : List ℕ) → 4097 ≤ i → (4097 ≡ looked_at (i + 1)) × (old ≡ stored_in i d old)
far_stored i d old h = (sym (ap (λ (t : Bool). cond t (i + 1) 4097) (lt-leb (i + 1) 4097 (omega arith))), sym (ap (λ (t : Bool). cond t (record_put i d old) old) (le-ltb i 4097 h)))
