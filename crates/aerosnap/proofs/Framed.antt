-- What is framed, a section or a device's entry, reads back as its numbers and its payload.
-- Assumes nothing.
use mathlib.Core.Path.{◌≡◌, refl}
use mathlib.Core.List.{List, ◌++◌}
use Prim.Native.Nat.{ℕ, ◌+◌, ◌<◌}
use native.Mathlib.Omega.{arith}
use lib.ListN.{length, drop}
use Rattle.wire.specs.Numbers.{le_at, bytes_of}
use Rattle.wire.proofs.Numbers.{le-bytes_of, le_at-bytes_of}
use Rattle.aerosnap.specs.File.{id_of, version_of, flags_of, length_of}
use Rattle.aerosnap.specs.Content.{framed}

pub length-framed : (id v f : ℕ) (p : List ℕ) → length (framed id v f p) ≡ 16 + length p
unfolding bytes_of
length-framed id v f p = omega arith

pub record ReadsFramed (e : List ℕ) (id v f : ℕ) (p : List ℕ) : Type 0 where
  pub id_is : id_of e ≡ id
  pub version_is : version_of e ≡ v
  pub flags_is : flags_of e ≡ f
  pub whole : length e ≡ 16 + length_of e
  pub payload_is : drop 16 e ≡ p

pub framed_reads : (id v f : ℕ) (p : List ℕ) → id < 4294967296 → v < 65536 → f < 65536 → length p < 18446744073709551616 → ReadsFramed (framed id v f p) id v f p
unfolding le_at bytes_of
framed_reads id v f p i j k n =
    let w : length_of (framed id v f p) ≡ length p = le-bytes_of 8 (length p) n in
    record { id_is = le-bytes_of 4 id i; version_is = le-bytes_of 2 v j; flags_is = le-bytes_of 2 f k; whole = omega arith; payload_is = refl }

-- the id, however long the payload is
pub framed_id : (id v f : ℕ) (p : List ℕ) → id < 4294967296 → id_of (framed id v f p) ≡ id
framed_id id v f p i = le_at-bytes_of 4 id (bytes_of 2 v ++ (bytes_of 2 f ++ (bytes_of 8 (length p) ++ p))) i
