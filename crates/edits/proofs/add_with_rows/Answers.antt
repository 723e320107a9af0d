use Rattle.edits.specs.Rows.{RowsFor}
use mathlib.Core.Logic.{◌⊎◌, inl, inr}
use mathlib.Core.List.{List}
use mathlib.Core.Path.{◌≡◌}
use native.Mathlib.Decide.{dec_lt}
use Prim.Native.Nat.{ℕ, ◌/◌, ◌≤◌, ◌<◌, min}
use lib.ListN.{length, take, replicate, length-replicate}
use lib.Seq.{length-take-le}
use native.Mathlib.Omega.{arith}
use Rattle.edits.proofs.add_with_rows.Goals as goal

-- as many of m places as the table has rows, where these are as many as are looked at
rows_for : (t : List ℕ) (n m : ℕ) → n ≡ min (length t / 24) m → m ≤ 4097 → (length t / 24 ≤ m) ⊎ (m ≡ 4097) → RowsFor t (length {A = ℕ} (take n (replicate m 0)))
rows_for t n m e h k =
    let z : length {A = ℕ} (take n (replicate m 0)) ≡ n = length-take-le n (replicate m 0) (rw (length-replicate {A = ℕ} m 0) (omega arith)) in
    record { few = omega arith; rows = omega arith; all = go k (dec_lt m (length t / 24)) }
  where
    go : (length t / 24 ≤ m) ⊎ (m ≡ 4097) → Dec (m < length t / 24) → (length t / 24 ≤ length {A = ℕ} (take n (replicate m 0))) ⊎ (length {A = ℕ} (take n (replicate m 0)) ≡ 4097)
    go (inl a) d = inl (omega (arith, length-take-le {A = ℕ} n (replicate m 0) (rw (length-replicate {A = ℕ} m 0) (omega arith))))
    go (inr b) (yes d) = inr (omega (arith, length-take-le {A = ℕ} n (replicate m 0) (rw (length-replicate {A = ℕ} m 0) (omega arith))))
    go (inr b) (no d) = inl (omega (arith, d, length-take-le {A = ℕ} n (replicate m 0) (rw (length-replicate {A = ℕ} m 0) (omega arith))))

pub add_rows-requires : goal.add_rows-requires
add_rows-requires g c = (c.requires.lists.0, c.requires.lists.1, rows_for c.args.table.now c.min-n.result g.row.N c.min-n.ensures c.requires.places.0 c.requires.places.1)
