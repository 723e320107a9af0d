-- Numbers that stand there whole, read from the part of the bytes that they are. Assumes nothing.
use Rattle.std.proofs.Common.{◌≡◌, ℕ, ◌+◌, ◌-◌, ◌≤◌, List, length, take, drop, sym, arith, length-drop, length-take-le, take_all}
use Rattle.wire.specs.Numbers.{le_at}
use Rattle.wire.proofs.Numbers.{le_at-zero}
use Rattle.wire.proofs.Splices.{le_at_part}

pub part_is : (n : ℕ) (s : List ℕ) (at : ℕ) → at + n ≤ length s → le_at n (take (at + n - at) (drop at s)) 0 ≡ le_at n s at
part_is n s at h =
    let e : at + n - at ≡ n = omega arith in
    let l : length (take n (drop at s)) ≡ n = length-take-le n (drop at s) (rw length-drop (omega arith)) in
    rw (e, le_at-zero n (take n (drop at s)), take_all n (take n (drop at s)) (omega arith)) (sym (le_at_part n s at))
