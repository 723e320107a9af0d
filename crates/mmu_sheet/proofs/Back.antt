-- The sheet of one MMU state written over another: its fields are the first's; so read and written back over it, a state stays as it is.
-- Assumes nothing.
use mathlib.Core.Path.{◌≡◌}
use mathlib.Core.List.{List}
use Prim.Native.Nat.{ℕ, ◌+◌, ◌≤◌}
use native.Mathlib.Omega.{arith}
use lib.ListN.{length}
use Rattle.wire.specs.Numbers.{Bytes}
use Rattle.registers.proofs.Mixed.{mix, number, words_mix, segment_mix, all_mix}
use Rattle.mmu_sheet.specs.Sheet.{bound_at, bound_over, mmu_of, mmu_over}

module _ (s t : List ℕ) (b : Bytes s) (n : length t ≤ length s) where
  bound_mix : (k : ℕ) → k + 10 ≤ length t → bound_over k (bound_at s k) (mix s t k) ≡ mix s t (k + 10)
  bound_mix k h = let e : k + 8 + 2 ≡ k + 10 = omega arith in rw (number s t b n k 8 (omega arith), number s t b n (k + 8) 2 (omega arith), e)

  pub mmu-over : length s ≡ 264 → length t ≡ 264 → mmu_over (mmu_of s) t ≡ s
  mmu-over e f =
      rw (words_mix s t b n 0 5 (omega arith), words_mix s t b n 40 8 (omega arith), words_mix s t b n 104 13 (omega arith), bound_mix 208 (omega arith), bound_mix 218 (omega arith), segment_mix s t b n 228 (omega arith), segment_mix s t b n 246 (omega arith)) (all_mix s t b n 264 e)
