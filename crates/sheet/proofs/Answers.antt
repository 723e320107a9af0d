-- The calls on sheets: the code's answers against the definitions.
-- Assumes nothing.
use mathlib.Core.Path.{◌≡◌, sym, ap, ◌∙◌}
use mathlib.Core.Bool.{true, false}
use mathlib.Core.List.{List, ◌++◌}
use Prim.Native.Nat.{ℕ, ◌≤◌, min}
use native.Mathlib.Decide.{dec_le}
use native.Mathlib.Omega.{arith}
use lib.ListN.{length, take, drop, take-append-drop, drop_of_length-le}
use lib.Seq.{take_all, take_at, drop_at, length-take-le}
use borrow.Rule.Slice.PartMut.{put_mid}
use Rattle.answer.specs.Numbers.{SHAPE}
use Rattle.answer.specs.Outcome.{taken, refused, checked}
use Rattle.answer.specs.Calls.{asked}
use Rattle.answer.proofs.Checks.{and_true, asked_stop, asked-pass, pass-checked}
use Rattle.entries.specs.States.{cpu_length, extends}
use Rattle.entries.proofs.States.{two_wide}
use Rattle.fields.specs.declared.State.TheVariants.{Cpu}
use Rattle.fields.specs.Fields.{right_length, state_checks}
use Rattle.sheet.specs.declared.CpuSheet.{CpuSheet}
use Rattle.sheet.specs.Sheet.{cpu_of, fields_over, cpu_over}
use Rattle.sheet.specs.Calls.{matches, cpu_call, cpu_over_checks, cpu_over_call}

-- ---- lengths

pub cpu_wide : (s : List ℕ) → right_length Cpu s ≡ true → 1183 ≤ length s
cpu_wide s h = two_wide (length s) (and_true (cpu_length 2 (length s)) (extends s) h).0

pub cpu_long : (s : List ℕ) → taken tt ≡ asked (state_checks Cpu s) → 1183 ≤ length s
unfolding state_checks
cpu_long s e = cpu_wide s (asked-pass (state_checks Cpu s) e).0

-- ---- reading

pub cpu_fault : (s : List ℕ) {n p : ℕ} → refused n p ≡ asked (state_checks Cpu s) → cpu_call s ≡ refused n p
unfolding cpu_call
cpu_fault s e = asked_stop (state_checks Cpu s) (taken (cpu_of s)) e

pub cpu_fine : (s : List ℕ) {c : CpuSheet} → taken tt ≡ asked (state_checks Cpu s) → c ≡ cpu_of s → cpu_call s ≡ taken c
unfolding cpu_call
cpu_fine s e f = pass-checked (state_checks Cpu s) (taken (cpu_of s)) (asked-pass (state_checks Cpu s) e) ∙ ap taken (sym f)

-- ---- writing over a state

-- the first n bytes, all of them or 1191
module _ (s : List ℕ) {n : ℕ} (e : n ≡ min (length s) 1191) where
  pub reach_take : take n s ≡ take 1191 s
  reach_take = go (dec_le (length s) 1191)
    where
      go : Dec (length s ≤ 1191) → take n s ≡ take 1191 s
      go (yes h) = take_all n s (omega arith) ∙ sym (take_all 1191 s h)
      go (no h) = let f : n ≡ 1191 = omega arith in ap (λ (k : ℕ). take k s) f

  pub reach_drop : drop n s ≡ drop 1191 s
  reach_drop = go (dec_le (length s) 1191)
    where
      go : Dec (length s ≤ 1191) → drop n s ≡ drop 1191 s
      go (yes h) = let g : length s ≤ n = omega arith in drop_of_length-le s g ∙ sym (drop_of_length-le s h)
      go (no h) = let f : n ≡ 1191 = omega arith in ap (λ (k : ℕ). drop k s) f

  -- the fields over them, and the others as they were
  pub reach_over : (c : CpuSheet) {x : List ℕ} → x ≡ fields_over c (take n s) → x ++ drop n s ≡ cpu_over c s
  reach_over c h = rw (h, reach_take, reach_drop)

  -- kept aside, and stored again
  pub restored : (zs x : List ℕ) {old back : List ℕ} → length x ≡ length (take n s) → old ≡ take n s → back ≡ take n (put_mid 0 n zs old) → put_mid 0 n (x ++ drop n s) back ≡ s
  restored zs x {old} {back} l f g =
      let m : length (take n s) ≡ n = length-take-le n s (omega arith) in
      let same : back ≡ take n s = g ∙ take_at old (drop n zs) n (ap length f ∙ m) ∙ f in
      let rest : drop n (x ++ drop n s) ≡ drop n s = drop_at x (drop n s) n (l ∙ m) in
      ap (λ (b : List ℕ). b ++ drop n (x ++ drop n s)) same ∙ ap (λ (b : List ℕ). take n s ++ b) rest ∙ take-append-drop n s

-- asked of the state as it would be
module _ (c : CpuSheet) (s : List ℕ) where
  pub over-length : right_length Cpu s ≡ false → cpu_over_call c s ≡ refused SHAPE 0
  unfolding cpu_over_call cpu_over_checks
  over-length e = rw e

  pub over_apart : right_length Cpu s ≡ true → matches c.extension (length s) ≡ false → cpu_over_call c s ≡ refused SHAPE 0
  unfolding cpu_over_call cpu_over_checks
  over_apart e f = rw (e, f)

  pub over-stored : right_length Cpu s ≡ true → matches c.extension (length s) ≡ true → cpu_over_call c s ≡ checked (state_checks Cpu (cpu_over c s)) (taken (cpu_over c s))
  unfolding cpu_over_call cpu_over_checks
  over-stored e f = rw (e, f)
