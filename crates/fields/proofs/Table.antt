-- The table of fields: each field lies within a few thousand bytes.
-- Assumes nothing.
use mathlib.Core.Path.{◌≡◌, refl, subst⁻¹}
use mathlib.Core.Logic.{◌⊎◌, inl, inr}
use mathlib.Core.Bool.{Bool, true, false, ◌&&◌, ◌||◌}
use mathlib.Core.List.{List, [], ◌∷◌}
use Prim.Native.Nat.{ℕ, zero, suc, ◌+◌, ◌-◌, ◌*◌, ◌≤◌, ◌<◌}
use native.Mathlib.Nat.{le_trans, mul-le-mul_left, mul-le-mul_right}
use native.Mathlib.Omega.{arith}
use lib.Dec.{leb}
use lib.ListN.{get_or}
use borrow.Author.Tests.{leb-true}
use Rattle.answer.proofs.Checks.{and_true}
use Rattle.fields.specs.declared.Row.{Row}
use Rattle.fields.specs.declared.State.{State}
use Rattle.fields.specs.declared.State.TheVariants.{Cpu, Mmu}
use Rattle.fields.specs.Layout.{no_row, field_table, row_at}

-- ---- no field is long, or far from the start

pub record Small (r : Row) : Type 0 where
  pub at : r.at ≤ 2048
  pub width : r.width ≤ 512
  pub count : r.count ≤ 16
  pub step : r.step ≤ 512

abbrev small : Row → Bool
small r = leb r.at 2048 && leb r.width 512 && leb r.count 16 && leb r.step 512

abbrev all : List Row → Bool
all [] = true
all (r ∷ l) = small r && all l

decode : (r : Row) → small r ≡ true → Small r
decode r e =
    let x = and_true (leb r.at 2048 && leb r.width 512 && leb r.count 16) (leb r.step 512) e in
    let y = and_true (leb r.at 2048 && leb r.width 512) (leb r.count 16) x.0 in
    let z = and_true (leb r.at 2048) (leb r.width 512) y.0 in
    record { at = leb-true _ _ z.0; width = leb-true _ _ z.1; count = leb-true _ _ y.1; step = leb-true _ _ x.1 }

each : (l : List Row) (n : ℕ) → all l ≡ true → small (get_or l n no_row) ≡ true
each [] n e = refl
each (r ∷ l) zero e = (and_true (small r) (all l) e).0
each (r ∷ l) (suc n) e = each l n (and_true (small r) (all l) e).1

pub small_row : (k : State) (n : ℕ) → Small (row_at k n)
unfolding row_at
small_row Cpu n = decode (get_or (field_table Cpu) n no_row) (each (field_table Cpu) n refl)
small_row Mmu n = decode (get_or (field_table Mmu) n no_row) (each (field_table Mmu) n refl)

-- ---- no field meets the extension's length

abbrev clear : Row → Bool
clear r = leb (r.at + (r.count - 1) * r.step + r.width) 1183 || leb 1187 r.at

abbrev all_clear : List Row → Bool
all_clear [] = true
all_clear (r ∷ l) = clear r && all_clear l

each_clear : (l : List Row) (n : ℕ) → all_clear l ≡ true → clear (get_or l n no_row) ≡ true
each_clear [] n e = refl
each_clear (r ∷ l) zero e = (and_true (clear r) (all_clear l) e).0
each_clear (r ∷ l) (suc n) e = each_clear l n (and_true (clear r) (all_clear l) e).1

cpu_clear : (n : ℕ) → clear (row_at Cpu n) ≡ true
unfolding row_at
cpu_clear n = each_clear (field_table Cpu) n refl

pub apart : (n i : ℕ) → i < (row_at Cpu n).count → ((row_at Cpu n).at + i * (row_at Cpu n).step + (row_at Cpu n).width ≤ 1183) ⊎ (1187 ≤ (row_at Cpu n).at + i * (row_at Cpu n).step)
apart n i h = go (row_at Cpu n) h (leb ((row_at Cpu n).at + ((row_at Cpu n).count - 1) * (row_at Cpu n).step + (row_at Cpu n).width) 1183) refl (cpu_clear n)
  where
    go : (r : Row) → i < r.count → (b : Bool) → leb (r.at + (r.count - 1) * r.step + r.width) 1183 ≡ b → (b || leb 1187 r.at) ≡ true → (r.at + i * r.step + r.width ≤ 1183) ⊎ (1187 ≤ r.at + i * r.step)
    go r g true e k =
        let m : i ≤ r.count - 1 = omega arith in
        inl (omega (arith, leb-true (r.at + (r.count - 1) * r.step + r.width) 1183 e, mul-le-mul_right r.step m))
    go r g false e k = inr (omega (arith, leb-true 1187 r.at k))

-- ---- a row that the code looked up

module _ (k : State) (n : ℕ) {r : Row} (e : r ≡ row_at k n) where
  pub small_is : Small r
  small_is = subst⁻¹ Small e (small_row k n)

  module _ (i : ℕ) where
    pub stride : i < r.count → i * r.step ≤ 8192
    stride h =
        let s = small_is in
        let g : i ≤ 16 = omega (arith, h, s.count) in
        le_trans (mul-le-mul_right r.step g) (mul-le-mul_left 16 s.step)
