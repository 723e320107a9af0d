-- An array of bytes in a slot of a function's own, as the walk has it: written whole with zeros, then its cells side by side, which a slice can be lent of, and at the end a slot that can be freed.
-- N is a variable here, so nothing computes on a long array.
-- Assumes `Logic`.
use mathlib.Core.Path.{◌≡◌, refl}
use mathlib.Core.List.{List, [], ◌∷◌}
use Prim.Native.Nat.{ℕ, zero, suc}
use lib.ListN.{length, replicate, length-replicate}
use lib.Dec.{T, lit<}
use seplogic.Ra.Ura.{Ura}
use base.Fraction.{full_share}
use mir.Syntax.{Width, int_big, w8, ty_int, ty_array}
use mir.Val.{Val, vint, Fits, WT, has_ty}
use base.Logic.{ent, ex, via, guard_i}
use base.Fml.{fat, froom}
use prog.Wp.{Env}
use types.Logic.{Logic, sem}
use types.Kit.{Item, ‵, ◌⊛◌, some, ◌$◌, ◌∵◌, !, qed, keep, drop, use0, use1, use2, split, pick, fsplit, fjoin, feq_i, show, done}
use types.Run.{Opd, forget}
use types.SemTy.{cells, Arr}
use types.Share.{arr_parts}
use denote.Memory.{part_at, mem, shares}
use denote.Shadow.{shadow}
use denote.Plain.{uint_Makes, uint_Lawful, uint_copy}
use denote.Builtin.{u8}
use denote.Index.{row, whole_in, whole_out}
use denote.Array.{Array, array_val, each, Array-Typed, Array-repeat}
use denote.ArrayMemory.{Array-apart, Array-whole}
use borrow.Table.OneValue.{part_in, part_out}

abbrev zero_val : Val
zero_val = vint w8 0

-- the machine value of N zeros
abbrev pub zeros : ℕ → Val
zeros N = array_val (replicate N zero_val)

each-zero : (n : ℕ) → shadow (each ℕ u8.own_val (replicate n 0) (replicate n zero_val))
each-zero zero = tt
each-zero (suc n) = ((refl, lit< tt), each-zero n)

-- it has the array's type
pub zeros_typed : {M : Type 1} {𝓤 : Ura M} (𝓛 : Logic 𝓤) (N : ℕ) → T (has_ty (ty_array (ty_int w8) N) (zeros N)) × WT (zeros N)
zeros_typed 𝓛 N = (Array-Typed u8 (uint_Lawful 𝓛 w8).typed N (replicate N 0) (zeros N ∷ []) (replicate N zero_val, ((refl, length-replicate N 0), each-zero N))).0

-- a large constant: its bound is shown, not computed
pub big_lit : {M : Type 1} {𝓤 : Ura M} {𝓛 : Logic 𝓤} {K : Type 0} {Γ : List (Item 𝓤)} {E : Env 𝓤 𝓛.H} → K → {w : Width} {n : ℕ} → Fits w n → Opd K 𝓛 Γ E (int_big w n) (vint w n)
big_lit {𝓤 = 𝓤} t {w} {n} z = record { go = λ Kt h. via 𝓤 (Kt (vint w n)) h (guard_i 𝓤 (Fits w n) (Kt (vint w n)) z) }

module _ {M : Type 1} {𝓤 : Ura M} (𝓛 : Logic 𝓤) (N b : ℕ) where
  -- the slot that was written whole is N cells of some list
  pub array_made : ent 𝓤 (sem 𝓛 (fat full_share (ty_array (ty_int w8) N) b 0 (zeros N))) (ex 𝓤 (λ (zs : List ℕ). sem 𝓛 ((Arr (mem u8) N).own_at zs b 0)))
  array_made =
      qed 𝓛 (‵ (fat full_share (ty_array (ty_int w8) N) b 0 (zeros N)) ∷ []) ∵
      use0 𝓛 (‵ (u8.own_val 0 (zero_val ∷ []))) (uint_Makes 𝓛 w8 0 (zero_val ∷ []) (refl, lit< tt)) $
      use1 𝓛 (‵ ((Array u8 N).own_val (replicate N 0) (zeros N ∷ []))) (Array-repeat 𝓛 u8 (uint_copy 𝓛 w8) N 0 zero_val) $ keep ! (1 ∷ 0 ∷ []) $
      use2 𝓛 (‵ (part_at (Array u8 N) full_share (replicate N 0) b 0)) (part_in 𝓛 (Array u8 N) refl full_share (replicate N 0) b 0 (zeros N)) $
      use1 𝓛 (‵ ((arr_parts (shares u8) N).part full_share (replicate N 0) b 0)) (Array-apart 𝓛 u8 full_share tt N (replicate N 0) b 0) $ fsplit ! $ drop ! $
      use1 𝓛 (‵ (cells (mem u8) (replicate N 0) b 0)) (whole_in 𝓛 u8 (replicate N 0) b 0) $ feq_i ! ℕ (length (replicate N 0)) N (length-replicate N 0) $ fjoin ! $
      show ! (λ (zs : List ℕ). sem 𝓛 ((Arr (mem u8) N).own_at zs b 0)) (replicate N 0) $ done !

  -- N cells are a slot that can be freed
  pub array_ended : (zs : List ℕ) → length zs ≡ N → ent 𝓤 (sem 𝓛 (cells (mem u8) zs b 0)) (sem 𝓛 (froom (ty_array (ty_int w8) N) b 0))
  array_ended zs l =
      qed 𝓛 (‵ (cells (mem u8) zs b 0) ∷ []) ∵ use1 𝓛 (‵ (row u8 full_share zs b 0)) (whole_out 𝓛 u8 zs b 0) $ feq_i ! ℕ (length zs) N l $ fjoin ! $
      use1 𝓛 (‵ (part_at (Array u8 N) full_share zs b 0)) (Array-whole 𝓛 u8 full_share N zs b 0) $
      use1 𝓛 (some (λ (v : Val). ‵ (fat full_share (ty_array (ty_int w8) N) b 0 v) ⊛ ‵ ((Array u8 N).own_val zs (v ∷ [])))) (part_out 𝓛 (Array u8 N) refl full_share zs b 0) $ pick ! (λ v. split ! $
      forget ! 0 refl $ keep ! (0 ∷ []) $ done !)
