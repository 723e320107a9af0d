-- Adding in any order: what is accepted depends on the items and on the final state, and not on the order of the adds.
-- Assumes nothing.
use mathlib.Core.Path.{◌≡◌, refl, sym, ◌∙◌}
use mathlib.Core.List.Permᴰ
use mathlib.Core.List.{List, [], ◌∷◌, ◌++◌, Permᴰ, Perm}
use Prim.Native.Nat.{ℕ, ◌≤◌}
use native.Mathlib.Omega.{arith}
use Rattle.order.specs.Keyed.{puts}
use Rattle.order.specs.Adding.{Chain, items, Roomy}
use Rattle.order.proofs.Perms.{perm_cancel}

-- What an add is: `put` puts the item in, `May x s` says that nothing but a bound or the room can refuse `x` at `s`,
-- `Apart x y` that neither stands in the other's way, `Fits s` that `s` is within its bounds; `size s` is the room that
-- `s` takes and `held s` the items in it.
pub record AddLaws {S X : Type 0} (Step : ℕ → S → X → S → Type 0) (put : X → S → S) (May : X → S → Type 0) (Apart : X → X → Type 0)
    (Fits : S → Type 0) (size : S → ℕ) (held : S → List X) : Type 0 where
  -- when an add is accepted, and what it gives
  pub checks : (r : ℕ) (s : S) (x : X) (u : S) → Step r s x u → (u ≡ put x s) × May x s × Fits (put x s)
  pub accepts : (r : ℕ) (s : S) (x : X) → May x s → Fits (put x s) → size (put x s) ≤ r → Step r s x (put x s)
  -- items do not stand in each other's way, whichever comes first
  pub apart_sym : (x y : X) → Apart x y → Apart y x
  pub may_put : (x y : X) (s : S) → May y (put x s) → May y s × Apart x y
  pub put_may : (x y : X) (s : S) → May y s → Apart x y → May y (put x s)
  pub comm : (x y : X) (s : S) → Apart x y → put x (put y s) ≡ put y (put x s)
  -- bounds only tighten
  pub fits_down : (x : X) (s : S) → Fits (put x s) → Fits s
  pub size_up : (x : X) (s : S) → size s ≤ size (put x s)
  -- the item is held then, and all that was held before
  pub held-put : (x : X) (s : S) → May x s → Permᴰ (held (put x s)) (x ∷ held s)

module _ {S X : Type 0} (put : X → S → S) (May : X → S → Type 0) (Fits : S → Type 0) where
  -- the account with no rooms: each item may be put in its turn, and the last state fits
  abbrev pub Ready : S → List X → Type 0
  Ready s [] = Fits s
  Ready s (x ∷ l) = May x s × Ready (put x s) l

  -- what is held at the end: all that was held before, and the items
  pub puts_perm : (held : S → List X) → ((x : X) (s : S) → May x s → Permᴰ (held (put x s)) (x ∷ held s))
      → (s : S) (l : List X) → Ready s l → Permᴰ (held (puts put s l)) (l ++ held s)
  puts_perm held p s [] h = Permᴰ.refl (held s)
  puts_perm held p s (x ∷ l) h = Permᴰ.trans (puts_perm held p (put x s) l h.1) (Permᴰ.trans (Permᴰ.append_left l (p x s h.0)) (Permᴰ.middle x l (held s)))

module _ {S X : Type 0} {Step : ℕ → S → X → S → Type 0} {put : X → S → S} {May : X → S → Type 0} {Apart : X → X → Type 0}
    {Fits : S → Type 0} {size : S → ℕ} {held : S → List X} (A : AddLaws Step put May Apart Fits size held) where
  ready_fits : (s : S) (l : List X) → Ready put May Fits s l → Fits s
  ready_fits s [] h = h
  ready_fits s (x ∷ l) h = A.fits_down x s (ready_fits (put x s) l h.1)

  size_puts : (s : S) (l : List X) → size s ≤ size (puts put s l)
  size_puts s [] = omega arith
  size_puts s (x ∷ l) = omega (arith, A.size_up x s, size_puts (put x s) l)

  pub chain_ready : (s : S) (l : List (ℕ × X)) (t : S) → Fits s → Chain Step s l t → Ready put May Fits s (items l) × (puts put s (items l) ≡ t)
  chain_ready s [] t f c = (f, c)
  chain_ready s (p ∷ l) t f c =
      let k = A.checks p.0 s p.1 c.0 c.1 in
      let j = chain_ready (put p.1 s) l t k.2 (rw k.0 at c.2) in
      ((k.1, j.0), j.1)

  pub ready_chain : (s : S) (l : List (ℕ × X)) → Ready put May Fits s (items l) → Roomy (size (puts put s (items l))) l → Chain Step s l (puts put s (items l))
  ready_chain s [] h r = refl
  ready_chain s (p ∷ l) h r =
      let u : S = put p.1 s in
      (u, A.accepts p.0 s p.1 h.0 (ready_fits u (items l) h.1) (omega (arith, size_puts u (items l))), ready_chain u l h.1 r.1)

  pub ready_perm : {l m : List X} → Permᴰ l m → (s : S) → Ready put May Fits s l → Ready put May Fits s m × (puts put s l ≡ puts put s m)
  ready_perm Permᴰ.nil s h = (h, refl)
  ready_perm (Permᴰ.cons {a = a} e p) s h = let k = ready_perm p (put a s) h.1 in rw (← e) ((h.0, k.0), k.1)
  ready_perm (Permᴰ.swap {a = a} {b = b} e f) s h =
      let k = A.may_put a b s h.1.0 in
      let d = A.apart_sym a b k.1 in
      rw (← e, ← f) (rw (← A.comm b a s d) ((k.0, (A.put_may b a s h.0 d, h.1.1)), refl))
  ready_perm (Permᴰ.trans p q) s h = let k = ready_perm p s h in let j = ready_perm q s k.0 in (j.0, k.1 ∙ j.1)

  -- adds that are accepted in one order are accepted in every order, if each has room for the end, and come to the same end
  pub any_order : (s : S) (l m : List (ℕ × X)) (t : S) → Fits s → Chain Step s l t → Permᴰ (items l) (items m) → Roomy (size t) m → Chain Step s m t
  any_order s l m t f c p r =
      let k = chain_ready s l t f c in
      let j = ready_perm p s k.0 in
      let e : puts put s (items m) ≡ t = sym j.1 ∙ k.1 in
      rw e at (ready_chain s m j.0 (rw e r))

  -- what the end holds
  pub holds : (s : S) (l : List (ℕ × X)) (t : S) → Fits s → Chain Step s l t → Permᴰ (held t) (items l ++ held s)
  holds s l t f c = let k = chain_ready s l t f c in rw k.1 at (puts_perm put May Fits held A.held-put s (items l) k.0)

  -- two sets of items with one end are one set
  pub no_two_sets : (s : S) (l m : List (ℕ × X)) (t : S) → Fits s → Chain Step s l t → Chain Step s m t → Perm (items l) (items m)
  no_two_sets s l m t f c d = perm_cancel (held s) (holds s l t f c) (holds s m t f d)
