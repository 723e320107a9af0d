-- Adding on files: `render` writes a state, and an add on a file is the add on its state.
-- Assumes nothing.
use mathlib.Core.Path.{◌≡◌, refl, sym, ◌∙◌, ap}
use mathlib.Core.List.{List, [], ◌∷◌, ◌++◌, Permᴰ, Perm}
use Prim.Native.Nat.{ℕ}
use lib.ListN.{length}
use Rattle.order.specs.Keyed.{puts}
use Rattle.order.specs.Adding.{Chain, items, Roomy}
use Rattle.order.proofs.Adding.{AddLaws, any_order, no_two_sets, holds}

-- What writing is: `Canon s` says that `render s` is a file that is taken and in order; `FileStep r b x d`, that with room `r`
-- adding `x` to the file `b` is accepted and gives the file `d`.
pub record Files {S X : Type 0} (Step : ℕ → S → X → S → Type 0) (put : X → S → S) (May : X → S → Type 0) (Fits : S → Type 0) (size : S → ℕ)
    (Canon : S → Type 0) (render : S → List ℕ) (FileStep : ℕ → List ℕ → X → List ℕ → Type 0) : Type 0 where
  -- such states are within bounds, and stay such where an item may be put in
  pub fits : (s : S) → Canon s → Fits s
  pub keeps : (x : X) (s : S) → Canon s → May x s → Fits (put x s) → Canon (put x s)
  -- a file is as long as its state takes room, and can be read back
  pub length_is : (s : S) → Canon s → length (render s) ≡ size s
  pub inj : (s t : S) → Canon s → Canon t → render s ≡ render t → s ≡ t
  -- an add on a file is the add on its state
  pub step_down : (r : ℕ) (s : S) (x : X) (b : List ℕ) → Canon s → FileStep r (render s) x b → (u : S) × Step r s x u × (render u ≡ b)
  pub step_up : (r : ℕ) (s : S) (x : X) (u : S) → Canon s → Step r s x u → FileStep r (render s) x (render u)

module _ {S X : Type 0} {Step : ℕ → S → X → S → Type 0} {put : X → S → S} {May : X → S → Type 0} {Apart : X → X → Type 0}
    {Fits : S → Type 0} {size : S → ℕ} {held : S → List X} (A : AddLaws Step put May Apart Fits size held)
    {Canon : S → Type 0} {render : S → List ℕ} {FileStep : ℕ → List ℕ → X → List ℕ → Type 0} (F : Files Step put May Fits size Canon render FileStep) where
  -- a chain on files that leads to `b` is one on states, and `b` is the file of its end
  pub record Below (s : S) (l : List (ℕ × X)) (b : List ℕ) : Type 0 where
    pub canon : Canon (puts put s (items l))
    pub chain : Chain Step s l (puts put s (items l))
    pub writes : render (puts put s (items l)) ≡ b

  pub down : (s : S) (l : List (ℕ × X)) (b : List ℕ) → Canon s → Chain FileStep (render s) l b → Below s l b
  down s [] b c h = record { canon = c; chain = refl; writes = h }
  down s (p ∷ l) b c h =
      let d = F.step_down p.0 s p.1 h.0 c h.1 in
      let k = A.checks p.0 s p.1 d.0 d.1 in
      let e : render (put p.1 s) ≡ h.0 = rw k.0 at d.2 in
      let j = down (put p.1 s) l b (F.keeps p.1 s c k.1 k.2) (rw e h.2) in
      record { canon = j.canon; chain = (put p.1 s, rw k.0 at d.1, j.chain); writes = j.writes }

  -- a chain on states is one on their files
  pub up : (s : S) (l : List (ℕ × X)) (t : S) → Canon s → Chain Step s l t → Chain FileStep (render s) l (render t)
  up s [] t c h = ap render h
  up s (p ∷ l) t c h =
      let k = A.checks p.0 s p.1 h.0 h.1 in
      (render h.0, F.step_up p.0 s p.1 h.0 c h.1, up h.0 l t (rw k.0 (F.keeps p.1 s c k.1 k.2)) h.2)

  -- adds on a file that are accepted in one order are accepted in every order, if each has room for the last file, and end in the same file
  pub any_order_bytes : (s : S) (l m : List (ℕ × X)) (b : List ℕ) → Canon s → Chain FileStep (render s) l b
      → Permᴰ (items l) (items m) → Roomy (length b) m → Chain FileStep (render s) m b
  any_order_bytes s l m b c h p r =
      let t : S = puts put s (items l) in
      let d = down s l b c h in
      let e : size t ≡ length b = sym (F.length_is t d.canon) ∙ ap length d.writes in
      rw d.writes at (up s m t c (any_order A s l m t (F.fits s c) d.chain p (rw e r)))

  -- two sets of items that end in one file are one set
  pub no_two_sets_bytes : (s : S) (l m : List (ℕ × X)) (b : List ℕ) → Canon s → Chain FileStep (render s) l b → Chain FileStep (render s) m b → Perm (items l) (items m)
  no_two_sets_bytes s l m b c h k =
      let d = down s l b c h in
      let j = down s m b c k in
      let e : puts put s (items l) ≡ puts put s (items m) = F.inj _ _ d.canon j.canon (d.writes ∙ sym j.writes) in
      no_two_sets A s l m (puts put s (items m)) (F.fits s c) (rw e at d.chain) j.chain

  -- the last file is that of the state with the items put in: what it held before, and they
  pub content : (s : S) (l : List (ℕ × X)) (b : List ℕ) → Canon s → Chain FileStep (render s) l b
      → let t = puts put s (items l) in Canon t × (render t ≡ b) × Permᴰ (held t) (items l ++ held s)
  content s l b c h = let d = down s l b c h in (d.canon, d.writes, holds A s l (puts put s (items l)) (F.fits s c) d.chain)
