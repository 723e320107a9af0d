-- Laws of `weigh`, `present`, `Every` and `flat`: what becomes of them on lists that are appended or mapped.
-- Assumes nothing.
use mathlib.Core.Path.{◌≡◌, refl, sym, ◌∙◌, ap}
use mathlib.Core.List.{List, [], ◌∷◌, ◌++◌, map, append_assoc}
use Prim.Native.Nat.{ℕ, ◌+◌, min}
use native.Mathlib.Omega.{arith}
use lib.ListN.{length, length-append}
use Rattle.order.specs.Keyed.{weigh, Every, flat}

-- 1 for a list with an entry, 0 for the empty one
abbrev pub present : {E : Type 0} → List E → ℕ
present [] = 0
present (x ∷ l) = 1

module _ {E : Type 0} where
  pub weigh-append : (w : E → ℕ) (l m : List E) → weigh w (l ++ m) ≡ weigh w l + weigh w m
  weigh-append w [] m = omega arith
  weigh-append w (x ∷ l) m = omega (arith, weigh-append w l m)

  pub weigh-one : (l : List E) → weigh (λ _. 1) l ≡ length l
  weigh-one [] = refl
  weigh-one (x ∷ l) = omega (arith, weigh-one l)

  pub present_min : (l : List E) → present l ≡ min 1 (length l)
  present_min [] = omega arith
  present_min (x ∷ l) = omega arith

  pub every_all : {P : E → Type 0} → ((x : E) → P x) → (l : List E) → Every P l
  every_all f [] = tt
  every_all f (x ∷ l) = (f x, every_all f l)

  pub every_imp : {P Q : E → Type 0} → ((x : E) → P x → Q x) → (l : List E) → Every P l → Every Q l
  every_imp f [] h = tt
  every_imp f (x ∷ l) h = (f x h.0, every_imp f l h.1)

  pub every_append : (P : E → Type 0) (l m : List E) → Every P l → Every P m → Every P (l ++ m)
  every_append P [] m h k = k
  every_append P (x ∷ l) m h k = (h.0, every_append P l m h.1 k)

  pub append_every : (P : E → Type 0) (l m : List E) → Every P (l ++ m) → Every P l × Every P m
  append_every P [] m h = (tt, h)
  append_every P (x ∷ l) m h = let k = append_every P l m h.1 in ((h.0, k.0), k.1)

module _ {A B : Type 0} where
  pub every_map : (P : B → Type 0) (f : A → B) (l : List A) → Every (λ x. P (f x)) l → Every P (map f l)
  every_map P f [] h = tt
  every_map P f (x ∷ l) h = (h.0, every_map P f l h.1)

  pub map_every : (P : B → Type 0) (f : A → B) (l : List A) → Every P (map f l) → Every (λ x. P (f x)) l
  map_every P f [] h = tt
  map_every P f (x ∷ l) h = (h.0, map_every P f l h.1)

  pub flat_append : (f : A → List B) (l m : List A) → flat f (l ++ m) ≡ flat f l ++ flat f m
  flat_append f [] m = refl
  flat_append f (x ∷ l) m = ap (λ (k : List B). f x ++ k) (flat_append f l m) ∙ sym (append_assoc (f x) (flat f l) (flat f m))

  pub length-flat : (f : A → List B) (l : List A) → length (flat f l) ≡ weigh (λ x. length (f x)) l
  length-flat f [] = refl
  length-flat f (x ∷ l) = omega (arith, length-append (f x) (flat f l), length-flat f l)

  pub every_flat : (P : B → Type 0) (f : A → List B) (l : List A) → Every (λ x. Every P (f x)) l → Every P (flat f l)
  every_flat P f [] h = tt
  every_flat P f (x ∷ l) h = every_append P (f x) (flat f l) h.0 (every_flat P f l h.1)

  pub flat-one : (f : A → B) (l : List A) → flat (λ x. f x ∷ []) l ≡ map f l
  flat-one f [] = refl
  flat-one f (x ∷ l) = ap (λ (k : List B). f x ∷ k) (flat-one f l)
