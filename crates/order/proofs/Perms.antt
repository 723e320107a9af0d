-- What a permutation leaves as it is.
-- Assumes nothing.
use mathlib.Core.Path.{◌≡◌, refl, sym, ◌∙◌, ap, subst}
use mathlib.Core.List.Permᴰ
use mathlib.Core.List.{List, ◌∷◌, ◌++◌, append_assoc, Permᴰ, Perm, perm-append_right_iff}
use Prim.Native.Nat.{ℕ}
use native.Mathlib.Omega.{arith}
use lib.ListN.{length}
use Rattle.order.specs.Keyed.{weigh, Every, flat, Apart}
use Rattle.order.proofs.Folds.{weigh-one}

module _ {E : Type 0} where
  pub perm_weigh : (w : E → ℕ) {l m : List E} → Permᴰ l m → weigh w l ≡ weigh w m
  perm_weigh w Permᴰ.nil = refl
  perm_weigh w (Permᴰ.cons e p) = cc (e, perm_weigh w p)
  perm_weigh w (Permᴰ.swap e f) = omega (arith, ap w e, ap w f)
  perm_weigh w (Permᴰ.trans p q) = perm_weigh w p ∙ perm_weigh w q

  pub perm_length : {l m : List E} → Permᴰ l m → length l ≡ length m
  perm_length {l} {m} p = sym (weigh-one l) ∙ perm_weigh (λ _. 1) p ∙ weigh-one m

  pub every_perm : (P : E → Type 0) {l m : List E} → Permᴰ l m → Every P l → Every P m
  every_perm P Permᴰ.nil h = h
  every_perm P (Permᴰ.cons e p) h = rw (← e) (h.0, every_perm P p h.1)
  every_perm P (Permᴰ.swap e f) h = rw (← e, ← f) (h.1.0, (h.0, h.1.1))
  every_perm P (Permᴰ.trans p q) h = every_perm P q (every_perm P p h)

  swap_apart : (key : E → ℕ) (l : List E) {a a' b b' : E} → a ≡ a' → b ≡ b' → Apart key (a ∷ b ∷ l) → Apart key (b' ∷ a' ∷ l)
  swap_apart key l {a} {a'} {b} {b'} e f h =
      subst (λ (x : E). Apart key (x ∷ a' ∷ l)) f (subst (λ (x : E). Apart key (b ∷ x ∷ l)) e ((λ q. h.0.0 (sym q), h.1.0), (h.0.1, h.1.1)))

  pub apart_perm : (key : E → ℕ) {l m : List E} → Permᴰ l m → Apart key l → Apart key m
  apart_perm key Permᴰ.nil h = h
  apart_perm key (Permᴰ.cons e p) h = rw (← e) (every_perm _ p h.0, apart_perm key p h.1)
  apart_perm key (Permᴰ.swap e f) h = swap_apart key _ e f h
  apart_perm key (Permᴰ.trans p q) h = apart_perm key q (apart_perm key p h)

  -- what is left where the same is taken from both
  pub perm_cancel : {k l m : List E} (s : List E) → Permᴰ k (l ++ s) → Permᴰ k (m ++ s) → Perm l m
  perm_cancel s p q = (perm-append_right_iff s).0 ∣ Permᴰ.trans (Permᴰ.symm p) q ∣₁

pub perm_flat : {A B : Type 0} (f : A → List B) {l m : List A} → Permᴰ l m → Permᴰ (flat f l) (flat f m)
perm_flat f Permᴰ.nil = Permᴰ.nil
perm_flat f (Permᴰ.cons {a = a} e p) = rw (← e) (Permᴰ.append_left (f a) (perm_flat f p))
perm_flat f (Permᴰ.swap {a = a} {b = b} {l = l} e d) =
    rw (← e, ← d, ← append_assoc (f a) (f b) (flat f l), ← append_assoc (f b) (f a) (flat f l)) (Permᴰ.append_right (flat f l) (Permᴰ.append_comm (f a) (f b)))
perm_flat f (Permᴰ.trans p q) = Permᴰ.trans (perm_flat f p) (perm_flat f q)
