-- Laws of `keep`, and of the entries of one key.
-- Assumes nothing.
use mathlib.Core.Path.{◌≡◌, refl, ap}
use mathlib.Core.Logic.{◌≢◌, inl, inr}
use mathlib.Core.Bool.{Bool, true, false, not, cond}
use mathlib.Core.List.Permᴰ
use mathlib.Core.List.{List, [], ◌∷◌, ◌++◌, Permᴰ}
use Prim.Native.Nat.{ℕ, ◌<◌}
use native.Mathlib.Omega.{arith}
use lib.Dec.{eqb}
use borrow.Author.Tests.{eqb-true, eq-eqb, ne_eqb}
use Rattle.order.specs.Keyed.{Every, flat, keep, insert}
use Rattle.order.proofs.Keys.{Up, side, up_every}
use Rattle.order.proofs.Folds.{every_all, every_imp, every_flat, flat_append}
use Rattle.order.proofs.Inserts.{insert_nil, insert-le, insert_gt}

module _ {E : Type 0} (p : E → Bool) where
  -- what is kept of one entry
  abbrev pub only : E → List E
  only x = cond (p x) (x ∷ []) []

  pub flat-only : (l : List E) → flat only l ≡ keep p l
  flat-only [] = refl
  flat-only (x ∷ l) = go (p x) (flat-only l)
    where
      go : (b : Bool) → flat only l ≡ keep p l → cond b (x ∷ []) [] ++ flat only l ≡ cond b (x ∷ keep p l) (keep p l)
      go true h = ap (λ (k : List E). x ∷ k) h
      go false h = h

  pub every_only : (P : E → Type 0) (x : E) → (p x ≡ true → P x) → Every P (only x)
  every_only P x = go (p x)
    where
      go : (b : Bool) → (b ≡ true → P x) → Every P (cond b (x ∷ []) [])
      go true h = (h refl, tt)
      go false h = tt

  pub keep_append : (l m : List E) → keep p (l ++ m) ≡ keep p l ++ keep p m
  keep_append l m = cc (flat-only (l ++ m), flat_append only l m, flat-only l, flat-only m)

  pub keep_all : (l : List E) → Every (λ x. p x ≡ true) l → keep p l ≡ l
  keep_all [] h = refl
  keep_all (x ∷ l) h = rw (h.0, keep) (ap (λ (k : List E). x ∷ k) (keep_all l h.1))

  pub keep-none : (l : List E) → Every (λ x. p x ≡ false) l → keep p l ≡ []
  keep-none [] h = refl
  keep-none (x ∷ l) h = rw (h.0, keep) (keep-none l h.1)

  pub every_keep : (P : E → Type 0) (l : List E) → Every (λ x. p x ≡ true → P x) l → Every P (keep p l)
  every_keep P l h = rw (flat-only l) at (every_flat P only l (every_imp (every_only P) l h))

  -- the entries that are kept and the others are all
  pub keep_perm : (l : List E) → Permᴰ (keep p l ++ keep (λ x. not (p x)) l) l
  keep_perm [] = Permᴰ.nil
  keep_perm (x ∷ l) = go (p x) (keep_perm l)
    where
      m : List E
      m = keep p l

      n : List E
      n = keep (λ x. not (p x)) l

      go : (b : Bool) → Permᴰ (m ++ n) l → Permᴰ (cond b (x ∷ m) m ++ cond (not b) (x ∷ n) n) (x ∷ l)
      go true h = Permᴰ.cons refl h
      go false h = Permᴰ.trans (Permᴰ.middle x m n) (Permᴰ.cons refl h)

module _ {E : Type 0} (key : E → ℕ) where
  -- the entries of the key `k`, in their order
  abbrev pub of_key : ℕ → List E → List E
  of_key k = keep (λ x. eqb (key x) k)

  pub every_of_key : (k : ℕ) (l : List E) → Every (λ y. key y ≡ k) (of_key k l)
  every_of_key k l = every_keep _ (λ y. key y ≡ k) l (every_all (λ y. eqb-true (key y) k) l)

  pub of_key_first : (x : E) (l : List E) → of_key (key x) (x ∷ l) ≡ x ∷ of_key (key x) l
  of_key_first x l = rw (eq-eqb (key x) (key x) refl, keep)

  pub of_key_all : (k : ℕ) (l : List E) → Every (λ y. key y ≡ k) l → of_key k l ≡ l
  of_key_all k l h = keep_all _ l (every_imp (λ y. eq-eqb (key y) k) l h)

  pub of_key_none : (k : ℕ) (l : List E) → Every (λ y. key y ≢ k) l → of_key k l ≡ []
  of_key_none k l h = keep-none _ l (every_imp (λ y. ne_eqb (key y) k) l h)

  pub of_key_low : (k n : ℕ) (l : List E) → k < n → Up key n l → of_key k l ≡ []
  of_key_low k n l h u = of_key_none k l (every_imp (λ y g e. omega arith) l (up_every key n l u))

  -- the inserted entry comes before the others of its key, and those keep their order
  pub of_key_insert : (k : ℕ) (x : E) (l : List E) → of_key k (insert key x l) ≡ of_key k (x ∷ l)
  of_key_insert k x [] = rw (insert_nil key)
  of_key_insert k x (y ∷ l) = elim (side (key x) (key y)) [
    | inl h ↦ rw (insert-le key)
    | inr h ↦ rw (insert_gt key) (go h (eqb (key x) k) (eqb (key y) k) refl refl (of_key_insert k x l))
  ]
    where
      m : List E
      m = of_key k l

      n : List E
      n = of_key k (insert key x l)

      go : key y < key x → (a b : Bool) → eqb (key x) k ≡ a → eqb (key y) k ≡ b → n ≡ cond a (x ∷ m) m
          → cond b (y ∷ n) n ≡ cond a (x ∷ cond b (y ∷ m) m) (cond b (y ∷ m) m)
      go h true true e f q = absurd (omega (arith, eqb-true (key x) k e, eqb-true (key y) k f))
      go h true false e f q = q
      go h false true e f q = ap (λ (r : List E). y ∷ r) q
      go h false false e f q = q
