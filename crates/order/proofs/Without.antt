-- The entries of other keys than one: the laws of `without`, and of `has`.
-- Assumes nothing.
use mathlib.Core.Path.{◌≡◌, refl, sym, ◌∙◌, ap}
use mathlib.Core.Logic.{inl, inr}
use mathlib.Core.Bool.{Bool, true, false, not, cond, ◌||◌, true≢false}
use mathlib.Core.List.Permᴰ
use mathlib.Core.List.{List, [], ◌∷◌, ◌++◌, Permᴰ}
use Prim.Native.Nat.{ℕ, suc, ◌≤◌}
use native.Mathlib.Omega.{arith}
use lib.ListN.{length}
use lib.Dec.{eqb}
use borrow.Author.Tests.{eqb-true, eqb-false, eq-eqb, ne_eqb}
use Rattle.order.specs.Keyed.{Every, keep, insert, inserts, has, without, Fresh, Apart, Asc}
use Rattle.order.proofs.Folds.{every_imp}
use Rattle.order.proofs.Perms.{every_perm, perm_length}
use Rattle.order.proofs.Keys.{side, has_fresh, fresh_has}
use Rattle.order.proofs.Inserts.{insert_nil, insert-le, insert_gt, insert_perm, inserts_perm}
use Rattle.order.proofs.Keeps.{keep_all, keep_perm, every_keep, of_key, of_key_none}

module _ {E : Type 0} (key : E → ℕ) where
  -- ---- what is kept of a list in order

  asc_low : (m n : ℕ) (l : List E) → m ≤ n → Asc key n l → Asc key m l
  asc_low m n [] h a = tt
  asc_low m n (x ∷ l) h a = (omega (arith, a.0), a.1)

  pub asc_keep : (p : E → Bool) (n : ℕ) (l : List E) → Asc key n l → Asc key n (keep p l)
  asc_keep p n [] a = tt
  asc_keep p n (x ∷ l) a = go (p x) (asc_keep p (suc (key x)) l a.1)
    where
      go : (b : Bool) → Asc key (suc (key x)) (keep p l) → Asc key n (cond b (x ∷ keep p l) (keep p l))
      go true h = (a.0, h)
      go false h = asc_low n (suc (key x)) (keep p l) (omega (arith, a.0)) h

  pub keep-insert : (p : E → Bool) (x : E) (l : List E) → p x ≡ false → keep p (insert key x l) ≡ keep p l
  keep-insert p x [] h = rw (insert_nil key x, h)
  keep-insert p x (y ∷ l) h = elim (side (key x) (key y)) [
    | inl g ↦ rw (insert-le key x y l g, h)
    | inr g ↦ rw (insert_gt key x y l g) (ap (λ (m : List E). cond (p y) (y ∷ m) m) (keep-insert p x l h))
  ]

  -- ---- has

  pub has_cons : (k : ℕ) (y : E) (l : List E) → has key k (y ∷ l) ≡ (eqb k (key y) || has key k l)
  unfolding has
  has_cons k y l = go (eqb k (key y))
    where
      go : (b : Bool) → elim b as (λ _. Bool) [ true ↦ true | false ↦ has key k l ] ≡ (b || has key k l)
      go true = refl
      go false = refl

  pub has_perm : (k : ℕ) {l m : List E} → Permᴰ l m → has key k l ≡ has key k m
  has_perm k {l} {m} p = go (has key k l) (has key k m) refl refl
    where
      go : (a b : Bool) → has key k l ≡ a → has key k m ≡ b → a ≡ b
      go true true e f = refl
      go false false e f = refl
      go true false e f = sym e ∙ fresh_has key k l (every_perm _ (Permᴰ.symm p) (has_fresh key k m f))
      go false true e f = sym (fresh_has key k m (every_perm _ p (has_fresh key k l e))) ∙ f

  pub has-append : (k : ℕ) (l m : List E) → has key k (l ++ m) ≡ (has key k l || has key k m)
  unfolding has
  has-append k [] m = refl
  has-append k (y ∷ l) m = has_cons k y (l ++ m) ∙ go (eqb k (key y)) (has-append k l m) ∙ ap (λ (b : Bool). b || has key k m) (sym (has_cons k y l))
    where
      go : (b : Bool) → has key k (l ++ m) ≡ (has key k l || has key k m) → (b || has key k (l ++ m)) ≡ ((b || has key k l) || has key k m)
      go true h = refl
      go false h = h

  pub has-inserts : (k : ℕ) (s l : List E) → has key k (inserts key s l) ≡ (has key k l || has key k s)
  has-inserts k s l = has_perm k (inserts_perm key s l) ∙ has-append k l s

  pub has-insert : (k : ℕ) (x : E) (l : List E) → k ≡ key x → has key k (insert key x l) ≡ true
  has-insert k x l e = has_perm k (insert_perm key x l) ∙ has_cons k x l ∙ rw (eq-eqb k (key x) e)

  -- ---- entries of other keys

  pub without_fresh : (k : ℕ) (l : List E) → Fresh key k l → without key k l ≡ l
  without_fresh k l f = keep_all _ l (every_imp (λ y h. ap not (ne_eqb (key y) k (λ e. h (sym e)))) l f)

  pub fresh_without : (k : ℕ) (l : List E) → Fresh key k (without key k l)
  fresh_without k [] = tt
  fresh_without k (y ∷ l) = go (eqb (key y) k) refl (fresh_without k l)
    where
      go : (b : Bool) → eqb (key y) k ≡ b → Fresh key k (without key k l) → Fresh key k (cond (not b) (y ∷ without key k l) (without key k l))
      go true e h = h
      go false e h = (λ q. eqb-false (key y) k e (sym q), h)

  pub asc_without : (k n : ℕ) (l : List E) → Asc key n l → Asc key n (without key k l)
  asc_without k n l a = asc_keep _ n l a

  pub every_without : (P : E → Type 0) (k : ℕ) (l : List E) → Every P l → Every P (without key k l)
  every_without P k l h = every_keep _ P l (every_imp (λ y q _. q) l h)

  -- removing what was just inserted
  pub without-insert : (k : ℕ) (x : E) (l : List E) → key x ≡ k → Fresh key k l → without key k (insert key x l) ≡ l
  without-insert k x l e f = keep-insert _ x l (ap not (eq-eqb (key x) k e)) ∙ without_fresh k l f

  -- the one entry of a key that is there, and the others
  pub record Stood (k : ℕ) (l : List E) : Type 0 where
    pub it : E
    pub its : key it ≡ k
    pub perm : Permᴰ l (it ∷ without key k l)

  pub stood : (k : ℕ) (l : List E) → Apart key l → has key k l ≡ true → Stood k l
  unfolding has
  stood k l d h = let o = one l d h in record { it = o.0; its = o.1; perm = Permᴰ.symm (rw o.2 at (keep_perm (λ y. eqb (key y) k) l)) }
    where
      one : (l : List E) → Apart key l → has key k l ≡ true → (y : E) × (key y ≡ k) × (of_key key k l ≡ y ∷ [])
      one [] d h = absurd (true≢false (sym h))
      one (y ∷ l) d h = go (eqb k (key y)) refl (sym (has_cons k y l) ∙ h) (one l d.1)
        where
          go : (b : Bool) → eqb k (key y) ≡ b → (b || has key k l) ≡ true → (has key k l ≡ true → (z : E) × (key z ≡ k) × (of_key key k l ≡ z ∷ []))
              → (z : E) × (key z ≡ k) × (of_key key k (y ∷ l) ≡ z ∷ [])
          go true e q r =
              let i : k ≡ key y = eqb-true k (key y) e in
              (y, sym i, rw (eq-eqb (key y) k (sym i), of_key_none key k l (every_imp (λ z n j. n (sym i ∙ sym j)) l d.0)))
          go false e q r = let (z, i, j) = r q in (z, i, rw (ne_eqb (key y) k (λ s. eqb-false k (key y) e (sym s))) j)

  -- how much is left
  pub length_without : (k : ℕ) (l : List E) → Apart key l → has key k l ≡ true → length l ≡ suc (length (without key k l))
  length_without k l d h = perm_length (stood k l d h).perm
