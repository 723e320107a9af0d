-- Known sections that come once: no other id shares a slot with a known one, so that it is the same to look at all sections or at the known ones.
-- Assumes nothing.
use mathlib.Core.Path.{◌≡◌, refl, sym, subst}
use mathlib.Core.Logic.{◌≢◌}
use mathlib.Core.List.Permᴰ
use mathlib.Core.List.{List, [], ◌∷◌, ◌++◌, append-nil, Permᴰ}
use mathlib.Core.Bool.{Bool, true, false, cond, ◌&&◌}
use Prim.Native.Nat.{ℕ, ◌≤◌}
use native.Mathlib.Omega.{arith}
use lib.Dec.{leb, eqb}
use borrow.Author.Tests.{leb-true, leb-false, eqb-true}
use Rattle.answer.proofs.Checks.{and_true}
use Rattle.order.specs.Keyed.{Fresh, Apart, keep}
use Rattle.order.proofs.Folds.{every_imp, append_every}
use Rattle.order.proofs.Perms.{apart_perm, perm_flat}
use Rattle.order.proofs.Keeps.{only, flat-only, every_keep}
use Rattle.aerosnap.specs.Known.{CPU, MMU, CPUS, MMUS, known, slot}
use Rattle.aerosnap.specs.File.{id_of, slot_of}
use Rattle.aerosnap.specs.Rules.{is_known_section}

-- what is kept of lists with the same entries has the same entries
pub perm_keep : {E : Type 0} (p : E → Bool) {l m : List E} → Permᴰ l m → Permᴰ (keep p l) (keep p m)
perm_keep p {l} {m} q = rw (← flat-only p l, ← flat-only p m) (perm_flat (only p) q)

pub known_range : (id : ℕ) → known id ≡ true → (1 ≤ id) × (id ≤ 8)
known_range id h = let k = and_true (leb 1 id) (leb id 8) h in (leb-true 1 id k.0, leb-true id 8 k.1)

-- a slot by the tests that tell CPUS and MMUS
abbrev slot_by : Bool → Bool → ℕ → ℕ
slot_by a b id = elim a as (λ _. ℕ) [ true ↦ CPU | false ↦ elim b as (λ _. ℕ) [ true ↦ MMU | false ↦ id ] ]

slot_range : (id : ℕ) → known id ≡ true → (1 ≤ slot id) × (slot id ≤ 8)
slot_range id k = go (eqb id CPUS) (eqb id MMUS) (known_range id k)
  where
    go : (a b : Bool) → (1 ≤ id) × (id ≤ 8) → (1 ≤ slot_by a b id) × (slot_by a b id ≤ 8)
    go true b r = (omega arith, omega arith)
    go false true r = (omega arith, omega arith)
    go false false r = r

slot_other : (id : ℕ) → known id ≡ false → slot id ≡ id
slot_other id k = go (eqb id CPUS) (eqb id MMUS) refl refl
  where
    go : (a b : Bool) → eqb id CPUS ≡ a → eqb id MMUS ≡ b → slot_by a b id ≡ id
    go true b p q = let z : known id ≡ true = rw (eqb-true id CPUS p) in let y : ◌≡◌ {A = ℕ} 0 1 = cc in absurd (omega arith)
    go false true p q = let z : known id ≡ true = rw (eqb-true id MMUS q) in let y : ◌≡◌ {A = ℕ} 0 1 = cc in absurd (omega arith)
    go false false p q = refl

slot_apart : (i j : ℕ) → known i ≡ true → known j ≡ false → slot i ≢ slot j
slot_apart i j k o e = go (leb 1 j) (leb j 8) refl refl o
  where
    r : slot i ≡ j
    r = rw (slot_other j o) at e

    go : (a b : Bool) → leb 1 j ≡ a → leb j 8 ≡ b → (a && b) ≡ false → ⊥
    go true true p q h = let z : ◌≡◌ {A = ℕ} 0 1 = cc in absurd (omega arith)
    go true false p q h = omega (arith, leb-false j 8 q, (slot_range i k).0, (slot_range i k).1, r)
    go false b p q h = omega (arith, leb-false 1 j p, (slot_range i k).0, (slot_range i k).1, r)

module _ (e : List ℕ) (k : is_known_section e ≡ true) where
  pub fresh_known : (l : List (List ℕ)) → Fresh slot_of (slot_of e) l → Fresh slot_of (slot_of e) (keep is_known_section l)
  fresh_known l f = every_keep is_known_section _ l (every_imp (λ y h _. h) l f)

  pub known_fresh : (l : List (List ℕ)) → Fresh slot_of (slot_of e) (keep is_known_section l) → Fresh slot_of (slot_of e) l
  known_fresh [] f = tt
  known_fresh (y ∷ l) f = go (is_known_section y) refl f (known_fresh l)
    where
      go : (b : Bool) → is_known_section y ≡ b → Fresh slot_of (slot_of e) (cond b (y ∷ keep is_known_section l) (keep is_known_section l)) → (Fresh slot_of (slot_of e) (keep is_known_section l) → Fresh slot_of (slot_of e) l)
          → Fresh slot_of (slot_of e) (y ∷ l)
      go true q f r = (f.0, r f.1)
      go false q f r = (slot_apart (id_of e) (id_of y) k q, r f)

-- sections of which the known ones come once
abbrev pub Once : List (List ℕ) → Type 0
Once l = Apart slot_of (keep is_known_section l)

pub once_perm : {l m : List (List ℕ)} → Permᴰ l m → Once l → Once m
once_perm p d = apart_perm slot_of (perm_keep is_known_section p) d

-- one section more
pub once_first : (e : List ℕ) (l : List (List ℕ)) → (is_known_section e ≡ true → Fresh slot_of (slot_of e) l) → Once l → Once (e ∷ l)
once_first e l f d = go (is_known_section e) refl
  where
    go : (b : Bool) → is_known_section e ≡ b → Apart slot_of (cond b (e ∷ keep is_known_section l) (keep is_known_section l))
    go true q = (fresh_known e q l (f q), d)
    go false q = d

pub first_once : (e : List ℕ) (l : List (List ℕ)) → Once (e ∷ l) → is_known_section e ≡ true → Fresh slot_of (slot_of e) l
first_once e l d k = known_fresh e k l (rw k at d).0

pub rest_once : (e : List ℕ) (l : List (List ℕ)) → Once (e ∷ l) → Once l
rest_once e l = go (is_known_section e)
  where
    go : (b : Bool) → Apart slot_of (cond b (e ∷ keep is_known_section l) (keep is_known_section l)) → Once l
    go true d = d.1
    go false d = d

-- a section behind others
pub once_last : (e : List ℕ) (l : List (List ℕ)) → (is_known_section e ≡ true → Fresh slot_of (slot_of e) l) → Once l → Once (l ++ (e ∷ []))
once_last e l f d = once_perm (Permᴰ.symm (Permᴰ.middle e l [])) (subst (λ (m : List (List ℕ)). Once (e ∷ m)) (sym (append-nil l)) (once_first e l f d))

-- a section between others is none of those before it
pub once_middle : (e : List ℕ) (l m : List (List ℕ)) → Once (l ++ (e ∷ m)) → is_known_section e ≡ true → Fresh slot_of (slot_of e) l
once_middle e l m d k = (append_every _ l m (first_once e (l ++ m) (once_perm (Permᴰ.middle e l m) d) k)).0
