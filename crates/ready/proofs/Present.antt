-- What is noted of an id says whether an entry has it, and where the only one stands.
-- Assumes nothing.
use mathlib.Core.Path.{◌≡◌, refl, sym, ◌∙◌, ap}
use mathlib.Core.Logic.{◌⊎◌, inl, inr}
use mathlib.Core.List.Permᴰ
use mathlib.Core.List.{List, [], ◌∷◌, ◌++◌, append_assoc, append-nil, Permᴰ}
use mathlib.Core.Bool.{Bool, true, false, not, ◌||◌, cond}
use Prim.Native.Nat.{ℕ, ◌+◌, ◌≤◌}
use native.Mathlib.Omega.{arith}
use lib.ListN.{length, take, drop, length-drop}
use lib.Seq.{take_all, drop-append-le, take-append-le}
use lib.Dec.{eqb}
use borrow.Author.Tests.{eqb-true, eqb-false, eq-eqb, ne_eqb, le-leb}
use Rattle.wire.specs.Numbers.{le_at}
use Rattle.wire.proofs.Numbers.{le_at-append, le_at_here}
use Rattle.format.specs.Format.{span, Is}
use Rattle.format.proofs.Meaning.{complete}
use Rattle.format.proofs.Spans.{span-read}
use Rattle.order.specs.Keyed.{Every, sort, has}
use Rattle.order.specs.Entries.{join}
use Rattle.order.proofs.Keys.{has_fresh, fresh_has}
use Rattle.order.proofs.Perms.{perm_length, every_perm}
use Rattle.order.proofs.Inserts.{insert_nil}
use Rattle.order.proofs.Sorts.{sort_perm, keep-sort}
use Rattle.order.proofs.Starts.{drop_past}
use Rattle.entries.specs.Kinds.{id_key, devices}
use Rattle.ready.specs.Missing.{has_id, with_id, one_wrapper}
use Rattle.ready.specs.Steps.{mark, note_of, payload_from, wrapper_at, seen}

-- ---- an id that an entry has

-- what is noted stays noted
note_stays : (k v at : ℕ) (m : List (List ℕ)) → 1 ≤ v → 1 ≤ at → 1 ≤ note_of k v at m
unfolding note_of
note_stays k v at [] h i = h
note_stays k v at (e ∷ m) h i = note_stays k (cond (eqb (id_key e) k) (mark v at) v) (at + length e) m (go (eqb (id_key e) k) (eqb v 0)) (omega arith)
  where
    go : (a b : Bool) → 1 ≤ cond a (cond b at 1) v
    go true true = i
    go true false = omega arith
    go false b = h

has_here : (k : ℕ) (e : List ℕ) (m : List (List ℕ)) → id_key e ≡ k → has_id k (e ∷ m) ≡ true
unfolding has
has_here k e m h = rw (eq-eqb k (id_key e) (sym h), has)

has-later : (k : ℕ) (e : List ℕ) (m : List (List ℕ)) → (id_key e ≡ k → ⊥) → has_id k (e ∷ m) ≡ has_id k m
unfolding has
has-later k e m h = rw (ne_eqb k (id_key e) (λ z. h (sym z)), has)

-- 0 is noted exactly where no entry has the id
pub note_has : (k at : ℕ) (m : List (List ℕ)) → 1 ≤ at → eqb (note_of k 0 at m) 0 ≡ not (has_id k m)
unfolding note_of has
note_has k at [] h = refl
note_has k at (e ∷ m) h = go (eqb (id_key e) k) refl (note_has k (at + length e) m (omega arith))
  where
    go : (b : Bool) → eqb (id_key e) k ≡ b → eqb (note_of k 0 (at + length e) m) 0 ≡ not (has_id k m) → eqb (note_of k (cond b at 0) (at + length e) m) 0 ≡ not (has_id k (e ∷ m))
    go true q r = rw (has_here k e m (eqb-true (id_key e) k q)) (ne_eqb (note_of k at (at + length e) m) 0 (λ z. omega (arith, note_stays k at (at + length e) m h (omega arith))))
    go false q r = rw (has-later k e m (eqb-false (id_key e) k q)) r

-- whatever the order of the entries is
pub has_sorted : (key : List ℕ → ℕ) (k : ℕ) (m : List (List ℕ)) → has_id k (sort key m) ≡ has_id k m
has_sorted key k m = go (has_id k (sort key m)) (has_id k m) refl refl
  where
    moved : {l n : List (List ℕ)} → Permᴰ l n → has_id k l ≡ false → has_id k n ≡ false
    moved {l} {n} p h = fresh_has id_key k n (every_perm _ p (has_fresh id_key k l h))

    go : (a b : Bool) → has_id k (sort key m) ≡ a → has_id k m ≡ b → a ≡ b
    go true true p q = refl
    go true false p q = sym p ∙ moved (Permᴰ.symm (sort_perm key m)) q
    go false true p q = sym (moved (sort_perm key m) p) ∙ q
    go false false p q = refl

twice : (b : Bool) → not (not b) ≡ b
twice true = refl
twice false = refl

pub seen_sorted : (key : List ℕ → ℕ) (k : ℕ) (m : List (List ℕ)) → seen k m ≡ has_id k (sort key m)
seen_sorted key k m = ap not (note_has k 4 m (omega arith)) ∙ twice (has_id k m) ∙ sym (has_sorted key k m)

-- one or the other
pub either_sorted : (key : List ℕ → ℕ) (i j : ℕ) (m : List (List ℕ)) → (seen i m || seen j m) ≡ (has_id i (sort key m) || has_id j (sort key m))
either_sorted key i j m = rw (seen_sorted key i m, seen_sorted key j m) refl

-- ---- the only entry with an id

-- r is where the only one of some entries starts in the list s
record One (w : List (List ℕ)) (s : List ℕ) (r : ℕ) : Type 0 where
  e : List ℕ
  rest : List ℕ
  only : w ≡ e ∷ []
  far : 4 ≤ r
  cut : drop r s ≡ e ++ rest
  is : Is devices.form e

-- what is noted of entries: 0 for none, the place of the only one, 1 for more
abbrev Spotted : List (List ℕ) → List ℕ → ℕ → Type 0
Spotted w s r = ((w ≡ []) × (r ≡ 0)) ⊎ (One w s r ⊎ ((2 ≤ length w) × (r ≡ 1)))

note_second : (k at : ℕ) (m : List (List ℕ)) → note_of k 1 at m ≡ 1
unfolding note_of
note_second k at [] = refl
note_second k at (e ∷ m) = go (eqb (id_key e) k) (note_second k (at + length e) m)
  where
    go : (b : Bool) → note_of k 1 (at + length e) m ≡ 1 → note_of k (cond b 1 1) (at + length e) m ≡ 1
    go true h = h
    go false h = h

abbrev Stays : ℕ → ℕ → ℕ → List (List ℕ) → Type 0
Stays k v at m = ((with_id k m ≡ []) × (note_of k v at m ≡ v)) ⊎ ((1 ≤ length (with_id k m)) × (note_of k v at m ≡ 1))

note_first : (k v at : ℕ) (m : List (List ℕ)) → 4 ≤ v → Stays k v at m
unfolding note_of
note_first k v at [] h = inl (refl, refl)
note_first k v at (e ∷ m) h = go (eqb (id_key e) k) (eqb v 0) (ne_eqb v 0 (λ z. omega arith)) (note_first k v (at + length e) m h)
  where
    l : List (List ℕ)
    l = with_id k m

    go : (a b : Bool) → b ≡ false → Stays k v (at + length e) m
        → ((cond a (e ∷ l) l ≡ []) × (note_of k (cond a (cond b at 1) v) (at + length e) m ≡ v)) ⊎ ((1 ≤ length (cond a (e ∷ l) l)) × (note_of k (cond a (cond b at 1) v) (at + length e) m ≡ 1))
    go true true q r = let z : ◌≡◌ {A = ℕ} 0 1 = cc in absurd (omega arith)
    go true false q r = inr (omega arith, note_second k (at + length e) m)
    go false b q r = r

spotted : (k : ℕ) (s : List ℕ) (at : ℕ) (m : List (List ℕ)) (rest : List ℕ) → drop at s ≡ join m ++ rest → Every (Is devices.form) m → 4 ≤ at → Spotted (with_id k m) s (note_of k 0 at m)
unfolding note_of
spotted k s at [] rest c a h = inl (refl, refl)
spotted k s at (e ∷ m) rest c a h =
    let d : drop at s ≡ e ++ (join m ++ rest) = c ∙ append_assoc e (join m) rest in
    go (eqb (id_key e) k) d (note_first k at (at + length e) m h) (spotted k s (at + length e) m rest (drop_past s at e (join m ++ rest) d) a.1 (omega arith))
  where
    l : List (List ℕ)
    l = with_id k m

    go : (b : Bool) → drop at s ≡ e ++ (join m ++ rest) → Stays k at (at + length e) m → Spotted l s (note_of k 0 (at + length e) m) → Spotted (cond b (e ∷ l) l) s (note_of k (cond b at 0) (at + length e) m)
    go true d (inl (q, n)) r = rw n (inr (inl (record { e = e; rest = join m ++ rest; only = ap (λ (x : List (List ℕ)). e ∷ x) q; far = h; cut = d; is = a.0 })))
    go true d (inr (q, n)) r = inr (inr (omega arith, n))
    go false d f r = r

-- its payload
payload-from : (b e rest : List ℕ) → b ≡ e ++ rest → Is devices.form e → payload_from b ≡ drop 16 e
unfolding span
payload-from b e rest c h =
    let q : span devices.form e ≡ length e = span-read devices.form e (rw (append-nil e) at (complete devices.form e [] h)) in
    let l : length e ≡ 16 + le_at 8 e 8 = omega (arith, q, le_at_here 8 e 8) in
    ap payload_from c
    ∙ ap (λ (n : ℕ). take n (drop 16 (e ++ rest))) (le_at-append 8 e rest 8 (omega arith))
    ∙ ap (take (le_at 8 e 8)) (drop-append-le 16 e rest (omega arith))
    ∙ take-append-le (le_at 8 e 8) (drop 16 e) rest (omega (arith, length-drop 16 e))
    ∙ take_all (le_at 8 e 8) (drop 16 e) (omega (arith, length-drop 16 e))

one_only : (l : List (List ℕ)) → 2 ≤ length l → one_wrapper l ≡ false
one_only [] h = absurd (omega arith)
one_only (e ∷ []) h = absurd (omega arith)
one_only (e ∷ f ∷ l) h = refl

-- the wrapper is told exactly where exactly one entry has the id, and its payload is an accepted wrapper
pub wrapper_sorted : (key : List ℕ → ℕ) (k : ℕ) (s : List ℕ) (m : List (List ℕ)) (rest : List ℕ) → drop 4 s ≡ join m ++ rest → Every (Is devices.form) m
    → wrapper_at s (note_of k 0 4 m) ≡ one_wrapper (with_id k (sort key m))
wrapper_sorted key k s m rest c a = go (spotted k s 4 m rest c a (omega arith))
  where
    ordered : with_id k (sort key m) ≡ sort key (with_id k m)
    ordered = keep-sort key (λ e. eqb (id_key e) k) m

    go : Spotted (with_id k m) s (note_of k 0 4 m) → wrapper_at s (note_of k 0 4 m) ≡ one_wrapper (with_id k (sort key m))
    go (inl (q, r)) = rw (ordered, q, r)
    go (inr (inl v)) =
        rw (ordered, v.only, insert_nil key, le-leb 4 (note_of k 0 4 m) v.far, payload-from (drop (note_of k 0 4 m) s) v.e v.rest v.cut v.is) refl
    go (inr (inr (q, r))) =
        let n : length (sort key (with_id k m)) ≡ length (with_id k m) = perm_length (sort_perm key (with_id k m)) in
        rw (ordered, r, one_only (sort key (with_id k m)) (omega arith))
