-- New entries in the order of their keys and old ones in the order of theirs are merged in one walk: runs of old entries, a new one behind each.
-- Assumes nothing.
use mathlib.Core.Path.{◌≡◌, refl, sym, ◌∙◌, ap}
use mathlib.Core.Bool.{Bool, true, false, not, cond}
use mathlib.Core.Logic.{inl, inr}
use mathlib.Core.List.Permᴰ
use mathlib.Core.List.{List, [], ◌∷◌, ◌++◌, append_assoc, append-nil}
use Prim.Native.Nat.{ℕ, suc, ◌≤◌, ◌<◌}
use native.Mathlib.Omega.{arith}
use lib.ListN.{take, drop, take-append-drop}
use lib.Dec.{leb}
use borrow.Author.Tests.{le-leb, lt-leb, leb-false, not-true}
use Rattle.order.specs.Keyed.{Every, keep, insert, inserts, sort, Fresh, Apart, Asc}
use Rattle.order.proofs.Folds.{every_imp, every_append, append_every}
use Rattle.order.proofs.Perms.{apart_perm}
use Rattle.order.proofs.Keys.{side, asc_up, up_every}
use Rattle.order.proofs.Keeps.{keep_append, keep_all, keep-none, every_keep}
use Rattle.order.proofs.Sorts.{sort_perm, sort_asc, inserts-sort, inserts_order}
use Rattle.order.proofs.Without.{asc_keep}
use Rattle.order.proofs.Between.{Place, insert_past, insert_between}

module _ {E : Type 0} (key : E → ℕ) where
  -- what is below a key, and what is above it
  abbrev pub below : ℕ → List E → List E
  below k = keep (λ y. not (leb k (key y)))

  abbrev pub above : ℕ → List E → List E
  above k = keep (λ y. not (leb (key y) k))

  -- the new entries in the order of their keys, before each of them the old ones with lower keys
  unfoldable pub merge : List E → List E → List E
  merge [] old = old
  merge (e ∷ l) old = below (key e) old ++ (e ∷ merge l (above (key e) old))

  inserts_past : (l a b : List E) → Every (λ x. Every (λ y. key y < key x) a) l → inserts key (a ++ b) l ≡ a ++ inserts key b l
  inserts_past [] a b h = refl
  inserts_past (x ∷ l) a b h = ap (λ (s : List E). inserts key s l) (insert_past key x a b h.0) ∙ inserts_past l a (insert key x b) h.1

  every_kept : (f : E → Bool) (P : E → Type 0) → ((y : E) → f y ≡ true → P y) → (l : List E) → Every P (keep f l)
  every_kept f P h [] = tt
  every_kept f P h (y ∷ l) = go (f y) refl (every_kept f P h l)
    where
      go : (b : Bool) → f y ≡ b → Every P (keep f l) → Every P (cond b (y ∷ keep f l) (keep f l))
      go true e k = (h y e, k)
      go false e k = k

  pub below_all : (k : ℕ) (l : List E) → Every (λ y. key y < k) (below k l)
  below_all k l = every_kept (λ y. not (leb k (key y))) (λ y. key y < k) (λ y e. leb-false k (key y) (not-true (leb k (key y)) e)) l

  pub above_all : (k : ℕ) (l : List E) → Every (λ y. k < key y) (above k l)
  above_all k l = every_kept (λ y. not (leb (key y) k)) (λ y. k < key y) (λ y e. leb-false (key y) k (not-true (leb (key y) k) e)) l

  -- an ascending list without the key is these two
  pub cut_key : (n k : ℕ) (l : List E) → Asc key n l → Fresh key k l → l ≡ below k l ++ above k l
  cut_key n k [] a f = refl
  cut_key n k (y ∷ l) a f = elim (side k (key y)) [
    | inl h ↦
        let i : k < key y = omega (arith, f.0) in
        let u = up_every key (suc (key y)) l (asc_up key (suc (key y)) l a.1) in
        let b = every_imp (λ z g. ap not (le-leb k (key z) (omega arith))) l u in
        let c = every_imp (λ z g. ap not (lt-leb (key z) k (omega arith))) l u in
        rw (le-leb k (key y) h, lt-leb (key y) k i, keep-none (λ y. not (leb k (key y))) l b, keep_all (λ y. not (leb (key y) k)) l c)
    | inr h ↦
        let i : key y ≤ k = omega arith in
        rw (lt-leb k (key y) h, le-leb (key y) k i) (ap (λ (m : List E). y ∷ m) (cut_key (suc (key y)) k l a.1 f.1))
  ]

  -- where q entries have lower keys and the others higher ones, they are the first q and those behind them
  pub cut_at : (k q : ℕ) (l : List E) → Every (λ y. key y < k) (take q l) → Every (λ y. k < key y) (drop q l) → (below k l ≡ take q l) × (above k l ≡ drop q l)
  cut_at k q l a b =
      let f : E → Bool = λ y. not (leb k (key y)) in
      let g : E → Bool = λ y. not (leb (key y) k) in
      let s : l ≡ take q l ++ drop q l = sym (take-append-drop q l) in
      let fa : keep f (take q l) ≡ take q l = keep_all f (take q l) (every_imp (λ y h. ap not (lt-leb k (key y) h)) (take q l) a) in
      let fb : keep f (drop q l) ≡ [] = keep-none f (drop q l) (every_imp (λ y h. ap not (le-leb k (key y) (omega arith))) (drop q l) b) in
      let ga : keep g (take q l) ≡ [] = keep-none g (take q l) (every_imp (λ y h. ap not (le-leb (key y) k (omega arith))) (take q l) a) in
      let gb : keep g (drop q l) ≡ drop q l = keep_all g (drop q l) (every_imp (λ y h. ap not (lt-leb (key y) k h)) (drop q l) b) in (
        ap (keep f) s ∙ keep_append f (take q l) (drop q l) ∙ ap (λ (m : List E). keep f (take q l) ++ m) fb ∙ append-nil (keep f (take q l)) ∙ fa,
        ap (keep g) s ∙ keep_append g (take q l) (drop q l) ∙ ap (λ (m : List E). m ++ keep g (drop q l)) ga ∙ gb,
      )

  -- the last run is what is left of the old entries; and one run more, by the place of the new entry's key
  pub merge_end : (old : List E) → merge [] old ≡ old
  unfolding merge
  merge_end old = refl

  pub merge_run : (x : E) (l old : List E) (q : ℕ) → Place key (key x) old q q → merge (x ∷ l) old ≡ take q old ++ (x ∷ merge l (drop q old))
  unfolding merge
  merge_run x l old q p =
      let (a, b) = cut_at (key x) q old p.low p.high in
      ap (λ (m : List E). m ++ (x ∷ merge l (above (key x) old))) a ∙ ap (λ (m : List E). take q old ++ (x ∷ merge l m)) b

  fresh_keep : (p : E → Bool) (k : ℕ) (l : List E) → Fresh key k l → Fresh key k (keep p l)
  fresh_keep p k l f = every_keep p _ l (every_imp (λ y h _. h) l f)

  -- merged they are as put in one by one
  pub merge_inserts : (m n : ℕ) (l old : List E) → Asc key m l → Asc key n old → Every (λ x. Fresh key (key x) old) l → merge l old ≡ inserts key old l
  unfolding merge
  merge_inserts m n [] old a b f = refl
  merge_inserts m n (x ∷ l) old a b f =
      let k : ℕ = key x in
      let c = cut_key n k old b f.0 in
      let u = up_every key (suc k) l (asc_up key (suc k) l a.1) in
      let p : insert key x old ≡ below k old ++ (x ∷ above k old) = ap (insert key x) c ∙ insert_between key x (below k old) (above k old) (below_all k old) (above_all k old) in
      let q : inserts key ((below k old ++ (x ∷ [])) ++ above k old) l ≡ (below k old ++ (x ∷ [])) ++ inserts key (above k old) l =
      inserts_past l (below k old ++ (x ∷ [])) (above k old) (every_imp (λ z g. every_append _ (below k old) (x ∷ []) (every_imp (λ y h. omega arith) (below k old) (below_all k old)) (omega arith, tt)) l u) in
      let r : merge l (above k old) ≡ inserts key (above k old) l = merge_inserts (suc k) n l (above k old) a.1 (asc_keep key (λ y. not (leb (key y) k)) n old b) (every_imp (λ z g. fresh_keep (λ y. not (leb (key y) k)) (key z) old g) l f.1) in
      let assoc = append_assoc (below k old) (x ∷ []) (above k old) in
      ap (λ (t : List E). below k old ++ (x ∷ t)) r
      ∙ sym (append_assoc (below k old) (x ∷ []) (inserts key (above k old) l))
      ∙ sym q
      ∙ ap (λ (s : List E). inserts key s l) (assoc ∙ sym p)

  -- lists whose keys are apart, each and from each other's
  pub apart_parts : (l old : List E) → Apart key (l ++ old) → Apart key l × Every (λ x. Fresh key (key x) old) l × Apart key old
  apart_parts [] old d = (tt, tt, d)
  apart_parts (x ∷ l) old (f, d) = let (i, j, k) = apart_parts l old d in let g = append_every _ l old f in ((g.0, i), (g.1, j), k)

  -- So the sorted new entries and the old ones make the sorted list of all.
  pub merge_sort : (l old : List E) → Asc key 0 old → Apart key (l ++ old) → merge (sort key l) old ≡ sort key (l ++ old)
  merge_sort l old a d =
      let p = Permᴰ.symm (sort_perm key l) in
      let (_, j, _) = apart_parts (sort key l) old (apart_perm key (Permᴰ.append_right old p) d) in
      let (i, _, _) = apart_parts l old d in
      merge_inserts 0 0 (sort key l) old (sort_asc key l i) a j ∙ sym (inserts_order key old a d p) ∙ inserts-sort key old l a d
