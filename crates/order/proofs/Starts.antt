-- Laws of `starts_from`: what stands at the starts of entries that stand one after another in `s`.
-- Assumes nothing.
use mathlib.Core.Path.{◌≡◌, refl, sym, ◌∙◌, ap}
use mathlib.Core.List.{List, [], ◌∷◌, ◌++◌, map, map-id, append_assoc}
use Prim.Native.Nat.{ℕ, suc, ◌+◌, ◌≤◌}
use native.Mathlib.Omega.{arith}
use lib.ListN.{length, drop, length-append, length-drop}
use lib.Seq.{drop-drop, drop-append_seam}
use Rattle.order.specs.Keyed.{Every, sort}
use Rattle.order.specs.Entries.{join, starts_from, first}
use Rattle.order.proofs.Entries.{SelfDelimiting, first-append}
use Rattle.order.proofs.Sorts.{map-sort}

pub length-starts : (at : ℕ) (l : List (List ℕ)) → length (starts_from at l) ≡ length l
length-starts at [] = refl
length-starts at (e ∷ l) = ap suc (length-starts (at + length e) l)

module _ (s : List ℕ) (at : ℕ) (e rest : List ℕ) (h : drop at s ≡ e ++ rest) where
  -- past an entry
  pub drop_past : drop (at + length e) s ≡ rest
  drop_past = sym (drop-drop (length e) at s) ∙ ap (drop (length e)) h ∙ drop-append_seam e rest

  pub past_le : at ≤ length s → at + length e ≤ length s
  past_le i = omega (arith, length-drop at s, ap length h, length-append e rest)

module _ {Is : List ℕ → Type 0} (s : List ℕ) where
  -- what holds wherever an entry begins holds at the starts
  pub every_starts : (P : List ℕ → Type 0) → ((e rest : List ℕ) → Is e → P (e ++ rest))
      → (at : ℕ) (l : List (List ℕ)) (rest : List ℕ) → drop at s ≡ join l ++ rest → Every Is l → Every (λ y. P (drop y s)) (starts_from at l)
  every_starts P p at [] rest h a = tt
  every_starts P p at (e ∷ l) rest h a =
      let g : drop at s ≡ e ++ (join l ++ rest) = rw append_assoc at h in
      (rw g (p e (join l ++ rest) a.0), every_starts P p (at + length e) l rest (drop_past s at e (join l ++ rest) g) a.1)

  -- `f`, which sees nothing past an entry, reads at the starts what `g` says of the entries
  pub map-starts : {A : Type 0} (f g : List ℕ → A) → ((e rest : List ℕ) → Is e → f (e ++ rest) ≡ g e)
      → (at : ℕ) (l : List (List ℕ)) (rest : List ℕ) → drop at s ≡ join l ++ rest → Every Is l → map (λ y. f (drop y s)) (starts_from at l) ≡ map g l
  map-starts f g p at [] rest h a = refl
  map-starts f g p at (e ∷ l) rest h a =
      let q : drop at s ≡ e ++ (join l ++ rest) = rw append_assoc at h in
      cc (ap f q, p e (join l ++ rest) a.0, map-starts f g p (at + length e) l rest (drop_past s at e (join l ++ rest) q) a.1)

module _ {width : List ℕ → ℕ} {Is : List ℕ → Type 0} (K : SelfDelimiting width Is) (s : List ℕ) (at : ℕ) (l : List (List ℕ)) (rest : List ℕ)
    (h : drop at s ≡ join l ++ rest) (a : Every Is l) where
  -- at each start stands its entry
  pub first-starts : map (λ y. first width (drop y s)) (starts_from at l) ≡ l
  first-starts = map-starts s (first width) (λ e. e) (first-append K) at l rest h a ∙ map-id l

  -- the entries at the starts in the order of their keys are the entries in the order of their keys
  pub sort-starts : (key : List ℕ → ℕ) → ((e rest : List ℕ) → Is e → key (e ++ rest) ≡ key e)
      → map (λ y. first width (drop y s)) (sort (λ y. key (drop y s)) (starts_from at l)) ≡ sort key l
  sort-starts key local =
      map-sort (λ y. first width (drop y s)) (λ y. key (drop y s)) key (starts_from at l)
      (every_starts s (λ b. key (first width b) ≡ key b) (λ e r i. ap key (first-append K e r i) ∙ sym (local e r i)) at l rest h a)
      ∙ ap (sort key) first-starts
