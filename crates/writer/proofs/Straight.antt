-- Starts that follow one another as they stand in the list: it is in the order of its keys, and written as it stands.
-- Assumes nothing.
use mathlib.Core.Path.{◌≡◌, refl, sym, ◌∙◌, ap}
use mathlib.Core.Bool.{Bool, true, false, false≢true, ◌&&◌}
use mathlib.Core.List.{List, [], ◌∷◌, ◌++◌, map}
use Prim.Native.Nat.{ℕ, zero, suc, ◌+◌, ◌≤◌, ◌<◌}
use native.Mathlib.Numerals.{add-one}
use native.Mathlib.Omega.{arith}
use Rattle.std.specs.Bool.{MatchBool}
use Rattle.std.specs.List.Sorted.{IsNonDecreasing}
use lib.Dec.{leb}
use lib.ListN.{length, get_or}
use borrow.Author.Tests.{leb-true, le-leb, lt-leb}
use Rattle.wire.specs.Numbers.{Bytes}
use Rattle.order.specs.Keyed.{Apart, sort}
use Rattle.order.proofs.Keys.{Up, up_low, asc_apart}
use Rattle.order.specs.Entries.{starts_from}
use Rattle.order.proofs.Folds.{every_imp}
use Rattle.order.proofs.Sorts.{up_sort, sort_unique}
use Rattle.order.proofs.Starts.{first-starts}
use Rattle.entries.specs.Kinds.{Description}
use Rattle.entries.proofs.Lawful.{Lawful}
use Rattle.lists.specs.Lists.{key_at, entries, tail_of, list_bytes}
use Rattle.lists.proofs.Taken.{self, list_sound, list_entries}
use Rattle.lists.proofs.Ordered.{index_perm, index_asc, list_order}
use Rattle.lists.proofs.Written.{list-bytes}
use Rattle.writer.specs.Runs.{in_order_from, in_key_order}
use Rattle.writer.specs.Steps.{Listed, sorted_bytes}
use Rattle.writer.proofs.Runs.{entry_from}

-- ---- the test, as the library makes it

rising : (n : ℕ) (l : List ℕ) → ((k : ℕ) → suc k < length l → get_or l k 0 ≤ get_or l (suc k) 0) → (0 < length l → n ≤ get_or l 0 0) → in_order_from n l ≡ true
rising n [] h b = refl
rising n (y ∷ l) h b = rw (le-leb n y (b (omega arith))) (rising y l (λ k g. h (suc k) (omega arith)) (λ g. h 0 (omega arith)))

and-false : (b : Bool) → (b && false) ≡ false
and-false true = refl
and-false false = refl

falling : (n k : ℕ) (l : List ℕ) → suc k < length l → get_or l (suc k) 0 < get_or l k 0 → in_order_from n l ≡ false
falling n k [] h g = absurd (omega arith)
falling n zero (x ∷ []) h g = absurd (omega arith)
falling n zero (x ∷ y ∷ l) h g = rw (lt-leb x y g) (and-false (leb n x))
falling n (suc k) (x ∷ l) h g = rw (falling x k l (omega arith) g) (and-false (leb n x))

pub order_sorted : (l : List ℕ) (r : Bool) → MatchBool r (IsNonDecreasing l) ((k : ℕ) × (k + 1 < length l) × ((d : ℕ) → get_or l (k + 1) d < get_or l k d)) → r ≡ in_key_order l
order_sorted l true h = sym (rising 0 l (λ k g. h k (suc k) 0 (omega arith) g) (λ g. omega arith))
order_sorted l false h = sym (falling 0 h.0 l (omega (arith, h.1)) (rw add-one at (h.2 0)))

up_from : (n : ℕ) (l : List ℕ) → in_order_from n l ≡ true → Up (λ y. y) n l
up_from n [] h = tt
up_from n (y ∷ l) h = go (leb n y) refl h (up_from y l)
  where
    go : (b : Bool) → leb n y ≡ b → (b && in_order_from y l) ≡ true → (in_order_from y l ≡ true → Up (λ y. y) y l) → Up (λ y. y) n (y ∷ l)
    go true e q r = (leb-true n y e, r q)
    go false e q r = absurd (false≢true q)

pub order_up : (l : List ℕ) → in_key_order l ≡ true → Up (λ y. y) 0 l
order_up l h = up_from 0 l h

-- ---- starts

up_starts : (at : ℕ) (l : List (List ℕ)) → Up (λ y. y) at (starts_from at l)
up_starts at [] = tt
up_starts at (e ∷ l) = (omega arith, up_low (λ y. y) at (at + length e) (starts_from (at + length e) l) (omega arith) (up_starts (at + length e) l))

-- what has different keys is different
apart_finer : (key : ℕ → ℕ) (l : List ℕ) → Apart key l → Apart (λ y. y) l
apart_finer key [] a = tt
apart_finer key (x ∷ l) a = (every_imp (λ y n e. n (ap key e)) l a.0, apart_finer key l a.1)

module _ {d : Description} (K : Lawful d) {s l : List ℕ} (h : Listed d s l) (o : in_key_order l ≡ true) where
  pub straight : l ≡ starts_from 4 (entries d s)
  straight =
      let m : List ℕ = starts_from 4 (entries d s) in
      sym (up_sort (λ y. y) 0 l (order_up l o))
      ∙ sort_unique (λ y. y) (index_perm K s h.list) (apart_finer (key_at d s) l (asc_apart (key_at d s) 0 l (index_asc K s h.list)))
      ∙ up_sort (λ y. y) 4 m (up_starts 4 (entries d s))

  -- at each start stands its entry
  standing : map (entry_from d s) (starts_from 4 (entries d s)) ≡ entries d s
  standing =
      let is = list_sound K s h.list in
      rw (list_entries d s is) (first-starts (self d) s 4 is.items is.tail is.cut is.are)

  -- so its entries are in the order of their keys
  pub straight_order : sort d.key (entries d s) ≡ entries d s
  straight_order = sym (list_order K s h.list) ∙ ap (map (entry_from d s)) straight ∙ standing

  -- and the list is written as it stands, with its count
  pub straight_bytes : Bytes s → sorted_bytes d s ≡ s
  straight_bytes b = ap (λ (m : List (List ℕ)). list_bytes m ++ tail_of d s) straight_order ∙ sym (list-bytes K s h.list b)
