-- The index of a list that is taken: the starts of its entries, each once, strictly ascending by key; at them stand the entries in the order of their keys.
-- Assumes nothing.
use mathlib.Core.Path.{◌≡◌, refl, sym, ◌∙◌, ap}
use mathlib.Core.Logic.{◌≢◌}
use mathlib.Core.Bool.{Bool, true, false}
use mathlib.Core.List.Permᴰ
use mathlib.Core.List.{List, ◌++◌, map, Permᴰ}
use Prim.Native.Nat.{ℕ}
use lib.ListN.{length, drop}
use Rattle.answer.specs.Outcome.{taken}
use Rattle.answer.proofs.Outcomes.{taken_is}
use Rattle.wire.specs.Numbers.{le_at}
use Rattle.format.specs.Format.{Is}
use Rattle.order.specs.Keyed.{sort, has, Fresh, Every, Asc}
use Rattle.order.specs.Entries.{starts_from, first}
use Rattle.order.proofs.Folds.{every_map, map_every}
use Rattle.order.proofs.Perms.{perm_length, every_perm}
use Rattle.order.proofs.Keys.{has_fresh, fresh_has}
use Rattle.order.proofs.Sorts.{sort_perm, sort_asc}
use Rattle.order.proofs.Starts.{length-starts, every_starts, sort-starts}
use Rattle.entries.specs.Kinds.{Description}
use Rattle.lists.specs.Lists.{key_at, list_at, width_of, entries, IsList}
use Rattle.entries.proofs.Lawful.{Lawful}
use Rattle.lists.proofs.Walks.{key_local, keys}
use Rattle.lists.proofs.Taken.{self, list_entries, list_sound, starts_apart, list_complete}

-- the entry that starts at a place
abbrev pub piece_at : Description → List ℕ → ℕ → List ℕ
piece_at d s y = first (width_of d) (drop y s)

-- keys that are the same are there alike
pub same_test : (a b : Bool) → (a ≡ false → b ≡ false) → (b ≡ false → a ≡ false) → a ≡ b
same_test true true f g = refl
same_test true false f g = g refl
same_test false true f g = sym (f refl)
same_test false false f g = refl

pub fresh_same : {A B : Type 0} (f : A → ℕ) (g : B → ℕ) (k : ℕ) (l : List A) (m : List B) → map f l ≡ map g m → Fresh f k l → Fresh g k m
fresh_same f g k l m e h = map_every (λ n. k ≢ n) g m (rw e at (every_map (λ n. k ≢ n) f l h))

module _ {d : Description} (K : Lawful d) (s : List ℕ) {r : List ℕ} (h : list_at d s ≡ taken r) where
  is : IsList d s
  is = list_sound K s h

  starts : r ≡ sort (key_at d s) (starts_from 4 is.items)
  starts = taken_is (sym h ∙ list_complete K s is)

  -- every start once
  pub index_perm : Permᴰ r (starts_from 4 (entries d s))
  index_perm = rw (starts, list_entries d s is) (sort_perm (key_at d s) (starts_from 4 is.items))

  -- strictly ascending by key
  pub index_asc : Asc (key_at d s) 0 r
  index_asc = rw starts (sort_asc (key_at d s) (starts_from 4 is.items) (starts_apart K s is))

  -- as many as the count says
  pub index_length : length r ≡ le_at 4 s 0
  index_length = perm_length index_perm ∙ length-starts 4 (entries d s) ∙ ap length (list_entries d s is) ∙ sym is.number

  -- the entries in the order of their keys
  pub list_order : map (piece_at d s) r ≡ sort d.key (entries d s)
  list_order = rw (starts, list_entries d s is) (sort-starts (self d) s 4 is.items is.tail is.cut is.are d.key (key_local K))

  -- what holds wherever an entry begins holds at each start
  pub index_every : (P : List ℕ → Type 0) → ((e rest : List ℕ) → Is d.form e → P (e ++ rest)) → Every (λ y. P (drop y s)) r
  index_every P p = rw starts (every_perm _ (Permᴰ.symm (sort_perm (key_at d s) (starts_from 4 is.items))) (every_starts s P p 4 is.items is.tail is.cut is.are))

  -- a key is in the index if it is an entry's
  pub index_has : (k : ℕ) → has (key_at d s) k r ≡ has d.key k (entries d s)
  index_has k =
      let t : List ℕ = starts_from 4 (entries d s) in
      let e : map (key_at d s) t ≡ map d.key (entries d s) = rw (list_entries d s is) (keys K s 4 is.items is.tail is.cut is.are) in
      same_test _ _
      (λ f. fresh_has _ k (entries d s) (fresh_same (key_at d s) d.key k t (entries d s) e (every_perm _ index_perm (has_fresh _ k r f))))
      (λ f. fresh_has _ k r (every_perm _ (Permᴰ.symm index_perm) (fresh_same d.key (key_at d s) k (entries d s) t (sym e) (has_fresh _ k (entries d s) f))))
