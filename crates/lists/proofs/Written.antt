-- Entries and a tail written as a list: it is taken and has them. A list that is taken: how long it is, also in the order of its keys, and where an entry more goes.
-- Assumes nothing.
use mathlib.Core.Path.{◌≡◌, refl, sym, ◌∙◌, ap}
use mathlib.Core.List.Permᴰ
use mathlib.Core.List.{List, [], ◌∷◌, ◌++◌, map, append-nil, append_assoc}
use mathlib.Core.Bool.{true, false}
use Prim.Native.Nat.{ℕ, zero, suc, ◌+◌, ◌≤◌}
use native.Mathlib.Omega.{arith}
use lib.ListN.{length, take, drop, length-append, length-drop, take-append-drop}
use lib.Seq.{drop_at}
use Rattle.answer.specs.Outcome.{taken}
use Rattle.wire.specs.Numbers.{Bytes, le_at, bytes_of}
use Rattle.wire.proofs.Numbers.{le_at-bytes_of, length-bytes_of, bytes_of-le_at}
use Rattle.format.specs.Format.{Is}
use Rattle.order.specs.Keyed.{weigh, insert, sort, has, Apart, Every}
use Rattle.order.specs.Entries.{join, starts_from, first}
use Rattle.order.proofs.Perms.{perm_length, perm_weigh, every_perm, apart_perm}
use Rattle.order.proofs.Sorts.{sort_perm}
use Rattle.order.proofs.Entries.{length-join, first-append}
use Rattle.entries.specs.Kinds.{Description}
use Rattle.std.proofs.Common.{Ok, Err}
use Rattle.lists.specs.Lists.{key_at, list_at, width_of, entries, tail_of, list_bytes, IsList}
use Rattle.lists.specs.Promises.{find_in}
use Rattle.entries.proofs.Lawful.{Lawful}
use Rattle.lists.proofs.Walks.{key_local}
use Rattle.lists.proofs.Taken.{self, list_entries, list_tail, list_sound, list_complete}
use Rattle.lists.proofs.Ordered.{piece_at, index_asc, list_order, index_every, index_has}
use Rattle.lists.proofs.Finds.{there_has, free_insert, free_has, find-map}

module _ {A B : Type 0} (f : A → B) where
  take-map : (n : ℕ) (l : List A) → take n (map f l) ≡ map f (take n l)
  take-map zero l = refl
  take-map (suc n) [] = refl
  take-map (suc n) (x ∷ l) = ap (λ (m : List B). f x ∷ m) (take-map n l)

  drop-map : (n : ℕ) (l : List A) → drop n (map f l) ≡ map f (drop n l)
  drop-map zero l = refl
  drop-map (suc n) [] = refl
  drop-map (suc n) (x ∷ l) = drop-map n l

-- entries that a list of the kind may have
pub record Good (d : Description) (l : List (List ℕ)) : Type 0 where
  pub are : Every (Is d.form) l
  pub apart : Apart d.key l
  pub few : length l ≤ d.most

pub good_sort : (d : Description) (l : List (List ℕ)) → Good d l → Good d (sort d.key l)
good_sort d l g =
    let p = sort_perm d.key l in
    record { are = every_perm _ (Permᴰ.symm p) g.are; apart = apart_perm d.key (Permᴰ.symm p) g.apart; few = omega (arith, g.few, perm_length p) }

pub good_entries : (d : Description) (s : List ℕ) → IsList d s → Good d (entries d s)
good_entries d s h = rw (list_entries d s h) (record { are = h.are; apart = h.apart; few = omega (arith, h.few, h.number) })

pub length_list : (l : List (List ℕ)) → length (list_bytes l) ≡ 4 + weigh length l
length_list l = length-append (bytes_of 4 (length l)) (join l) ∙ omega (arith, length-bytes_of 4 (length l), length-join l)

-- any entries that a list may have, and any tail, as a list
module _ {d : Description} (K : Lawful d) (l : List (List ℕ)) (g : Good d l) (t : List ℕ) (c : d.closed ≡ true → t ≡ []) where
  pub list_is : IsList d (list_bytes l ++ t)
  list_is =
      let b : list_bytes l ++ t ≡ bytes_of 4 (length l) ++ (join l ++ t) = append_assoc (bytes_of 4 (length l)) (join l) t in
      let n : le_at 4 (list_bytes l ++ t) 0 ≡ length l = ap (λ (s : List ℕ). le_at 4 s 0) b ∙ le_at-bytes_of 4 (length l) (join l ++ t) (omega (arith, g.few, K.bounded)) in
      record {
        count = omega (arith, length-append (list_bytes l) t, length_list l);
        few = rw n g.few;
        items = l;
        tail = t;
        number = n;
        cut = ap (drop 4) b ∙ drop_at (bytes_of 4 (length l)) (join l ++ t) 4 (length-bytes_of 4 (length l));
        are = g.are;
        apart = g.apart;
        ended = c;
      }

  pub entries_list : entries d (list_bytes l ++ t) ≡ l
  unfolding list_is
  entries_list = list_entries d (list_bytes l ++ t) list_is

  pub tail_list : tail_of d (list_bytes l ++ t) ≡ t
  unfolding list_is
  tail_list = list_tail d (list_bytes l ++ t) list_is

  list_taken : list_at d (list_bytes l ++ t) ≡ taken (sort (key_at d (list_bytes l ++ t)) (starts_from 4 l))
  unfolding list_is
  list_taken = list_complete K (list_bytes l ++ t) list_is

-- with no tail
module _ {d : Description} (K : Lawful d) (l : List (List ℕ)) (g : Good d l) where
  pub entries-bare : entries d (list_bytes l) ≡ l
  entries-bare = ap (entries d) (sym (append-nil (list_bytes l))) ∙ entries_list K l g [] (λ _. refl)

  pub bare_taken : list_at d (list_bytes l) ≡ taken (sort (key_at d (list_bytes l)) (starts_from 4 l))
  bare_taken = rw (append-nil (list_bytes l)) at (list_taken K l g [] (λ _. refl))

-- the entries of a list in the order of their keys, and with one more
abbrev pub in_key_order : Description → List ℕ → List (List ℕ)
in_key_order d s = sort d.key (entries d s)

abbrev pub with_entry : Description → List ℕ → List ℕ → List (List ℕ)
with_entry d s e = insert d.key e (in_key_order d s)

-- what a list that is taken is written as
module _ {d : Description} (K : Lawful d) (s : List ℕ) {r : List ℕ} (h : list_at d s ≡ taken r) where
  -- how many bytes its entries are
  pub list_length : length s ≡ 4 + weigh length (entries d s) + length (tail_of d s)
  list_length =
      let i = list_sound K s h in
      rw (list_tail d s i, list_entries d s i) (omega (arith, i.count, ap length i.cut, length-append (join i.items) i.tail, length-join i.items, length-drop 4 s))

  pub sorted_length : length (list_bytes (in_key_order d s)) + length (tail_of d s) ≡ length s
  sorted_length = omega (arith, length_list (in_key_order d s), perm_weigh length (sort_perm d.key (entries d s)), list_length)

  -- the bytes are the list of their entries
  pub list-bytes : Bytes s → s ≡ list_bytes (entries d s) ++ tail_of d s
  list-bytes b =
      let i = list_sound K s h in
      let c : bytes_of 4 (length i.items) ≡ take 4 s = ap (bytes_of 4) (sym i.number) ∙ bytes_of-le_at 4 s 0 b i.count in
      rw (list_tail d s i, list_entries d s i, c, append_assoc (take 4 s) (join i.items) i.tail, ← i.cut) (sym (take-append-drop 4 s))

  -- ---- a search in the index

  -- each start has its entry's key
  pub start_keys : Every (λ y. d.key (piece_at d s y) ≡ key_at d s y) r
  start_keys = index_every K s h (λ b. d.key (first (width_of d) b) ≡ d.key b) (λ e rest i. ap d.key (first-append (self d) e rest i) ∙ sym (key_local K e rest i))

  -- a key that is there is an entry's
  pub find-there : (k : ℕ) {p : ℕ} → find_in (key_at d s) k r ≡ Ok p → has d.key k (entries d s) ≡ true
  find-there k q = sym (index_has K s h k) ∙ there_has (key_at d s) k r q

  -- one that is free is no entry's
  pub find_new : (k : ℕ) {p : ℕ} → find_in (key_at d s) k r ≡ Err p → has d.key k (entries d s) ≡ false
  find_new k q = sym (index_has K s h k) ∙ free_has (key_at d s) k 0 r (index_asc K s h) q

  -- and an entry with it goes in at that place
  pub find-with : (e : List ℕ) {p : ℕ} → find_in (key_at d s) (d.key e) r ≡ Err p → with_entry d s e ≡ map (piece_at d s) (take p r) ++ (e ∷ map (piece_at d s) (drop p r))
  find-with e {p} q =
      let f : find_in d.key (d.key e) (map (piece_at d s) r) ≡ Err p = find-map (piece_at d s) (key_at d s) d.key (d.key e) r start_keys ∙ q in
      ap (insert d.key e) (sym (list_order K s h)) ∙ free_insert d.key (d.key e) e (map (piece_at d s) r) refl f
      ∙ rw (take-map, drop-map)
