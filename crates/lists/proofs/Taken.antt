-- A list is taken exactly if it is one: a count, and as many entries of its kind with distinct keys, and nothing after. Its entries are then one list.
-- Assumes nothing.
use mathlib.Core.Path.{◌≡◌, sym, ◌∙◌, ap}
use mathlib.Core.Bool.{true}
use mathlib.Core.List.{List, [], ◌++◌, append-nil}
use Prim.Native.Nat.{ℕ, ◌≤◌}
use lib.ListN.{length, drop}
use lib.Seq.{drop-append_seam}
use borrow.Author.Tests.{leb-true, le-leb}
use Rattle.answer.specs.Outcome.{taken}
use Rattle.answer.proofs.Checks.{checked-pass}
use Rattle.wire.specs.Numbers.{le_at}
use Rattle.format.specs.Format.{Is}
use Rattle.format.proofs.Meaning.{complete}
use Rattle.order.specs.Keyed.{weigh, sort, Apart}
use Rattle.order.specs.Entries.{join, starts_from}
use Rattle.order.proofs.Entries.{SelfDelimiting, split-join, length-join}
use Rattle.order.proofs.Keys.{apart_same}
use Rattle.order.proofs.Sorts.{inserts-sort}
use Rattle.entries.specs.Kinds.{Description}
use Rattle.lists.specs.Lists.{key_at, walk, count_checks, list_at, width_of, entries, tail_of, IsList}
use Rattle.entries.proofs.Lawful.{Lawful}
use Rattle.lists.proofs.Walks.{keys, walk_sound, walk_complete}

-- an entry says its own length
pub self : (d : Description) → SelfDelimiting (width_of d) (Is d.form)
self d = record { measured = λ e rest h. rw (complete d.form e rest h, width_of) }

-- the entries of bytes that are a list
pub list_entries : (d : Description) (s : List ℕ) (h : IsList d s) → entries d s ≡ h.items
list_entries d s h = rw (h.number, h.cut) (split-join (self d) h.items h.tail h.are)

-- and what follows them
pub list_tail : (d : Description) (s : List ℕ) (h : IsList d s) → tail_of d s ≡ h.tail
list_tail d s h =
    ap (λ (l : List (List ℕ)). drop (weigh length l) (drop 4 s)) (list_entries d s h) ∙ ap (drop (weigh length h.items)) h.cut
    ∙ ap (λ (n : ℕ). drop n (join h.items ++ h.tail)) (sym (length-join h.items)) ∙ drop-append_seam (join h.items) h.tail

-- the reading is unique, the tail too
pub list_one : (d : Description) (s : List ℕ) (h k : IsList d s) → (h.items ≡ k.items) × (h.tail ≡ k.tail)
list_one d s h k = (sym (list_entries d s h) ∙ list_entries d s k, sym (list_tail d s h) ∙ list_tail d s k)

-- a list of a closed kind has none
pub closed_tail : (d : Description) (s : List ℕ) → d.closed ≡ true → IsList d s → tail_of d s ≡ []
closed_tail d s c h = list_tail d s h ∙ h.ended c

module _ {d : Description} (K : Lawful d) (s : List ℕ) where
  pub list_sound : {r : List ℕ} → list_at d s ≡ taken r → IsList d s
  unfolding list_at
  list_sound {r} h =
      let p = checked-pass (count_checks d s) (walk d s (le_at 4 s 0) 4 []) r h in
      let f : 4 ≤ length s = leb-true _ _ p.0.0 in
      let v = walk_sound K s (le_at 4 s 0) 4 [] f tt p.1 in
      record {
        count = f;
        few = leb-true _ _ p.0.1.0;
        items = v.found;
        tail = v.tail;
        number = sym v.number;
        cut = v.cut;
        are = v.are;
        apart = apart_same (key_at d s) d.key (starts_from 4 v.found) v.found (keys K s 4 v.found v.tail v.cut v.are) (rw append-nil at v.apart);
        ended = v.ended;
      }

  -- the starts have distinct keys too
  pub starts_apart : (h : IsList d s) → Apart (key_at d s) (starts_from 4 h.items)
  starts_apart h = apart_same d.key (key_at d s) h.items (starts_from 4 h.items) (sym (keys K s 4 h.items h.tail h.cut h.are)) h.apart

  pub list_complete : (h : IsList d s) → list_at d s ≡ taken (sort (key_at d s) (starts_from 4 h.items))
  unfolding list_at
  list_complete h =
      let l : List ℕ = starts_from 4 h.items in
      let a : Apart (key_at d s) (l ++ []) = rw append-nil (starts_apart h) in
      rw (le-leb 4 (length s) h.count, le-leb (le_at 4 s 0) d.most h.few, h.number)
      (walk_complete K s h.items h.tail 4 [] h.count h.cut h.ended h.are a
      ∙ ap taken (inserts-sort (key_at d s) [] l tt a ∙ ap (sort (key_at d s)) (append-nil l)))
