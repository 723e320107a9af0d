-- Examples, computed.
-- Assumes nothing.
use mathlib.Core.Path.{◌≡◌, refl, sym}
use mathlib.Core.Logic.{◌≢◌}
use mathlib.Core.Bool.{true, false}
use mathlib.Core.List.Permᴰ
use mathlib.Core.List.{List, [], ◌∷◌}
use Prim.Native.Nat.{ℕ, suc, ◌+◌, ◌*◌, ◌≤◌}
use native.Mathlib.Omega.{arith}
use lib.ListN.{length, get_or}
use Rattle.order.specs.Keyed.{insert, inserts, sort, has, Fresh}
use Rattle.order.specs.Entries.{join, starts_from, split}
use Rattle.order.proofs.Entries.{parts}
use Rattle.order.specs.Adding.{Chain}
use Rattle.order.proofs.Adding.{AddLaws, any_order}
use Rattle.order.proofs.Inserts.{insert_perm, insert_comm, length-insert, every_insert, insert_every}

-- an entry: its key and its payload
abbrev Entry : Type 0
Entry = ℕ × List ℕ

abbrev key : Entry → ℕ
key e = e.0

abbrev three : Entry
three = (3, 171 ∷ 205 ∷ [])

abbrev fourteen : Entry
fourteen = (14, 17 ∷ [])

sorted : sort key (fourteen ∷ three ∷ []) ≡ three ∷ fourteen ∷ []
unfolding insert
sorted = refl

sorted_already : sort key (three ∷ fourteen ∷ []) ≡ three ∷ fourteen ∷ []
unfolding insert
sorted_already = refl

-- where a key comes again, the first stays first
stable : sort key ((3, 1 ∷ []) ∷ (1, 2 ∷ []) ∷ (3, 4 ∷ []) ∷ []) ≡ (1, 2 ∷ []) ∷ (3, 1 ∷ []) ∷ (3, 4 ∷ []) ∷ []
unfolding insert
stable = refl

at_front : insert key (1, []) (three ∷ fourteen ∷ []) ≡ (1, []) ∷ three ∷ fourteen ∷ []
unfolding insert
at_front = refl

in_middle : insert key (5, []) (three ∷ fourteen ∷ []) ≡ three ∷ (5, []) ∷ fourteen ∷ []
unfolding insert
in_middle = refl

at_end : insert key (20, []) (three ∷ fourteen ∷ []) ≡ three ∷ fourteen ∷ (20, []) ∷ []
unfolding insert
at_end = refl

one_by_one : inserts key (three ∷ []) ((20, []) ∷ fourteen ∷ []) ≡ three ∷ fourteen ∷ (20, []) ∷ []
unfolding insert
one_by_one = refl

has_key : has key 14 (three ∷ fourteen ∷ []) ≡ true
unfolding has
has_key = refl

has_no_key : has key 15 (three ∷ fourteen ∷ []) ≡ false
unfolding has
has_no_key = refl

-- A key of two little-endian bytes: 1 comes before 256, though the first byte of 256 is the lower one.
abbrev number : List ℕ → ℕ
number b = get_or b 0 0 + 256 * get_or b 1 0

as_numbers : sort number ((0 ∷ 1 ∷ []) ∷ (1 ∷ 0 ∷ []) ∷ []) ≡ (1 ∷ 0 ∷ []) ∷ (0 ∷ 1 ∷ []) ∷ []
unfolding insert
as_numbers = refl

-- Entries whose first byte says how many follow it.
abbrev width : List ℕ → ℕ
width b = suc (get_or b 0 0)

abbrev two : List (List ℕ)
two = (2 ∷ 7 ∷ 8 ∷ []) ∷ (1 ∷ 9 ∷ []) ∷ []

joined : join two ≡ 2 ∷ 7 ∷ 8 ∷ 1 ∷ 9 ∷ []
joined = refl

starts : starts_from 4 two ≡ 4 ∷ 7 ∷ []
starts = refl

-- two entries are read, and what follows them is not looked at
read_two : split width 2 (2 ∷ 7 ∷ 8 ∷ 1 ∷ 9 ∷ 5 ∷ []) ≡ two
unfolding split
read_two = refl

read_all : parts width 9 (2 ∷ 7 ∷ 8 ∷ 1 ∷ 9 ∷ []) ≡ two
unfolding parts
read_all = refl

-- A list in key order with a bound on its length is such a state as `Adds` speaks of.
module _ (most : ℕ) where
  abbrev Step : ℕ → List Entry → Entry → List Entry → Type 0
  Step r s x u = (u ≡ insert key x s) × Fresh key (key x) s × (length u ≤ most) × (length u ≤ r)

  adds : AddLaws Step (insert key) (λ x s. Fresh key (key x) s) (λ x y. key y ≢ key x) (λ s. length s ≤ most) length (λ s. s)
  adds = record {
    checks = λ r s x u h. (h.0, h.1, rw h.0 at h.2);
    accepts = λ r s x m f q. (refl, m, f, q);
    apart_sym = λ x y d e. d (sym e);
    may_put = λ x y s m. let k = insert_every key _ x s m in (k.1, k.0);
    put_may = λ x y s m d. every_insert key _ x s d m;
    comm = λ x y s d. insert_comm key x y s (λ e. d (sym e));
    fits_down = λ x s f. omega (arith, length-insert key x s);
    size_up = λ x s. omega (arith, length-insert key x s);
    held-put = λ x s m. insert_perm key x s;
  }

-- one order is run, the other follows
run : Chain (Step 2) [] ((2, fourteen) ∷ (2, three) ∷ []) (three ∷ fourteen ∷ [])
unfolding insert
run = (fourteen ∷ [], (refl, tt, omega arith, omega arith), (three ∷ fourteen ∷ [], (refl, ((λ e. omega arith), tt), omega arith, omega arith), refl))

other_order : Chain (Step 2) [] ((2, three) ∷ (9, fourteen) ∷ []) (three ∷ fourteen ∷ [])
other_order = any_order (adds 2) [] ((2, fourteen) ∷ (2, three) ∷ []) ((2, three) ∷ (9, fourteen) ∷ []) (three ∷ fourteen ∷ []) (omega arith) run (Permᴰ.swap refl refl) (omega arith)
