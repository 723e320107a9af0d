-- Many at once is a chain of adds, each with the room of the output; so Demand 3 holds for the orders of a table.
-- Assumes nothing.
use mathlib.Core.Path.{◌≡◌, refl, sym, ◌∙◌, ap, subst}
use mathlib.Core.Logic.{◌↔◌}
use mathlib.Core.Bool.{true}
use mathlib.Core.List.{List, [], ◌∷◌, ◌++◌, Permᴰ, Perm}
use Prim.Native.Nat.{ℕ, zero, suc, ◌+◌, ◌*◌, ◌/◌, ◌%◌, ◌≤◌, ◌<◌}
use native.Mathlib.Omega.{arith}
use lib.ListN.{length, length-append}
use Rattle.answer.specs.Numbers.{ROOM, HAVE, ABSENT, PAYLOAD, is_fault}
use Rattle.answer.specs.Outcome.{Outcome, taken, refused, checked, after}
use Rattle.answer.proofs.Checks.{checked-pass, pass-checked}
use Rattle.answer.proofs.Outcomes.{taken_is, taken_refused, after_taken}
use Rattle.wire.specs.Numbers.{Bytes}
use Rattle.wire.proofs.Numbers.{le_at-append, le_at_bound}
use Rattle.order.specs.Adding.{Chain, items}
use Rattle.order.proofs.Folds.{every_map, every_imp}
use Rattle.aerosnap.specs.declared.NewDevice.{NewDevice}
use Rattle.aerosnap.specs.Content.{Content, render, content_at, canonical, IsCanonical}
use Rattle.aerosnap.specs.Adding.{Item}
use Rattle.aerosnap.specs.Edits.{add, add_to, edit_file, add_item, Call}
use Rattle.aerosnap.specs.Many.{new_device_at, new_devices_from, new_devices, is_inside, new_item, new_items, Inside, new_calls, further, add_new, add_each, RefusedAt, add_all, many}
use Rattle.aerosnap.proofs.Items.{WideNews}
use Rattle.aerosnap.proofs.Canonical.{canonical_exactly}
use Rattle.aerosnap.proofs.Refusals.{Refuses, checked_refuses, after_refuses}
use Rattle.aerosnap.proofs.Named.{content_refuses, edit_to_refuses, canonical_refuses}
use Rattle.aerosnap.proofs.Passing.{edit_exactly}
use Rattle.aerosnap.proofs.AnyOrder.{any_order, no_two_sets}

-- ---- the table

-- the numbers that are read of a table are as wide as their fields
pub wide_from : (t : List ℕ) → Bytes t → (n at : ℕ) → WideNews (new_devices_from n at t)
unfolding new_devices_from
wide_from t b zero at = tt
wide_from t b (suc n) at = ((le_at_bound 4 t at b, le_at_bound 2 t (at + 4) b, le_at_bound 2 t (at + 6) b), wide_from t b n (at + 24))

pub wide_table : (t : List ℕ) → Bytes t → WideNews (new_devices t)
wide_table t b = wide_from t b (length t / 24) 0

pub items_calls : (have : ℕ) (store : List ℕ) (l : List NewDevice) → items (new_calls have store l) ≡ new_items store l
items_calls have store [] = refl
items_calls have store (x ∷ l) = ap (λ (m : List Item). new_item store x ∷ m) (items_calls have store l)

-- how many they are
pub count_from : (n at : ℕ) (t : List ℕ) → length (new_devices_from n at t) ≡ n
unfolding new_devices_from
count_from zero at t = refl
count_from (suc n) at t = ap suc (count_from n (at + 24) t)

pub count-news : (t : List ℕ) → length (new_devices t) ≡ length t / 24
count-news t = count_from (length t / 24) 0 t

-- what follows them isn't looked at
new_append : (t u : List ℕ) (at : ℕ) → at + 24 ≤ length t → new_device_at (t ++ u) at ≡ new_device_at t at
new_append t u at h =
    let i = le_at-append 4 t u at (omega arith) in
    let v = le_at-append 2 t u (at + 4) (omega arith) in
    let f = le_at-append 2 t u (at + 6) (omega arith) in
    let p = le_at-append 8 t u (at + 8) (omega arith) in
    let l = le_at-append 8 t u (at + 16) (omega arith) in
    λ j. record { id = i j; version = v j; flags = f j; place = p j; length = l j }

from_append : (n at : ℕ) (t u : List ℕ) → at + 24 * n ≤ length t → new_devices_from n at (t ++ u) ≡ new_devices_from n at t
unfolding new_devices_from
from_append zero at t u h = refl
from_append (suc n) at t u h = cc (new_append t u at (omega arith), from_append n (at + 24) t u (omega arith))

-- a part record at the end is no entry
pub part_record : (t u : List ℕ) → length t % 24 ≡ 0 → length u < 24 → new_devices (t ++ u) ≡ new_devices t
part_record t u h k =
    let n : length (t ++ u) / 24 ≡ length t / 24 = omega (arith, length-append t u) in
    ap (λ (n : ℕ). new_devices_from n 0 (t ++ u)) n ∙ from_append (length t / 24) 0 t u (omega arith)

-- ---- answers with an index

pub further_taken : {A B : Type 0} (p : ℕ × Outcome A) (f : A → ℕ × Outcome B) {j : ℕ} {b : B} → further p f ≡ (j, taken b) → (a : A) × (p.1 ≡ taken a) × (f a ≡ (j, taken b))
further_taken (i, taken a) f h = (a, refl, h)
further_taken {B = B} (i, refused n p) f h = absurd (taken_refused (sym (ap (λ (q : ℕ × Outcome B). q.1) h)))

pub further_same : {A B : Type 0} (p : ℕ × Outcome A) (f g : A → ℕ × Outcome B) → ((a : A) → p.1 ≡ taken a → f a ≡ g a) → further p f ≡ further p g
further_same (i, taken a) f g h = h a refl
further_same (i, refused n p) f g h = refl

-- ---- one entry

-- an entry that is added is the add of its item
pub new_add : (have : ℕ) (s store : List ℕ) (x : NewDevice) (b : List ℕ) → add_new have s store x ≡ taken b → (is_inside store x ≡ true) × (add_item have s (new_item store x) ≡ taken b)
unfolding add_new edit_file
new_add have s store x b h =
    let (c, e, q) = after_taken (content_at s) (λ c. checked ((is_inside store x, PAYLOAD, 0) ∷ []) (add_to have c (new_item store x))) h in
    let (p, t) = checked-pass ((is_inside store x, PAYLOAD, 0) ∷ []) (add_to have c (new_item store x)) b q in
    (p.0, rw e t)

-- whatever it answers, where its payload lies within the second buffer
pub add-new : (have : ℕ) (s store : List ℕ) (x : NewDevice) → is_inside store x ≡ true → add_new have s store x ≡ add_item have s (new_item store x)
unfolding add_new edit_file
add-new have s store x h = go (content_at s)
  where
    go : (o : Outcome Content) → after o (λ c. checked ((is_inside store x, PAYLOAD, 0) ∷ []) (add_to have c (new_item store x))) ≡ after o (λ c. add_to have c (new_item store x))
    go (taken c) = pass-checked ((is_inside store x, PAYLOAD, 0) ∷ []) (add_to have c (new_item store x)) (h, tt)
    go (refused n p) = refl

-- ---- all of them

pub each_chain : (have : ℕ) (s : List ℕ) (i : ℕ) (l : List NewDevice) (store : List ℕ) (j : ℕ) (b : List ℕ) → WideNews l → add_each have s i l store ≡ (j, taken b)
    → (j ≡ 0) × Inside store l × Chain Call s (new_calls have store l) b
unfolding add_each
each_chain have s i [] store j b w h = (sym (ap (λ (q : ℕ × Outcome (List ℕ)). q.0) h), tt, taken_is (ap (λ (q : ℕ × Outcome (List ℕ)). q.1) h))
each_chain have s i (x ∷ l) store j b w h =
    let (d, e, q) = further_taken (i, add_new have s store x) (λ b. add_each have b (suc i) l store) h in
    let (p, t) = new_add have s store x d e in
    let (z, n, c) = each_chain have d (suc i) l store j b w.1 q in
    (z, (p, n), (d, record { wide = w.0; accepts = t }, c))

pub chain_each : (have : ℕ) (s : List ℕ) (i : ℕ) (l : List NewDevice) (store b : List ℕ) → Inside store l → Chain Call s (new_calls have store l) b → add_each have s i l store ≡ (0, taken b)
unfolding add_each
chain_each have s i [] store b n c = ap (λ (t : List ℕ). (0, taken t)) c
chain_each have s i (x ∷ l) store b n (d, k, c) =
    let e : add_new have s store x ≡ taken d = add-new have s store x n.0 ∙ k.accepts in
    rw e (chain_each have d (suc i) l store b n.1 c)

-- where entries before it are added, one that is refused is refused with its number
chain_refused : (have : ℕ) (store : List ℕ) (before : List NewDevice) (x : NewDevice) (behind : List NewDevice) (s d : List ℕ) (a n p : ℕ) → Inside store before → Chain Call s (new_calls have store before) d
    → add_new have d store x ≡ refused n p → add_each have s a (before ++ (x ∷ behind)) store ≡ (a + length before, refused n p)
unfolding add_each
chain_refused have store [] x behind s d a n p i c h =
    let e : add_new have s store x ≡ refused n p = ap (λ (d : List ℕ). add_new have d store x) c ∙ h in
    rw e (ap (λ (j : ℕ). (j, refused n p)) (omega arith))
chain_refused have store (y ∷ before) x behind s d a n p i (u, k, c) h =
    let e : add_new have s store y ≡ taken u = add-new have s store y i.0 ∙ k.accepts in
    rw e (chain_refused have store before x behind u d (suc a) n p i.1 c h ∙ ap (λ (j : ℕ). (j, refused n p)) (omega arith))

each_refused : (have : ℕ) (s : List ℕ) (a : ℕ) (l : List NewDevice) (store : List ℕ) (j n p : ℕ) → WideNews l → add_each have s a l store ≡ (j, refused n p) → (i : ℕ) × (j ≡ a + i) × RefusedAt have s l store i n p
unfolding add_each
each_refused have s a [] store j n p w h = absurd (taken_refused (ap (λ (q : ℕ × Outcome (List ℕ)). q.1) h))
each_refused have s a (x ∷ l) store j n p w h = go (add_new have s store x) refl h (λ d. each_refused have d (suc a) l store j n p w.1)
  where
    go : (o : Outcome (List ℕ)) → add_new have s store x ≡ o → further (a, o) (λ b. add_each have b (suc a) l store) ≡ (j, refused n p)
        → ((d : List ℕ) → add_each have d (suc a) l store ≡ (j, refused n p) → (i : ℕ) × (j ≡ suc a + i) × RefusedAt have d l store i n p) → (i : ℕ) × (j ≡ a + i) × RefusedAt have s (x ∷ l) store i n p
    go (taken d) e h f =
        let (i, k, r) = f d h in
        let (q, t) = new_add have s store x d e in (
          suc i,
          omega arith,
          record {
            before = x ∷ r.before;
            entry = r.entry;
            behind = r.behind;
            split = ap (λ (m : List NewDevice). x ∷ m) r.split;
            number = ap suc r.number;
            inside = (q, r.inside);
            file = r.file;
            added = (d, record { wide = w.0; accepts = t }, r.added);
            refuses = r.refuses;
          },
        )
    go (refused m q) e h f =
        let z : ◌≡◌ {A = Outcome (List ℕ)} (refused m q) (refused n p) = ap (λ (x : ℕ × Outcome (List ℕ)). x.1) h in
        (0, omega (arith, ap (λ (x : ℕ × Outcome (List ℕ)). x.0) h), record { before = []; entry = x; behind = l; split = refl; number = refl; inside = tt; file = s; added = refl; refuses = e ∙ z })

-- a table with an entry is refused exactly where its first entry is that is refused one by one
pub all_refused : (have : ℕ) (s : List ℕ) (x : NewDevice) (l : List NewDevice) (store : List ℕ) (i n p : ℕ) → WideNews (x ∷ l) → (add_all have s (x ∷ l) store ≡ (i, refused n p)) ↔ RefusedAt have s (x ∷ l) store i n p
unfolding add_all
all_refused have s x l store i n p w = (
  (λ h. let (j, k, r) = each_refused have s 0 (x ∷ l) store i n p w h in subst (λ (j : ℕ). RefusedAt have s (x ∷ l) store j n p) (omega arith) r),
  λ r.
      ap (λ (m : List NewDevice). add_each have s 0 m store) r.split ∙ chain_refused have store r.before r.entry r.behind s r.file 0 n p r.inside r.added r.refuses
      ∙ ap (λ (j : ℕ). (j, refused n p)) (omega (arith, r.number)),
)

-- and taken exactly if all are
pub all_added : (have : ℕ) (s : List ℕ) (x : NewDevice) (l : List NewDevice) (store : List ℕ) (i : ℕ) (b : List ℕ) → WideNews (x ∷ l)
    → (add_all have s (x ∷ l) store ≡ (i, taken b)) ↔ ((i ≡ 0) × Inside store (x ∷ l) × Chain Call s (new_calls have store (x ∷ l)) b)
unfolding add_all
all_added have s x l store i b w = (
  (λ h. each_chain have s 0 (x ∷ l) store i b w h),
  λ (z, n, c). chain_each have s 0 (x ∷ l) store b n c ∙ ap (λ (j : ℕ). (j, taken b)) (sym z),
)

-- what is written fits
each_fits : (have : ℕ) (s : List ℕ) (i : ℕ) (x : NewDevice) (l : List NewDevice) (store : List ℕ) (j : ℕ) (b : List ℕ) → add_each have s i (x ∷ l) store ≡ (j, taken b) → length b ≤ have
unfolding add_each
each_fits have s i x [] store j b h =
    let (d, e, q) = further_taken (i, add_new have s store x) (λ b. add_each have b (suc i) [] store) h in
    let (_, t) = new_add have s store x d e in
    let (_, _, p, w) = (edit_exactly have s (add (new_item store x)) d).0 t in
    let z : d ≡ b = taken_is (ap (λ (q : ℕ × Outcome (List ℕ)). q.1) q) in
    omega (arith, p.room_is, ap length w, ap length z)
each_fits have s i x (y ∷ l) store j b h =
    let (d, e, q) = further_taken (i, add_new have s store x) (λ b. add_each have b (suc i) (y ∷ l) store) h in
    each_fits have d (suc i) y l store j b q

pub all_fits : (have : ℕ) (s : List ℕ) (l : List NewDevice) (store : List ℕ) (j : ℕ) (b : List ℕ) → add_all have s l store ≡ (j, taken b) → length b ≤ have
unfolding add_all
all_fits have s [] store j b h = ((canonical_exactly have s b).0 (ap (λ (q : ℕ × Outcome (List ℕ)). q.1) h)).3
all_fits have s (x ∷ l) store j b h = each_fits have s 0 x l store j b h

-- The whole call, on a canonical file, is taken exactly if every payload lies within the second buffer and the chain of adds is taken; its index is 0 then.
pub all_chain : (have : ℕ) (s : List ℕ) (l : List NewDevice) (store : List ℕ) (j : ℕ) (b : List ℕ) → IsCanonical s → WideNews l → add_all have s l store ≡ (j, taken b) → (j ≡ 0) × Inside store l × Chain Call s (new_calls have store l) b
unfolding add_all
all_chain have s [] store j b o w h =
    let k : canonical have s ≡ taken b = ap (λ (q : ℕ × Outcome (List ℕ)). q.1) h in
    let (c, e, q, n) = (canonical_exactly have s b).0 k in
    let (d, f, t, m) = (canonical_exactly (length s) s s).0 o in
    let i : c ≡ d = taken_is (sym e ∙ f) in
    (sym (ap (λ (q : ℕ × Outcome (List ℕ)). q.0) h), tt, sym t ∙ ap render (sym i) ∙ q)
all_chain have s (x ∷ l) store j b o w h = each_chain have s 0 (x ∷ l) store j b w h

pub chain_all : (have : ℕ) (s : List ℕ) (l : List NewDevice) (store b : List ℕ) → IsCanonical s → length b ≤ have → Inside store l → Chain Call s (new_calls have store l) b → add_all have s l store ≡ (0, taken b)
unfolding add_all
chain_all have s [] store b o n i c =
    let (d, f, t, m) = (canonical_exactly (length s) s s).0 o in
    ap (λ (r : Outcome (List ℕ)). (0, r)) ((canonical_exactly have s b).1 (d, f, t ∙ c, n))
chain_all have s (x ∷ l) store b o n i c = chain_each have s 0 (x ∷ l) store b i c

-- ---- refusals

-- what holds of the number of every fault, and of ROOM, HAVE, ABSENT and PAYLOAD, holds of the number with which the call is refused
module _ (P : ℕ → Type 0) (faulty : (n : ℕ) → is_fault n ≡ true → P n) (r : P ROOM) (h : P HAVE) (a : P ABSENT) (o : P PAYLOAD) where
  new_refuses : (have : ℕ) (s store : List ℕ) (x : NewDevice) → Refuses P (add_new have s store x)
  unfolding add_new
  new_refuses have s store x =
      after_refuses P (content_at s) (λ c. checked ((is_inside store x, PAYLOAD, 0) ∷ []) (add_to have c (new_item store x))) (content_refuses P faulty s)
      (λ c. checked_refuses P ((is_inside store x, PAYLOAD, 0) ∷ []) (add_to have c (new_item store x)) (o, tt) (edit_to_refuses P faulty r h a have c (add (new_item store x))))

  each_refuses : (have : ℕ) (s : List ℕ) (i : ℕ) (l : List NewDevice) (store : List ℕ) → Refuses P (add_each have s i l store).1
  unfolding add_each
  each_refuses have s i [] store = tt
  each_refuses have s i (x ∷ l) store = go (add_new have s store x) (new_refuses have s store x) (λ b. each_refuses have b (suc i) l store)
    where
      go : (q : Outcome (List ℕ)) → Refuses P q → ((b : List ℕ) → Refuses P (add_each have b (suc i) l store).1) → Refuses P (further (i, q) (λ b. add_each have b (suc i) l store)).1
      go (taken b) k f = f b
      go (refused n p) k f = k

  pub all_refuses : (have : ℕ) (s : List ℕ) (l : List NewDevice) (store : List ℕ) → Refuses P (add_all have s l store).1
  unfolding add_all
  all_refuses have s [] store = canonical_refuses P faulty r have s
  all_refuses have s (x ∷ l) store = each_refuses have s 0 (x ∷ l) store

-- ---- Demand 3 for tables: sets of keys and payload bytes, wherever these lie

pub any-news : (have room : ℕ) (s : List ℕ) (l m : List NewDevice) (store other : List ℕ) (j : ℕ) (b : List ℕ) → IsCanonical s → WideNews l → add_all have s l store ≡ (j, taken b)
    → Permᴰ (new_items store l) (new_items other m) → Inside other m → length b ≤ room → add_all room s m other ≡ (0, taken b)
any-news have room s l m store other j b o w h p i n =
    let (_, _, c) = all_chain have s l store j b o w h in
    chain_all room s m other b o n i
    (any_order s (new_calls have store l) (new_calls room other m) b o c (rw (items_calls have store l, items_calls room other m) p) (every_map _ (λ x. (room, new_item other x)) m (every_imp (λ x _. n) m i)))

pub no_two_news : (have room : ℕ) (s : List ℕ) (l m : List NewDevice) (store other : List ℕ) (j k : ℕ) (b : List ℕ) → IsCanonical s → WideNews l → WideNews m → add_all have s l store ≡ (j, taken b) → add_all room s m other ≡ (k, taken b)
    → Perm (new_items store l) (new_items other m)
no_two_news have room s l m store other j k b o w v h g =
    let (_, _, c) = all_chain have s l store j b o w h in
    let (_, _, d) = all_chain room s m other k b o v g in
    rw (items_calls have store l, items_calls room other m) at (no_two_sets s (new_calls have store l) (new_calls room other m) b o c d)

-- the same from the bytes of two tables
pub any-table : (have room : ℕ) (s t u store other : List ℕ) (j : ℕ) (b : List ℕ) → IsCanonical s → Bytes t → many have s t store ≡ (j, taken b)
    → Permᴰ (new_items store (new_devices t)) (new_items other (new_devices u)) → Inside other (new_devices u) → length b ≤ room → many room s u other ≡ (0, taken b)
any-table have room s t u store other j b o w h p i n = any-news have room s (new_devices t) (new_devices u) store other j b o (wide_table t w) h p i n

pub no_two_tables : (have room : ℕ) (s t u store other : List ℕ) (j k : ℕ) (b : List ℕ) → IsCanonical s → Bytes t → Bytes u → many have s t store ≡ (j, taken b) → many room s u other ≡ (k, taken b)
    → Perm (new_items store (new_devices t)) (new_items other (new_devices u))
no_two_tables have room s t u store other j k b o w v h g = no_two_news have room s (new_devices t) (new_devices u) store other j k b o (wide_table t w) (wide_table u v) h g
