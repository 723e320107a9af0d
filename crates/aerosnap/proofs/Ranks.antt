-- What is written of a content, and what is written of each section: the sections of the content that a file has are its sections in the order of their ranks, each as it is written.
-- Assumes nothing.
use mathlib.Core.Path.{◌≡◌, refl, sym, ◌∙◌, ap}
use mathlib.Core.List.Permᴰ
use mathlib.Core.List.{List, [], ◌∷◌, ◌++◌, append-nil, append_assoc}
use mathlib.Core.Bool.{Bool, true, false, not, ◌&&◌, ◌||◌, cond}
use Prim.Native.Nat.{ℕ, ◌≤◌}
use native.Mathlib.Omega.{arith}
use lib.ListN.{length, drop}
use lib.Dec.{eqb}
use borrow.Author.Tests.{eqb-true, eqb-false, eq-eqb, ne_eqb}
use Rattle.order.specs.Keyed.{Every, has, flat, keep, sort, weigh}
use Rattle.order.proofs.Folds.{every_all, every_imp, every_append, flat_append}
use Rattle.order.proofs.Perms.{every_perm}
use Rattle.order.proofs.Keys.{has_fresh, fresh_has}
use Rattle.order.proofs.Keeps.{only, keep_append, keep-none, every_keep, of_key, of_key_none}
use Rattle.order.proofs.Sorts.{sort_perm, sort_up, sort_stable, up_ext, flat-sort}
use Rattle.order.proofs.Entries.{length-join}
use Rattle.entries.specs.Kinds.{Description, devices, disks}
use Rattle.lists.specs.Lists.{entries, tail_of}
use Rattle.aerosnap.specs.Known.{DEVICES, DISKS, known, takes, slot}
use Rattle.aerosnap.specs.Payloads.{Body, list, body_of}
use Rattle.aerosnap.specs.File.{file_most, id_of, version_of, slot_of}
use Rattle.aerosnap.specs.Rules.{IsSection, IsFile}
use Rattle.aerosnap.specs.Content.{listed, tidied, tidy, rank, is_id, is_other, content_of, written_sections, secs}
use Rattle.aerosnap.proofs.Slots.{Once, once_first, first_once, rest_once}
use Rattle.aerosnap.proofs.Written.{Tidied, gone, kept, tidied_is}

-- ---- lists in the order of a key that may come again

module _ {E : Type 0} (key : E → ℕ) where
  -- the sorted list depends on the entries of each key alone
  pub sort_ext : (l m : List E) → ((k : ℕ) → of_key key k l ≡ of_key key k m) → sort key l ≡ sort key m
  sort_ext l m h = up_ext key 0 0 (sort key l) (sort key m) (sort_up key l) (sort_up key m) (λ k. sort_stable key k l ∙ h k ∙ sym (sort_stable key k m))

  -- a part may be sorted before
  pub sort_part : (l m : List E) → sort key (l ++ sort key m) ≡ sort key (l ++ m)
  sort_part l m = sort_ext (l ++ sort key m) (l ++ m) (λ k. keep_append _ l (sort key m) ∙ ap (λ (r : List E). of_key key k l ++ r) (sort_stable key k m) ∙ sym (keep_append _ l m))

  -- the entries of a key, where all of them are kept or none
  pub of_key_keep : (p : E → Bool) (k : ℕ) → ((x : E) → key x ≡ k → p x ≡ true) → (l : List E) → of_key key k (keep p l) ≡ of_key key k l
  of_key_keep p k h [] = refl
  of_key_keep p k h (x ∷ l) = go (p x) refl (eqb (key x) k) refl (of_key_keep p k h l)
    where
      m : List E
      m = of_key key k l

      go : (a : Bool) → p x ≡ a → (b : Bool) → eqb (key x) k ≡ b → of_key key k (keep p l) ≡ m → of_key key k (cond a (x ∷ keep p l) (keep p l)) ≡ cond b (x ∷ m) m
      go true q b r i = rw (r, keep) (ap (λ (n : List E). cond b (x ∷ n) n) i)
      go false q true r i = let z : p x ≡ true = h x (eqb-true (key x) k r) in let y : ◌≡◌ {A = ℕ} 0 1 = cc in absurd (omega arith)
      go false q false r i = i

  pub of_key_drop : (p : E → Bool) (k : ℕ) → ((x : E) → p x ≡ true → key x ≡ k → ⊥) → (l : List E) → of_key key k (keep p l) ≡ []
  of_key_drop p k h l = of_key_none key k (keep p l) (every_keep p _ l (every_all h l))

  -- the order of entries is nothing to a key
  pub has-sort : (k : ℕ) (l : List E) → has key k (sort key l) ≡ has key k l
  has-sort k l = go (has key k (sort key l)) (has key k l) refl refl
    where
      go : (a b : Bool) → has key k (sort key l) ≡ a → has key k l ≡ b → a ≡ b
      go true true p q = refl
      go true false p q = sym p ∙ fresh_has key k (sort key l) (every_perm _ (Permᴰ.symm (sort_perm key l)) (has_fresh key k l q))
      go false true p q = sym (sym q ∙ fresh_has key k l (every_perm _ (sort_perm key l) (has_fresh key k (sort key l) p)))
      go false false p q = refl

-- ---- what becomes of each section has its id

-- nothing, or one with its id
pub data OfOne (e : List ℕ) : List (List ℕ) → Type 0 where
  none : OfOne e []
  one : {d : List ℕ} → id_of d ≡ id_of e → OfOne e (d ∷ [])

pub of_only : (p : List ℕ → Bool) (e : List ℕ) → OfOne e (only p e)
of_only p e = go (p e)
  where
    go : (b : Bool) → OfOne e (cond b (e ∷ []) [])
    go true = one refl
    go false = none

pub of_tidied : {e : List ℕ} {t : List (List ℕ)} → Tidied e t → OfOne e t
of_tidied gone = none
of_tidied (kept y i n) = one i

-- a property of ids holds of what becomes of the sections that have it
of_every : (P : ℕ → Type 0) {e : List ℕ} {t : List (List ℕ)} → OfOne e t → P (id_of e) → Every (λ d. P (id_of d)) t
of_every P none h = tt
of_every P (one i) h = (rw i h, tt)

module _ (f : List ℕ → List (List ℕ)) where
  pub ids_flat : (P : ℕ → Type 0) (l : List (List ℕ)) → Every (λ e. OfOne e (f e)) l → Every (λ e. P (id_of e)) l → Every (λ e. P (id_of e)) (flat f l)
  ids_flat P [] o h = tt
  ids_flat P (e ∷ l) o h = every_append _ (f e) (flat f l) (of_every P o.0 h.0) (ids_flat P l o.1 h.1)

  pub once_flat : (l : List (List ℕ)) → Every (λ e. OfOne e (f e)) l → Once l → Once (flat f l)
  once_flat [] o h = tt
  once_flat (e ∷ l) o h = go o.0 (once_flat l o.1 (rest_once e l h))
    where
      go : {t : List (List ℕ)} → OfOne e t → Once (flat f l) → Once (t ++ flat f l)
      go none c = c
      go (one {d} i) c = once_first d (flat f l) (λ k. rw i (ids_flat (λ n. slot_of e ≡ slot n → ⊥) l o.1 (first_once e l h (rw i at k)))) c

-- ---- ranks

-- a section of a known rank has that id
pub rank_id : (e : List ℕ) (i : ℕ) → i ≤ 8 → rank e ≡ i → id_of e ≡ i
rank_id e i n = go (known (id_of e))
  where
    go : (b : Bool) → cond b (id_of e) 9 ≡ i → id_of e ≡ i
    go true h = h
    go false h = absurd (omega arith)

id_rank : (e : List ℕ) (i : ℕ) → known i ≡ true → id_of e ≡ i → rank e ≡ i
id_rank e i k h = rw (h, k)

-- sections of the same id have the same rank
pub same_rank : (d e : List ℕ) → id_of d ≡ id_of e → rank d ≡ rank e
same_rank d e h = ap (λ (i : ℕ). cond (known i) i 9) h

-- the sections of DEVICES, those of DISKS and the others, in the order of their ranks, are all in that order
abbrev thirds : List (List ℕ) → List (List ℕ)
thirds l = keep (is_id DEVICES) l ++ (keep (is_id DISKS) l ++ keep is_other l)

pub other_not : (e : List ℕ) → is_other e ≡ true → (is_id DEVICES e ≡ false) × (is_id DISKS e ≡ false)
other_not e = go (is_id DEVICES e) (is_id DISKS e)
  where
    go : (a b : Bool) → (not a && not b) ≡ true → (a ≡ false) × (b ≡ false)
    go true b h = let z : ◌≡◌ {A = ℕ} 0 1 = cc in absurd (omega arith)
    go false true h = let z : ◌≡◌ {A = ℕ} 0 1 = cc in absurd (omega arith)
    go false false h = (refl, refl)

thirds_sort : (l : List (List ℕ)) → sort rank (thirds l) ≡ sort rank l
thirds_sort l = sort_ext rank (thirds l) l (λ k. keep_append _ a (b ++ c) ∙ ap (λ (r : List (List ℕ)). of_key rank k a ++ r) (keep_append _ b c) ∙ go k (eqb k DEVICES) refl (eqb k DISKS) refl)
  where
    a : List (List ℕ)
    a = keep (is_id DEVICES) l

    b : List (List ℕ)
    b = keep (is_id DISKS) l

    c : List (List ℕ)
    c = keep is_other l

    -- the sections with an id have no other rank
    away : (i k : ℕ) → known i ≡ true → (k ≡ i → ⊥) → of_key rank k (keep (is_id i) l) ≡ []
    away i k n h = of_key_drop rank (is_id i) k (λ e q r. h (sym r ∙ id_rank e i n (eqb-true (id_of e) i q))) l

    -- and all of their rank
    here : (i : ℕ) → i ≤ 8 → of_key rank i (keep (is_id i) l) ≡ of_key rank i l
    here i n = of_key_keep rank (is_id i) i (λ e r. eq-eqb (id_of e) i (rank_id e i n r)) l

    others : (k : ℕ) → (k ≡ DEVICES → ⊥) → (k ≡ DISKS → ⊥) → of_key rank k c ≡ of_key rank k l
    others k m n = of_key_keep rank is_other k (λ e r. rw (ne_eqb (id_of e) DEVICES (λ i. m (sym r ∙ id_rank e DEVICES refl i)), ne_eqb (id_of e) DISKS (λ i. n (sym r ∙ id_rank e DISKS refl i)))) l

    no_others : (i : ℕ) → i ≤ 8 → ((e : List ℕ) → is_other e ≡ true → is_id i e ≡ false) → of_key rank i c ≡ []
    no_others i n h = of_key_drop rank is_other i (λ e q r. eqb-false (id_of e) i (h e q) (rank_id e i n r)) l

    go : (k : ℕ) (x : Bool) → eqb k DEVICES ≡ x → (y : Bool) → eqb k DISKS ≡ y → of_key rank k a ++ (of_key rank k b ++ of_key rank k c) ≡ of_key rank k l
    go k true p y q =
        let e : k ≡ DEVICES = eqb-true k DEVICES p in
        rw (e, here DEVICES (omega arith), away DISKS DEVICES refl (λ i. omega arith), no_others DEVICES (omega arith) (λ e h. (other_not e h).0)) (append-nil (of_key rank DEVICES l))
    go k false p true q =
        let e : k ≡ DISKS = eqb-true k DISKS q in
        rw (e, away DEVICES DISKS refl (λ i. omega arith), here DISKS (omega arith), no_others DISKS (omega arith) (λ e h. (other_not e h).1)) (append-nil (of_key rank DISKS l))
    go k false p false q = rw (away DEVICES k refl (eqb-false k DEVICES p), away DISKS k refl (eqb-false k DISKS q)) (others k (eqb-false k DEVICES p) (eqb-false k DISKS q))

-- ---- a known section comes once at most

pub data Only (i : ℕ) : List (List ℕ) → Type 0 where
  absent : Only i []
  found : {e : List ℕ} → IsSection e → id_of e ≡ i → Only i (e ∷ [])

pub only_one : (i : ℕ) → known i ≡ true → (l : List (List ℕ)) → Every IsSection l → Once l → Only i (keep (is_id i) l)
only_one i k [] a h = absent
only_one i k (e ∷ l) a h = go (is_id i e) refl (only_one i k l a.1 (rest_once e l h))
  where
    others : id_of e ≡ i → Every (λ y. is_id i y ≡ false) l
    others w = every_imp (λ y n. ne_eqb (id_of y) i (λ q. n (ap slot (w ∙ sym q)))) l (first_once e l h (rw w k))

    go : (b : Bool) → is_id i e ≡ b → Only i (keep (is_id i) l) → Only i (cond b (e ∷ keep (is_id i) l) (keep (is_id i) l))
    go true q r = let w : id_of e ≡ i = eqb-true (id_of e) i q in rw (keep-none (is_id i) l (others w)) (found a.0 w)
    go false q r = r

-- what is written of the one section of a list
module _ (i : ℕ) (d : Description) (q : (v : ℕ) → body_of i v ≡ list d) where
  version_one : (e : List ℕ) → IsSection e → id_of e ≡ i → known i ≡ true → ((v : ℕ) → takes i v ≡ true → v ≡ 1) → version_of e ≡ 1
  version_one e s w k o = o (version_of e) (rw w at (s.rules (rw w k)).version)

  pub only-tidy : known i ≡ true → ((v : ℕ) → takes i v ≡ true → v ≡ 1) → {m : List (List ℕ)} → Only i m
      → listed i 1 (sort d.key (flat (λ e. entries d (drop 16 e)) m)) (flat (λ e. tail_of d (drop 16 e)) m) ≡ flat tidy m
  only-tidy k o absent = refl
  only-tidy k o (found {e} s w) =
      let b : body_of (id_of e) (version_of e) ≡ list d = rw w (q (version_of e)) in
      let v : version_of e ≡ 1 = version_one e s w k o in
      let t : tidy e ≡ listed i 1 (sort d.key (entries d (drop 16 e))) (tail_of d (drop 16 e)) = ap (λ (k : Body). tidied k e) b ∙ rw (w, v) in
      rw (append-nil, append-nil, append-nil) (sym t)

-- DEVICES and DISKS have version 1
pub one_version : (i : ℕ) → (eqb i 2 || eqb i 3 || eqb i 7 || eqb i 8) ≡ false → (v : ℕ) → takes i v ≡ true → v ≡ 1
one_version i n v = go (eqb v 1) refl (eqb v 2)
  where
    go : (a : Bool) → eqb v 1 ≡ a → (b : Bool) → (a || (b && (eqb i 2 || eqb i 3 || eqb i 7 || eqb i 8))) ≡ true → v ≡ 1
    go true p b h = eqb-true v 1 p
    go false p true h = let z : ◌≡◌ {A = ℕ} 0 1 = cc in absurd (omega arith)
    go false p false h = let z : ◌≡◌ {A = ℕ} 0 1 = cc in absurd (omega arith)

-- ---- the sections that are written of a file

-- what becomes of each section of a file
pub tidied_all : (l : List (List ℕ)) → Every IsSection l → weigh length l ≤ file_most → Every (λ e. Tidied e (tidy e)) l
tidied_all [] a n = tt
tidied_all (e ∷ l) a n = (tidied_is e a.0 (omega arith), tidied_all l a.1 (omega arith))

pub tidy-rank : {e : List ℕ} {t : List (List ℕ)} → Tidied e t → Every (λ d. rank d ≡ rank e) t
tidy-rank gone = tt
tidy-rank {e} (kept {d} y i n) = (same_rank d e i, tt)

pub valid_tidied : (l : List (List ℕ)) → IsFile l → Every (λ e. Tidied e (tidy e)) l
valid_tidied l v = tidied_all l v.are (omega (arith, v.short, length-join l))

-- the sections of a file's content are its sections in the order of their ranks, each as it is written
pub secs-tidy : (l : List (List ℕ)) → IsFile l → secs (content_of l) ≡ flat tidy (sort rank l)
secs-tidy l v =
    ap (sort rank) w
    ∙ sort_part rank (a ++ b) c
    ∙ ap (sort rank) (append_assoc a b c ∙ ap (λ (m : List (List ℕ)). a ++ m) (sym (flat_append tidy (keep (is_id DISKS) l) (keep is_other l))) ∙ sym (flat_append tidy (keep (is_id DEVICES) l) (keep (is_id DISKS) l ++ keep is_other l)))
    ∙ sym (flat-sort tidy rank rank (thirds l) likes)
    ∙ ap (flat tidy) (thirds_sort l)
  where
    a : List (List ℕ)
    a = flat tidy (keep (is_id DEVICES) l)

    b : List (List ℕ)
    b = flat tidy (keep (is_id DISKS) l)

    c : List (List ℕ)
    c = flat tidy (keep is_other l)

    x : listed DEVICES 1 (content_of l).devices (content_of l).device_tail ≡ a
    x = only-tidy DEVICES devices (λ v. refl) refl (one_version DEVICES refl) (only_one DEVICES refl l v.are v.once)

    y : listed DISKS 1 (content_of l).disks (content_of l).disk_tail ≡ b
    y = only-tidy DISKS disks (λ v. refl) refl (one_version DISKS refl) (only_one DISKS refl l v.are v.once)

    w : written_sections (content_of l) ≡ (a ++ b) ++ sort rank c
    w = cc (x, y, append_assoc a b (sort rank c))

    like : Every (λ e. Every (λ d. rank d ≡ rank e) (tidy e)) l
    like = every_imp (λ e. tidy-rank) l (valid_tidied l v)

    part : (p : List ℕ → Bool) → Every (λ e. Every (λ d. rank d ≡ rank e) (tidy e)) (keep p l)
    part p = every_keep p _ l (every_imp (λ e h _. h) l like)

    likes : Every (λ e. Every (λ d. rank d ≡ rank e) (tidy e)) (thirds l)
    likes = every_append _ (keep (is_id DEVICES) l) _ (part (is_id DEVICES)) (every_append _ (keep (is_id DISKS) l) _ (part (is_id DISKS)) (part is_other))
