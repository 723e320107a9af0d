-- A content in order reads back from the file that is written of it: its sections are valid, and their content is the same.
-- Assumes nothing.
use mathlib.Core.Path.{◌≡◌, refl, sym, ◌∙◌, ap}
use mathlib.Core.List.Permᴰ
use mathlib.Core.List.{List, [], ◌∷◌, ◌++◌, append-nil}
use mathlib.Core.Bool.{Bool, true, false, cond, false≢true}
use Prim.Native.Nat.{ℕ, ◌+◌, ◌≤◌}
use native.Mathlib.Omega.{arith}
use lib.ListN.{length, drop, length-append}
use lib.Dec.{eqb}
use borrow.Author.Tests.{eqb-false}
use Rattle.answer.specs.Outcome.{taken}
use Rattle.order.specs.Keyed.{Every, flat, keep, sort, weigh}
use Rattle.order.proofs.Folds.{every_imp, every_append}
use Rattle.order.proofs.Perms.{every_perm}
use Rattle.order.proofs.Keys.{asc_apart}
use Rattle.order.proofs.Keeps.{keep_append, keep_all, keep-none}
use Rattle.order.proofs.Sorts.{sort_perm, asc_sort, up_sort, keep-sort}
use Rattle.entries.specs.Kinds.{Description, devices, disks}
use Rattle.entries.specs.declared.Kind.TheVariants.{Devices, Disks}
use Rattle.entries.proofs.Lawful.{Lawful, lawful}
use Rattle.lists.specs.Lists.{entries, tail_of, list_bytes}
use Rattle.lists.proofs.Written.{Good, length_list, entries_list, tail_list}
use Rattle.aerosnap.specs.Known.{CPU, MMU, DEVICES, DISKS, CPUS, MMUS, takes, slot}
use Rattle.aerosnap.specs.Payloads.{list, body_of}
use Rattle.aerosnap.specs.File.{file_most, devices_most, id_of, slot_of}
use Rattle.aerosnap.specs.Rules.{IsSection, IsFile}
use Rattle.aerosnap.specs.Content.{framed, is_absent, listed, tidy, rank, is_id, is_other, entries_in, tail_in, Content, content_of, written_sections, secs, render, content_at}
use Rattle.aerosnap.proofs.Slots.{Once, once_perm, once_first}
use Rattle.aerosnap.proofs.Taken.{file_complete}
use Rattle.aerosnap.proofs.Written.{Tidy, absent_none, list_reads, list_section}
use Rattle.aerosnap.proofs.Ranks.{other_not}
use Rattle.aerosnap.proofs.Canon.{Sorted, Canon, length-render}

-- ---- a list's section

-- entries and a tail that are written as the section of a list
record Fit (i : ℕ) (d : Description) (l : List (List ℕ)) (w : List ℕ) : Type 0 where
  good : Good d l
  ended : d.closed ≡ true → w ≡ []
  small : i ≡ DEVICES → length (list_bytes l ++ w) ≤ devices_most
  long : length (list_bytes l ++ w) ≤ file_most

module _ (i : ℕ) {d : Description} (q : body_of i 1 ≡ list d) (t : takes i 1 ≡ true) (K : Lawful d) (l : List (List ℕ)) (w : List ℕ) (f : Fit i d l w) where
  listed_are : Every (λ e. IsSection e × (id_of e ≡ i)) (listed i 1 l w)
  listed_are = go (is_absent l w)
    where
      go : (b : Bool) → Every (λ e. IsSection e × (id_of e ≡ i)) (cond b [] (framed i 1 0 (list_bytes l ++ w) ∷ []))
      go true = tt
      go false = ((list_section i 1 q t K l f.good w f.ended f.small f.long, (list_reads i 1 q t K l f.good w f.ended f.small f.long).id_is), tt)

  listed-entries : flat (λ e. entries d (drop 16 e)) (listed i 1 l w) ≡ l
  listed-entries = go (is_absent l w) refl
    where
      go : (b : Bool) → is_absent l w ≡ b → flat (λ e. entries d (drop 16 e)) (cond b [] (framed i 1 0 (list_bytes l ++ w) ∷ [])) ≡ l
      go true h = sym (absent_none l w h).0
      go false h = rw (append-nil, (list_reads i 1 q t K l f.good w f.ended f.small f.long).payload_is) (entries_list K l f.good w f.ended)

  listed_tail : flat (λ e. tail_of d (drop 16 e)) (listed i 1 l w) ≡ w
  listed_tail = go (is_absent l w) refl
    where
      go : (b : Bool) → is_absent l w ≡ b → flat (λ e. tail_of d (drop 16 e)) (cond b [] (framed i 1 0 (list_bytes l ++ w) ∷ [])) ≡ w
      go true h = sym (absent_none l w h).1
      go false h = rw (append-nil, (list_reads i 1 q t K l f.good w f.ended f.small f.long).payload_is) (tail_list K l f.good w f.ended)

-- one section is in order
listed-sort : (i v : ℕ) (l : List (List ℕ)) (w : List ℕ) → sort rank (listed i v l w) ≡ listed i v l w
listed-sort i v l w = go (is_absent l w)
  where
    go : (b : Bool) → sort rank (cond b [] (framed i v 0 (list_bytes l ++ w) ∷ [])) ≡ cond b [] (framed i v 0 (list_bytes l ++ w) ∷ [])
    go true = refl
    go false = up_sort rank 0 (framed i v 0 (list_bytes l ++ w) ∷ []) (omega arith, tt)

-- CPU and MMU alone share their slots
slot_own : (i id : ℕ) → 4 ≤ i → slot id ≡ i → id ≡ i
slot_own i id n = go (eqb id CPUS) (eqb id MMUS)
  where
    go : (a b : Bool) → elim a as (λ _. ℕ) [ true ↦ CPU | false ↦ elim b as (λ _. ℕ) [ true ↦ MMU | false ↦ id ] ] ≡ i → id ≡ i
    go true b e = absurd (omega arith)
    go false true e = absurd (omega arith)
    go false false e = e

-- before sections with other ids
once_listed : (i : ℕ) → 4 ≤ i → slot i ≡ i → (l : List (List ℕ)) (w : List ℕ) (r : List (List ℕ)) → Every (λ e. IsSection e × (id_of e ≡ i)) (listed i 1 l w) → Every (λ e. is_id i e ≡ false) r → Once r → Once (listed i 1 l w ++ r)
once_listed i n o l w r a f h = go (is_absent l w) a
  where
    go : (b : Bool) → Every (λ e. IsSection e × (id_of e ≡ i)) (cond b [] (framed i 1 0 (list_bytes l ++ w) ∷ [])) → Once (cond b [] (framed i 1 0 (list_bytes l ++ w) ∷ []) ++ r)
    go true a = h
    go false a =
        let s : slot_of (framed i 1 0 (list_bytes l ++ w)) ≡ i = ap slot a.0.1 ∙ o in
        once_first (framed i 1 0 (list_bytes l ++ w)) r (λ _. every_imp (λ y g z. eqb-false (id_of y) i g (slot_own i (id_of y) n (sym z ∙ s))) r f) h

-- ---- a content in order

fit : (i : ℕ) (d : Description) (l : List (List ℕ)) (w : List ℕ) → d.closed ≡ false → Sorted d l → length l ≤ d.most → (i ≡ DEVICES → length (list_bytes l ++ w) ≤ devices_most) → 4 + weigh length l + length w ≤ file_most → Fit i d l w
fit i d l w c s n m z = record {
  good = record { are = s.are; apart = asc_apart d.key 0 l s.asc; few = n };
  ended = λ e. absurd (false≢true (sym c ∙ e));
  small = m;
  long = omega (arith, length-append (list_bytes l) w, length_list l);
}

flat-tidy : (l : List (List ℕ)) → Every Tidy l → flat tidy l ≡ l
flat-tidy [] h = refl
flat-tidy (e ∷ l) h = rw h.0.same (ap (λ (m : List (List ℕ)). e ∷ m) (flat-tidy l h.1))

-- the bytes of a list's entries and its tail are part of the file
lists_short : (c : Content) → length (render c) ≤ file_most → (4 + weigh length c.devices + length c.device_tail ≤ file_most) × (4 + weigh length c.disks + length c.disk_tail ≤ file_most)
lists_short c h = (omega (arith, length-render c), omega (arith, length-render c))

module _ (c : Content) (h : Canon c) where
  A : List (List ℕ)
  A = listed DEVICES 1 c.devices c.device_tail

  B : List (List ℕ)
  B = listed DISKS 1 c.disks c.disk_tail

  fit_devices : Fit DEVICES devices c.devices c.device_tail
  fit_devices = fit DEVICES devices c.devices c.device_tail refl h.devices_sorted h.fits.many-devices (λ _. h.fits.long_devices) (lists_short c h.fits.long).0

  fit_disks : Fit DISKS disks c.disks c.disk_tail
  fit_disks = fit DISKS disks c.disks c.disk_tail refl h.disks_sorted h.fits.many-disks (λ e. absurd (omega arith)) (lists_short c h.fits.long).1

  fours : Every (λ e. IsSection e × (id_of e ≡ DEVICES)) A
  unfolding A
  fours = listed_are DEVICES refl refl (lawful Devices) c.devices c.device_tail fit_devices

  fives : Every (λ e. IsSection e × (id_of e ≡ DISKS)) B
  unfolding B
  fives = listed_are DISKS refl refl (lawful Disks) c.disks c.disk_tail fit_disks

  -- which section is which
  with-id : (p : List ℕ → Bool) (b : Bool) (i : ℕ) (l : List (List ℕ)) → ((e : List ℕ) → id_of e ≡ i → p e ≡ b) → Every (λ e. IsSection e × (id_of e ≡ i)) l → Every (λ e. p e ≡ b) l
  with-id p b i l f a = every_imp (λ e q. f e q.1) l a

  not_devices : Every (λ e. is_id DEVICES e ≡ false) (B ++ c.rest)
  not_devices = every_append _ B c.rest (with-id (is_id DEVICES) false DISKS B (λ e q. rw q) fives) (every_imp (λ e q. (other_not e q).0) c.rest h.rest_other)

  rest-disks : Every (λ e. is_id DISKS e ≡ false) c.rest
  rest-disks = every_imp (λ e q. (other_not e q).1) c.rest h.rest_other

  -- what is kept of the sections, where all of the first, the second or the third are kept and none of the others
  keep-first : keep (is_id DEVICES) (A ++ (B ++ c.rest)) ≡ A
  keep-first = keep_append (is_id DEVICES) A (B ++ c.rest) ∙ rw (keep_all (is_id DEVICES) A (with-id (is_id DEVICES) true DEVICES A (λ e q. rw q) fours), keep-none (is_id DEVICES) (B ++ c.rest) not_devices) (append-nil A)

  keep_second : keep (is_id DISKS) (A ++ (B ++ c.rest)) ≡ B
  keep_second = keep_append (is_id DISKS) A (B ++ c.rest)
      ∙ rw (keep-none (is_id DISKS) A (with-id (is_id DISKS) false DEVICES A (λ e q. rw q) fours), keep_append (is_id DISKS) B c.rest, keep_all (is_id DISKS) B (with-id (is_id DISKS) true DISKS B (λ e q. rw q) fives), keep-none (is_id DISKS) c.rest rest-disks)
      (append-nil B)

  keep_third : keep is_other (A ++ (B ++ c.rest)) ≡ c.rest
  keep_third = keep_append is_other A (B ++ c.rest)
      ∙ rw (keep-none is_other A (with-id is_other false DEVICES A (λ e q. rw q) fours), keep_append is_other B c.rest, keep-none is_other B (with-id is_other false DISKS B (λ e q. rw q) fives), keep_all is_other c.rest h.rest_other) refl

  pub secs_valid : IsFile (secs c)
  unfolding A B
  secs_valid =
      let p = Permᴰ.symm (sort_perm rank (written_sections c)) in
      record {
        few = h.fits.many;
        short = h.fits.long;
        are = every_perm IsSection p (every_append IsSection A (B ++ c.rest) (every_imp (λ e q. q.0) A fours) (every_append IsSection B c.rest (every_imp (λ e q. q.0) B fives) (every_imp (λ e q. q.is) c.rest h.rest_are)));
        once = once_perm p (once_listed DEVICES (omega arith) refl c.devices c.device_tail (B ++ c.rest) fours not_devices (once_listed DISKS (omega arith) refl c.disks c.disk_tail c.rest fives rest-disks h.rest_once));
      }

  pub content_secs : content_of (secs c) ≡ c
  unfolding A B
  content_secs =
      let d : sort devices.key (entries_in DEVICES devices (secs c)) ≡ c.devices =
      rw (keep-sort rank (is_id DEVICES) (written_sections c), keep-first, listed-sort DEVICES 1 c.devices c.device_tail, listed-entries DEVICES refl refl (lawful Devices) c.devices c.device_tail fit_devices) (asc_sort devices.key 0 c.devices h.devices_sorted.asc) in
      let k : sort disks.key (entries_in DISKS disks (secs c)) ≡ c.disks =
      rw (keep-sort rank (is_id DISKS) (written_sections c), keep_second, listed-sort DISKS 1 c.disks c.disk_tail, listed-entries DISKS refl refl (lawful Disks) c.disks c.disk_tail fit_disks) (asc_sort disks.key 0 c.disks h.disks_sorted.asc) in
      let dt : tail_in DEVICES devices (secs c) ≡ c.device_tail =
      rw (keep-sort rank (is_id DEVICES) (written_sections c), keep-first, listed-sort DEVICES 1 c.devices c.device_tail) (listed_tail DEVICES refl refl (lawful Devices) c.devices c.device_tail fit_devices) in
      let kt : tail_in DISKS disks (secs c) ≡ c.disk_tail =
      rw (keep-sort rank (is_id DISKS) (written_sections c), keep_second, listed-sort DISKS 1 c.disks c.disk_tail) (listed_tail DISKS refl refl (lawful Disks) c.disks c.disk_tail fit_disks) in
      let r : sort rank (flat tidy (keep is_other (secs c))) ≡ c.rest = rw (keep-sort rank is_other (written_sections c), keep_third, up_sort rank 0 c.rest h.rest_up, flat-tidy c.rest h.rest_are) (up_sort rank 0 c.rest h.rest_up) in
      λ i. record { devices = d i; disks = k i; device_tail = dt i; disk_tail = kt i; rest = r i }

  -- a content in order is read back from its file
  pub read_back : content_at (render c) ≡ taken c
  read_back = rw (file_complete (secs c) secs_valid) (ap taken content_secs)
