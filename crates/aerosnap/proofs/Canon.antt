-- The content of a file that is taken is in order; and the sections of a content in order are valid and have that content.
-- Assumes nothing.
use mathlib.Core.Path.{◌≡◌, refl, ◌∙◌, ap, subst}
use mathlib.Core.List.Permᴰ
use mathlib.Core.List.{List, [], ◌∷◌, ◌++◌, append-nil}
use mathlib.Core.Bool.{Bool, true, false, not, ◌&&◌, cond}
use Prim.Native.Nat.{ℕ, ◌+◌, ◌*◌, ◌≤◌}
use native.Mathlib.Omega.{arith}
use lib.ListN.{length, drop, length-append, length-drop}
use lib.Dec.{eqb}
use Rattle.format.specs.Format.{Is}
use Rattle.order.specs.Keyed.{Every, Apart, Asc, flat, keep, sort, weigh}
use Rattle.order.proofs.Keys.{Up}
use Rattle.order.specs.Entries.{join}
use Rattle.order.proofs.Folds.{every_all, every_imp, every_flat, weigh-append}
use Rattle.order.proofs.Perms.{perm_length, perm_weigh, every_perm}
use Rattle.order.proofs.Keeps.{only, flat-only, every_keep}
use Rattle.order.proofs.Sorts.{sort_perm, sort_up, sort_asc}
use Rattle.order.proofs.Entries.{length-join}
use Rattle.entries.specs.Kinds.{Description, devices, disks}
use Rattle.entries.specs.declared.Kind.TheVariants.{Devices, Disks}
use Rattle.entries.proofs.Lawful.{Lawful, lawful}
use Rattle.lists.specs.Lists.{entries, tail_of, list_bytes}
use Rattle.lists.proofs.Written.{Good, good_sort, length_list}
use Rattle.aerosnap.specs.Known.{DEVICES, DISKS}
use Rattle.aerosnap.specs.Payloads.{list, body_of}
use Rattle.aerosnap.specs.File.{file_most, sections_most, devices_most, header, id_of, version_of}
use Rattle.aerosnap.specs.Rules.{IsFile}
use Rattle.aerosnap.specs.Content.{framed, is_absent, listed, tidy, rank, is_other, entries_in, tail_in, Content, content_of, written_sections, secs, render}
use Rattle.aerosnap.proofs.Slots.{Once, once_perm}
use Rattle.aerosnap.proofs.Framed.{length-framed}
use Rattle.aerosnap.proofs.Written.{Tidy, Tidied, gone, kept, absent_none, lists_of}
use Rattle.aerosnap.proofs.Ranks.{of_only, of_tidied, ids_flat, once_flat, Only, absent, found, only_one, valid_tidied, secs-tidy}

-- ---- how many sections and bytes a content has: a list that counts as absent has neither

-- 1 if the section of a list is written
abbrev pub presence : List (List ℕ) → List ℕ → ℕ
presence l t = cond (is_absent l t) 0 1

-- the bytes of that section
abbrev pub weight : List (List ℕ) → List ℕ → ℕ
weight l t = 20 * presence l t + (weigh length l + length t)

abbrev pub count_of : Content → ℕ
count_of c = presence c.devices c.device_tail + presence c.disks c.disk_tail + length c.rest

abbrev pub size_of : Content → ℕ
size_of c = 16 + weight c.devices c.device_tail + weight c.disks c.disk_tail + weigh length c.rest

length-listed : (id v : ℕ) (l : List (List ℕ)) (t : List ℕ) → length (listed id v l t) ≡ presence l t
length-listed id v l t = go (is_absent l t)
  where
    go : (b : Bool) → length (cond b [] (framed id v 0 (list_bytes l ++ t) ∷ [])) ≡ cond b 0 1
    go true = refl
    go false = refl

weigh-listed : (id v : ℕ) (l : List (List ℕ)) (t : List ℕ) → weigh length (listed id v l t) ≡ weight l t
weigh-listed id v l t = go (is_absent l t) refl
  where
    go : (b : Bool) → is_absent l t ≡ b → weigh length (cond b [] (framed id v 0 (list_bytes l ++ t) ∷ [])) ≡ 20 * cond b 0 1 + (weigh length l + length t)
    go true h = let e = absent_none l t h in omega (arith, ap (weigh length) e.0, ap length e.1)
    go false h = omega (arith, length-framed id v 0 (list_bytes l ++ t), length-append (list_bytes l) t, length_list l)

pub length-secs : (c : Content) → length (secs c) ≡ count_of c
length-secs c =
    let a : List (List ℕ) = listed DEVICES 1 c.devices c.device_tail in
    let b : List (List ℕ) = listed DISKS 1 c.disks c.disk_tail in
    omega (arith, perm_length (sort_perm rank (written_sections c)), length-append a (b ++ c.rest), length-append b c.rest, length-listed DEVICES 1 c.devices c.device_tail, length-listed DISKS 1 c.disks c.disk_tail)

pub length-render : (c : Content) → length (render c) ≡ size_of c
length-render c =
    let a : List (List ℕ) = listed DEVICES 1 c.devices c.device_tail in
    let b : List (List ℕ) = listed DISKS 1 c.disks c.disk_tail in
    omega (
      arith,
      length-join (secs c),
      perm_weigh length (sort_perm rank (written_sections c)),
      weigh-append length a (b ++ c.rest),
      weigh-append length b c.rest,
      weigh-listed DEVICES 1 c.devices c.device_tail,
      weigh-listed DISKS 1 c.disks c.disk_tail,
    )

-- ---- a content in order

-- within the bounds
pub record FitsIn (c : Content) : Type 0 where
  pub many-devices : length c.devices ≤ devices.most
  pub many-disks : length c.disks ≤ disks.most
  pub long_devices : length (list_bytes c.devices ++ c.device_tail) ≤ devices_most
  pub many : length (secs c) ≤ sections_most
  pub long : length (render c) ≤ file_most

-- entries of a kind in the order of their keys
pub record Sorted (d : Description) (l : List (List ℕ)) : Type 0 where
  pub asc : Asc d.key 0 l
  pub are : Every (Is d.form) l

pub record Canon (c : Content) : Type 0 where
  pub fits : FitsIn c
  pub devices_sorted : Sorted devices c.devices
  pub disks_sorted : Sorted disks c.disks
  pub rest_are : Every Tidy c.rest
  pub rest_other : Every (λ e. is_other e ≡ true) c.rest
  pub rest_up : Up rank 0 c.rest
  pub rest_once : Once c.rest

-- ---- what is read of a file is in order

-- the entries and the tail of the one section of a list
record Held (i : ℕ) (d : Description) (es : List (List ℕ)) (t : List ℕ) : Type 0 where
  good : Good d es
  small : i ≡ DEVICES → 4 + weigh length es + length t ≤ devices_most

held : (i : ℕ) (d : Description) → ((v : ℕ) → body_of i v ≡ list d) → Lawful d → {m : List (List ℕ)} → Only i m → Held i d (flat (λ e. entries d (drop 16 e)) m) (flat (λ e. tail_of d (drop 16 e)) m)
held i d q K absent = record { good = record { are = tt; apart = tt; few = omega arith }; small = λ _. omega arith }
held i d q K (found {e} s w) =
    let b : body_of (id_of e) (version_of e) ≡ list d = rw w (q (version_of e)) in
    let u = lists_of e b K s in
    rw (append-nil, append-nil) (record { good = u.good; small = λ z. omega (arith, u.small (w ∙ z), u.size, length-drop 16 e) })

sorted : {i : ℕ} {d : Description} {es : List (List ℕ)} {t : List ℕ} → Held i d es t → Sorted d (sort d.key es)
sorted {d = d} {es = es} h = record { asc = sort_asc d.key es h.good.apart; are = (good_sort d es h.good).are }

-- no more sections and bytes are written than were read
pub fewer : (l : List (List ℕ)) → Every (λ e. Tidied e (tidy e)) l → (length (flat tidy l) ≤ length l) × (weigh length (flat tidy l) ≤ weigh length l)
fewer [] h = (omega arith, omega arith)
fewer (e ∷ l) h = go h.0 (fewer l h.1)
  where
    m : List (List ℕ)
    m = flat tidy l

    go : {t : List (List ℕ)} → Tidied e t → (length m ≤ length l) × (weigh length m ≤ weigh length l) → (length (t ++ m) ≤ length (e ∷ l)) × (weigh length (t ++ m) ≤ weigh length (e ∷ l))
    go gone r = (omega (arith, r.0), omega (arith, r.1))
    go (kept y i n) r = (omega (arith, r.0), omega (arith, r.1))

pub secs_fewer : (l : List (List ℕ)) → IsFile l → (length (secs (content_of l)) ≤ length l) × (length (render (content_of l)) ≤ length (header ++ join l))
secs_fewer l v =
    let p = sort_perm rank l in
    let f = fewer (sort rank l) (every_perm _ (Permᴰ.symm p) (valid_tidied l v)) in
    let e = secs-tidy l v in
    (omega (arith, ap length e, f.0, perm_length p), omega (arith, ap (weigh length) e, length-join (secs (content_of l)), length-join l, f.1, perm_weigh length p))

-- no key of a device or of a disk comes twice
pub entries_apart : (l : List (List ℕ)) → IsFile l → Apart devices.key (entries_in DEVICES devices l) × Apart disks.key (entries_in DISKS disks l)
entries_apart l v = (
  (held DEVICES devices (λ v. refl) (lawful Devices) (only_one DEVICES refl l v.are v.once)).good.apart,
  (held DISKS disks (λ v. refl) (lawful Disks) (only_one DISKS refl l v.are v.once)).good.apart,
)

tidied-tidy : {e : List ℕ} {t : List (List ℕ)} → Tidied e t → Every Tidy t
tidied-tidy gone = tt
tidied-tidy (kept y i n) = (y, tt)

-- a section holds neither devices nor disks, by its id
abbrev Neither : ℕ → Type 0
Neither i = (not (eqb i DEVICES) && not (eqb i DISKS)) ≡ true

pub canon_of : (l : List (List ℕ)) → IsFile l → Canon (content_of l)
canon_of l v =
    let d : Held DEVICES devices (entries_in DEVICES devices l) (tail_in DEVICES devices l) = held DEVICES devices (λ v. refl) (lawful Devices) (only_one DEVICES refl l v.are v.once) in
    let k : Held DISKS disks (entries_in DISKS disks l) (tail_in DISKS disks l) = held DISKS disks (λ v. refl) (lawful Disks) (only_one DISKS refl l v.are v.once) in
    let t : Every (λ e. Tidied e (tidy e)) (keep is_other l) = every_keep is_other _ l (every_imp (λ e h _. h) l (valid_tidied l v)) in
    let o = every_imp (λ e. of_tidied) (keep is_other l) t in
    let r : List (List ℕ) = flat tidy (keep is_other l) in
    let p = Permᴰ.symm (sort_perm rank r) in
    let f = secs_fewer l v in
    record {
      fits = record {
        many-devices = (good_sort devices _ d.good).few;
        many-disks = (good_sort disks _ k.good).few;
        long_devices = omega (arith, length-append (list_bytes (content_of l).devices) (content_of l).device_tail, length_list (content_of l).devices, perm_weigh length (sort_perm devices.key (entries_in DEVICES devices l)), d.small refl);
        many = omega (arith, f.0, v.few);
        long = omega (arith, f.1, v.short);
      };
      devices_sorted = sorted d;
      disks_sorted = sorted k;
      rest_are = every_perm _ p (every_flat Tidy tidy (keep is_other l) (every_imp (λ e. tidied-tidy) (keep is_other l) t));
      rest_other = every_perm _ p (ids_flat tidy Neither (keep is_other l) o (every_keep is_other _ l (every_all (λ e h. h) l)));
      rest_up = sort_up rank r;
      rest_once = once_perm p (once_flat tidy (keep is_other l) o (subst Once (flat-only is_other l) (once_flat (only is_other) l (every_all (of_only is_other) l) v.once)));
    }
