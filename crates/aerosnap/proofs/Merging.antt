-- A table in the order of its keys: a record's key is read where an entry's is, so that the starts of the records are sorted as those of a list are; merged with the file's devices they
-- give those of the result. And the numbers that the pass ends with are those of the result.
-- Assumes nothing.
use mathlib.Core.Path.{◌≡◌, refl, sym, ◌∙◌, ap}
use mathlib.Core.List.{List, [], ◌∷◌, ◌++◌, map}
use Prim.Native.Nat.{ℕ, zero, suc, ◌+◌, ◌/◌}
use native.Mathlib.Omega.{arith}
use lib.ListN.{length, drop}
use Rattle.wire.specs.Numbers.{Bytes, le_at}
use Rattle.wire.proofs.Numbers.{le_at-drop, le_at_bound}
use Rattle.order.specs.Keyed.{sort, Apart}
use Rattle.order.proofs.Folds.{every_all}
use Rattle.order.proofs.Perms.{apart_perm}
use Rattle.order.proofs.Keys.{asc_apart}
use Rattle.order.proofs.Sorts.{sort_perm, map-sort}
use Rattle.order.proofs.Merged.{merge, merge_sort}
use Rattle.entries.specs.Kinds.{devices}
use Rattle.lists.specs.Lists.{key_at}
use Rattle.aerosnap.specs.declared.NewDevice.{NewDevice}
use Rattle.aerosnap.specs.Content.{Content}
use Rattle.aerosnap.specs.Adding.{entry_of, device_entries, disk_entries, grown}
use Rattle.aerosnap.specs.Many.{new_device_at, new_devices_from, new_devices, new_item, new_items, new_key}
use Rattle.aerosnap.proofs.Framed.{framed_reads}
use Rattle.aerosnap.proofs.Canon.{Canon}
use Rattle.aerosnap.proofs.Edited.{key_name}

-- ---- the records of a table

-- n starts of records, the first of them at a place
unfoldable pub new_starts : ℕ → ℕ → List ℕ
new_starts zero at = []
new_starts (suc n) at = at ∷ new_starts n (at + 24)

pub news-starts : (n at : ℕ) (t : List ℕ) → new_devices_from n at t ≡ map (new_device_at t) (new_starts n at)
unfolding new_devices_from new_starts
news-starts zero at t = refl
news-starts (suc n) at t = ap (λ (l : List NewDevice). new_device_at t at ∷ l) (news-starts n (at + 24) t)

-- a record begins as a device's entry does: its key is read at its start
pub new-key : (t : List ℕ) → Bytes t → (at : ℕ) → new_key (new_device_at t at) ≡ key_at devices t at
new-key t b at =
    let x : NewDevice = new_device_at t at in
    let r = framed_reads x.id x.version x.flags [] (le_at_bound 4 t at b) (le_at_bound 2 t (at + 4) b) (le_at_bound 2 t (at + 6) b) (omega arith) in
    let i : le_at 4 (drop at t) 0 ≡ le_at 4 t at = le_at-drop 4 t at 0 ∙ ap (le_at 4 t) (omega arith) in
    cc (r.id_is, r.version_is, r.flags_is, i, le_at-drop 2 t at 4, le_at-drop 2 t at 6)

-- ---- their entries

abbrev pub new_entry : List ℕ → NewDevice → List ℕ
new_entry store x = entry_of (new_item store x)

pub news-devices : (store : List ℕ) (l : List NewDevice) → device_entries (new_items store l) ≡ map (new_entry store) l
news-devices store [] = refl
news-devices store (x ∷ l) = ap (λ (m : List (List ℕ)). new_entry store x ∷ m) (news-devices store l)

pub news-disks : (store : List ℕ) (l : List NewDevice) → disk_entries (new_items store l) ≡ []
news-disks store [] = refl
news-disks store (x ∷ l) = news-disks store l

-- the entries in the order of their keys, by the starts of their records in that order
pub sorted_starts : (t : List ℕ) → Bytes t → (store starts : List ℕ) → sort devices.key (map (new_entry store) (map (new_device_at t) starts)) ≡ map (λ y. new_entry store (new_device_at t y)) (sort (key_at devices t) starts)
sorted_starts t b store starts =
    let k : (y : ℕ) → devices.key (new_entry store (new_device_at t y)) ≡ key_at devices t y = λ y. sym (key_name (new_item store (new_device_at t y))) ∙ new-key t b y in
    ap (sort devices.key) (twice starts) ∙ sym (map-sort (λ y. new_entry store (new_device_at t y)) (key_at devices t) devices.key starts (every_all k starts))
  where
    twice : (l : List ℕ) → map (new_entry store) (map (new_device_at t) l) ≡ map (λ y. new_entry store (new_device_at t y)) l
    twice [] = refl
    twice (y ∷ l) = ap (λ (m : List (List ℕ)). new_entry store (new_device_at t y) ∷ m) (twice l)

-- ---- the devices of the result

-- no key of the table comes twice, and none is one of the file's
pub news_apart : (c : Content) (l : List NewDevice) (store : List ℕ) → Canon (grown c (new_items store l)) → Apart devices.key (map (new_entry store) l ++ c.devices)
news_apart c l store h =
    let e = device_entries (new_items store l) ++ c.devices in
    let a : Apart devices.key e = apart_perm devices.key (sort_perm devices.key e) (asc_apart devices.key 0 (sort devices.key e) h.devices_sorted.asc) in
    rw (news-devices store l) at a

-- They are the new entries in the order of their keys, merged with those of the file.
pub merged_devices : (c : Content) (l : List NewDevice) (store : List ℕ) → Canon c → Canon (grown c (new_items store l))
    → (grown c (new_items store l)).devices ≡ merge devices.key (sort devices.key (map (new_entry store) l)) c.devices
merged_devices c l store k h =
    ap (λ (m : List (List ℕ)). sort devices.key (m ++ c.devices)) (news-devices store l) ∙ sym (merge_sort devices.key (map (new_entry store) l) c.devices k.devices_sorted.asc (news_apart c l store h))

-- the same by the bytes of the table
pub merged_table : (c : Content) (t store : List ℕ) → Bytes t → Canon c → Canon (grown c (new_items store (new_devices t)))
    → (grown c (new_items store (new_devices t))).devices ≡ merge devices.key (map (λ y. new_entry store (new_device_at t y)) (sort (key_at devices t) (new_starts (length t / 24) 0))) c.devices
merged_table c t store b k h =
    merged_devices c (new_devices t) store k h
    ∙ ap (λ (m : List (List ℕ)). merge devices.key m c.devices) (ap (λ (l : List NewDevice). sort devices.key (map (new_entry store) l)) (news-starts (length t / 24) 0 t) ∙ sorted_starts t b store (new_starts (length t / 24) 0))
