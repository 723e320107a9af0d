-- A canonical file of bytes is the file of a map: its entries are those of items, and all else stands beside them.
-- Assumes nothing.
use mathlib.Core.Path.{◌≡◌, refl, sym, ◌∙◌, ap, subst}
use mathlib.Core.Bool.{Bool, true, false, cond}
use mathlib.Core.List.{List, [], ◌∷◌, ◌++◌, map, append_assoc}
use Prim.Native.Nat.{ℕ, zero, suc, ◌+◌, ◌<◌}
use native.Mathlib.Omega.{arith}
use lib.ListN.{length, take, drop, length-append, length-drop, take-append-drop}
use lib.Seq.{take_at, drop_at, drop-append-add, drop-drop}
use Rattle.wire.specs.Numbers.{Bytes, le, le_at, bytes_of}
use Rattle.wire.proofs.Numbers.{le_at_front, le_at_bound, bytes_of-le, bytes_of-le_at}
use Rattle.format.specs.Format.{Is}
use Rattle.order.specs.Keyed.{Every, sort}
use Rattle.order.specs.Entries.{join}
use Rattle.order.proofs.Folds.{every_append, append_every, every_imp, every_map}
use Rattle.order.proofs.Perms.{every_perm}
use Rattle.order.proofs.Sorts.{sort_perm, asc_sort}
use Rattle.entries.specs.Kinds.{Description, devices, disks}
use Rattle.lists.specs.Lists.{list_bytes}
use Rattle.aerosnap.specs.Known.{DEVICES, DISKS}
use Rattle.aerosnap.specs.File.{header, id_of, version_of, flags_of}
use Rattle.aerosnap.specs.Content.{framed, is_absent, listed, rank, Content, written_sections, secs, render, IsCanonical}
use Rattle.aerosnap.specs.Adding.{Item, disk, Wide, entry_of, device_entries, disk_entries}
use Rattle.aerosnap.specs.Maps.{Map, AllElse, map_content, map_file}
use Rattle.aerosnap.proofs.Written.{absent_none}
use Rattle.aerosnap.proofs.Items.{device_from, disk_from}
use Rattle.aerosnap.proofs.Added.{held}
use Rattle.aerosnap.proofs.AnyOrder.{canonical_content}
use Rattle.aerosnap.proofs.Mapped.{State}

-- ---- bytes, one by one

abbrev Small : List ℕ → Type 0
Small = Every (λ b. b < 256)

small_bytes : (l : List ℕ) → Small l → Bytes l
small_bytes [] h i = omega arith
small_bytes (x ∷ l) h zero = h.0
small_bytes (x ∷ l) h (suc i) = small_bytes l h.1 i

bytes_small : (l : List ℕ) → Bytes l → Small l
bytes_small [] b = tt
bytes_small (x ∷ l) b = (b 0, bytes_small l (λ i. b (suc i)))

small_join : (l : List (List ℕ)) → Small (join l) → Every Small l
small_join [] h = tt
small_join (e ∷ l) h = let k = append_every _ e (join l) h in (k.0, small_join l k.1)

-- ---- an entry of bytes is that of its item

cut_at : (n at : ℕ) (e : List ℕ) → drop at e ≡ take n (drop at e) ++ drop (at + n) e
cut_at n at e = sym (take-append-drop n (drop at e)) ∙ ap (λ (l : List ℕ). take n (drop at e) ++ l) (drop-drop n at e)

device-size : (x y z : List ℕ) → length x ≡ 8 → length y ≡ 8 → le y ≡ length z → length (drop 16 (x ++ (y ++ z))) ≡ le_at 8 (x ++ (y ++ z)) 8
unfolding le_at
device-size x y z h k n =
    let e : take 8 (drop 8 (x ++ (y ++ z))) ≡ y = ap (take 8) (drop_at x (y ++ z) 8 h) ∙ take_at y z 8 k in
    omega (arith, ap le e, length-drop 16 (x ++ (y ++ z)), length-append x (y ++ z), length-append y z)

device_back : (e : List ℕ) → Small e → Is devices.form e → (entry_of (device_from e) ≡ e) × Wide (device_from e)
device_back e b (x, y, p, (n, _), (s, z, q, m, w, _, _)) =
    let t : e ≡ x ++ (s ++ z) = p ∙ ap (λ (l : List ℕ). x ++ l) q in
    let long : length e ≡ 16 + length z = omega (arith, ap length t, length-append x (s ++ z), length-append s z) in
    let c = small_bytes e b in
    let size : length (drop 16 e) ≡ le_at 8 e 8 = rw t (device-size x s z n m w) in
    let i : bytes_of 4 (id_of e) ≡ take 4 e = bytes_of-le_at 4 e 0 c (omega arith) in
    let v : bytes_of 2 (version_of e) ≡ take 2 (drop 4 e) = bytes_of-le_at 2 e 4 c (omega arith) in
    let f : bytes_of 2 (flags_of e) ≡ take 2 (drop 6 e) = bytes_of-le_at 2 e 6 c (omega arith) in
    let l : bytes_of 8 (length (drop 16 e)) ≡ take 8 (drop 8 e) = ap (bytes_of 8) size ∙ bytes_of-le_at 8 e 8 c (omega arith) in
    let whole : e ≡ take 4 e ++ (take 2 (drop 4 e) ++ (take 2 (drop 6 e) ++ (take 8 (drop 8 e) ++ drop 16 e))) =
    cut_at 4 0 e ∙ ap (λ (r : List ℕ). take 4 e ++ r) (cut_at 2 4 e ∙ ap (λ (r : List ℕ). take 2 (drop 4 e) ++ r) (cut_at 2 6 e ∙ ap (λ (r : List ℕ). take 2 (drop 6 e) ++ r) (cut_at 8 8 e))) in
    (cc (i, v, f, l, whole), (le_at_bound 4 e 0 c, le_at_bound 2 e 4 c, le_at_bound 2 e 6 c))

-- a length and what it measures
four : (l : List ℕ) {n : ℕ} → length l ≡ 4 → Small l → le l ≡ n → bytes_of 4 n ≡ l
four l h b e = ap (bytes_of 4) (sym e) ∙ ap (λ (k : ℕ). bytes_of k (le l)) (sym h) ∙ bytes_of-le l (small_bytes l b)

module _ (x a s b t : List ℕ) (h : length x ≡ 4) (i : length a ≡ 4) (j : length b ≡ 4) (k : le a ≡ length s) where
  base_length : le_at 4 (x ++ ((a ++ s) ++ (b ++ t))) 4 ≡ length s
  unfolding le_at
  base_length = ap (λ (l : List ℕ). le (take 4 l)) (drop_at x ((a ++ s) ++ (b ++ t)) 4 h ∙ append_assoc a s (b ++ t)) ∙ ap le (take_at a (s ++ (b ++ t)) 4 i) ∙ k

  behind : drop 8 (x ++ ((a ++ s) ++ (b ++ t))) ≡ s ++ (b ++ t)
  behind = ap (drop 8) (ap (λ (l : List ℕ). x ++ l) (append_assoc a s (b ++ t)) ∙ sym (append_assoc x a (s ++ (b ++ t)))) ∙ drop_at (x ++ a) (s ++ (b ++ t)) 8 (omega (arith, length-append x a))

  from_is : disk_from (x ++ ((a ++ s) ++ (b ++ t))) ≡ disk (le x) s t
  from_is =
      let o : take (length s) (s ++ (b ++ t)) ≡ s = take_at s (b ++ t) (length s) refl in
      let p : drop (length s + 4) (s ++ (b ++ t)) ≡ t = drop-append-add s (b ++ t) 4 ∙ drop_at b t 4 j in
      rw (base_length, behind, o, p, le_at_front 4 x ((a ++ s) ++ (b ++ t)) h)

disk_back : (e : List ℕ) → Small e → Is disks.form e → (entry_of (disk_from e) ≡ e) × Wide (disk_from e)
disk_back e b (x, y, p, (n, _), (u, w, q, (a, s, f, i, k, _, _), (c, t, g, j, m, _, _))) =
    let r : e ≡ x ++ ((a ++ s) ++ (c ++ t)) = p ∙ ap (λ (l : List ℕ). x ++ l) (q ∙ cc (f, g)) in
    let v = append_every _ x ((a ++ s) ++ (c ++ t)) (rw r at b) in
    let z = append_every _ (a ++ s) (c ++ t) v.1 in
    let d : disk_from e ≡ disk (le x) s t = ap disk_from r ∙ from_is x a s c t n i j k in
    let l = four x n v.0 refl in
    let o = four a i (append_every _ a s z.0).0 k in
    let h = four c j (append_every _ c t z.1).0 m in
    (ap entry_of d ∙ cc (l, o, h, r), le_at_bound 4 e 0 (small_bytes e b))

-- ---- a content of bytes shows the map of its items

-- every entry is that of its item
abbrev Back : (List ℕ → Item) → List ℕ → Type 0
Back from e = (entry_of (from e) ≡ e) × Wide (from e)

devices_back : (l k : List (List ℕ)) → Every (Back device_from) l → device_entries (map device_from l ++ map disk_from k) ≡ l
devices_back [] [] h = refl
devices_back [] (e ∷ k) h = devices_back [] k h
devices_back (e ∷ l) k h = cc (h.0.0, devices_back l k h.1)

disks_back : (l k : List (List ℕ)) → Every (Back disk_from) k → disk_entries (map device_from l ++ map disk_from k) ≡ k
disks_back [] [] h = refl
disks_back [] (e ∷ k) h = cc (h.0.0, disks_back [] k h.1)
disks_back (e ∷ l) k h = disks_back l k h

-- the entries of a list, both small and of its kind
both : (d : Description) (from : List ℕ → Item) → ((e : List ℕ) → Small e → Is d.form e → Back from e) → (l : List (List ℕ)) → Every Small l → Every (Is d.form) l → Every (Back from) l
both d from f [] h k = tt
both d from f (e ∷ l) h k = (f e h.0 k.0, both d from f l h.1 k.1)

-- the bytes of a list's section are those of its entries
small_listed : (i : ℕ) (l : List (List ℕ)) (t : List ℕ) → Every Small (listed i 1 l t) → Every Small l
small_listed i l t h = go (is_absent l t) refl h
  where
    go : (b : Bool) → is_absent l t ≡ b → Every Small (cond b [] (framed i 1 0 (list_bytes l ++ t) ∷ [])) → Every Small l
    go true e h = rw (absent_none l t e).0 tt
    go false e (h, _) =
        let p : List ℕ = list_bytes l ++ t in
        let a = (append_every _ (bytes_of 4 i) _ h).1 in
        let b = (append_every _ (bytes_of 2 1) _ a).1 in
        let c = (append_every _ (bytes_of 2 0) _ b).1 in
        let d = (append_every _ (bytes_of 8 (length p)) p c).1 in
        small_join l (append_every _ (bytes_of 4 (length l)) (join l) (append_every _ (list_bytes l) t d).0).1

small_lists : (c : Content) → Small (render c) → Every Small c.devices × Every Small c.disks
small_lists c b =
    let s = every_perm _ (sort_perm rank (written_sections c)) (small_join (secs c) (append_every _ header (join (secs c)) b).1) in
    let k = append_every _ (listed DEVICES 1 c.devices c.device_tail) (listed DISKS 1 c.disks c.disk_tail ++ c.rest) s in
    (small_listed DEVICES c.devices c.device_tail k.0, small_listed DISKS c.disks c.disk_tail (append_every _ (listed DISKS 1 c.disks c.disk_tail) c.rest k.1).0)

-- all else in a content
abbrev pub else_in : Content → AllElse
else_in c = record { device_tail = c.device_tail; disk_tail = c.disk_tail; rest = c.rest }

-- Every canonical file of bytes is the file of the map of its items and all else.
pub file_map : (s : List ℕ) → Bytes s → IsCanonical s → (a : AllElse) × (m : Map) × State a m × (map_file a m ≡ s)
file_map s b o =
    let (c, h, e) = canonical_content s o in
    let (p, q) = small_lists c (subst Small (sym e) (bytes_small s b)) in
    let u = both devices device_from device_back c.devices p h.devices_sorted.are in
    let v = both disks disk_from disk_back c.disks q h.disks_sorted.are in
    let d : sort devices.key (device_entries (held c)) ≡ c.devices = ap (sort devices.key) (devices_back c.devices c.disks u) ∙ asc_sort devices.key 0 c.devices h.devices_sorted.asc in
    let k : sort disks.key (disk_entries (held c)) ≡ c.disks = ap (sort disks.key) (disks_back c.devices c.disks v) ∙ asc_sort disks.key 0 c.disks h.disks_sorted.asc in
    let w : Every Wide (held c) = every_append Wide (map device_from c.devices) (map disk_from c.disks) (every_map Wide device_from c.devices (every_imp (λ e x. x.1) c.devices u)) (every_map Wide disk_from c.disks (every_imp (λ e x. x.1) c.disks v)) in
    let z : map_content (else_in c) (held c) ≡ c = λ i. record { devices = d i; disks = k i; device_tail = c.device_tail; disk_tail = c.disk_tail; rest = c.rest } in
    (else_in c, held c, record { canon = rw z h; wide = w }, ap render z ∙ e)
