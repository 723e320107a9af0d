-- The plain map: it answers each edit as the file does, and the file is the canonical form of its state and all else.
-- Assumes nothing.
use mathlib.Core.Path.{◌≡◌, refl, sym, ◌∙◌, ap, subst}
use mathlib.Core.Option.{some}
use mathlib.Core.Bool.{Bool, true, false, not, cond, ◌&&◌, ◌||◌}
use mathlib.Core.List.{List, [], ◌∷◌, ◌++◌}
use Prim.Native.Nat.{ℕ, ◌+◌, ◌*◌, ◌≤◌, ◌<◌, min}
use native.Mathlib.Omega.{arith}
use lib.ListN.{length, length-append}
use lib.Dec.{eqb, leb}
use borrow.Author.Tests.{eqb-true, eq-eqb, ne_eqb}
use Rattle.answer.specs.Numbers.{SIZE, MANY, LIMIT, HAVE, ABSENT}
use Rattle.answer.specs.Outcome.{taken, Checks, checked, Pass, after, fitting}
use Rattle.answer.proofs.Checks.{checked-pass, pass-checked, checked-after, and_true}
use Rattle.answer.proofs.Outcomes.{taken_is}
use Rattle.wire.specs.Numbers.{le_at, bytes_of}
use Rattle.wire.proofs.Numbers.{le-bytes_of}
use Rattle.order.specs.Keyed.{Every, weigh, insert, sort, has, without}
use Rattle.order.proofs.Folds.{every_imp}
use Rattle.order.proofs.Keeps.{every_keep}
use Rattle.order.proofs.Perms.{perm_length, perm_weigh}
use Rattle.order.proofs.Sorts.{sort_perm, keep-sort}
use Rattle.order.proofs.Without.{has_cons, has_perm}
use Rattle.entries.specs.Kinds.{payload_most, devices, disks}
use Rattle.lists.specs.Lists.{list_bytes}
use Rattle.lists.proofs.Written.{length_list}
use Rattle.aerosnap.specs.File.{file_most, sections_most, devices_most}
use Rattle.aerosnap.specs.Content.{Content, secs}
use Rattle.aerosnap.specs.Adding.{Item, device, disk, Name, device_named, disk_named, name_of, WideName, Wide, with_length, entry_of, own_checks, there, device_entries, disk_entries}
use Rattle.aerosnap.specs.Edits.{key_of, stands, Edit, add, remove, replace, WideEdit, apply, edit_checks, edit_to, edit_file}
use Rattle.aerosnap.specs.Maps.{same_name, Map, find, is_found, holds, others, map_after, AllElse, one_device, device_size, one_disk, disk_size, map_sections, map_size, map_checks, map_edit, map_content, map_file}
use Rattle.aerosnap.proofs.Framed.{framed_reads, length-framed}
use Rattle.aerosnap.proofs.Canon.{presence, Canon, length-secs, length-render}
use Rattle.aerosnap.proofs.Back.{read_back}
use Rattle.aerosnap.proofs.Canonical.{taken_fits}
use Rattle.aerosnap.proofs.Edited.{key_name, canon_apply}

-- ---- names and keys

device_number : (id v f : ℕ) → WideName (device_named id v f) → key_of (device_named id v f) ≡ (id * 65536 + v) * 65536 + f
device_number id v f (i, j, k) = let r = framed_reads id v f [] i j k (omega arith) in cc (r.id_is, r.version_is, r.flags_is)

disk_number : (id : ℕ) → id < 4294967296 → key_of (disk_named id) ≡ id
unfolding le_at bytes_of
disk_number id h = le-bytes_of 4 id h

same-eqb : (a b : ℕ) (c : Bool) → (a ≡ b → c ≡ true) → (c ≡ true → a ≡ b) → eqb a b ≡ c
same-eqb a b true h k = eq-eqb a b (k refl)
same-eqb a b false h k = ne_eqb a b (λ e. let z : ◌≡◌ {A = Bool} false true = h e in let y : ◌≡◌ {A = ℕ} 0 1 = cc in absurd (omega arith))

three_true : (a b v w f g : ℕ) → a ≡ b → v ≡ w → f ≡ g → (eqb a b && (eqb v w && eqb f g)) ≡ true
three_true a b v w f g p q r = rw (eq-eqb a b p, eq-eqb v w q, eq-eqb f g r)

-- a name is another exactly if its key is
device_same : (a v f b w g : ℕ) → WideName (device_named a v f) → WideName (device_named b w g) → eqb (key_of (device_named a v f)) (key_of (device_named b w g)) ≡ same_name (device_named a v f) (device_named b w g)
device_same a v f b w g (i, j, k) (p, q, r) =
    let s = device_number a v f (i, j, k) in
    let t = device_number b w g (p, q, r) in
    same-eqb (key_of (device_named a v f)) (key_of (device_named b w g)) (eqb a b && (eqb v w && eqb f g))
    (λ z.
    let y : (a * 65536 + v) * 65536 + f ≡ (b * 65536 + w) * 65536 + g = sym s ∙ z ∙ t in
    three_true a b v w f g (omega arith) (omega arith) (omega arith))
    (λ z.
    let (x, y) = and_true (eqb a b) (eqb v w && eqb f g) z in
    let (y, u) = and_true (eqb v w) (eqb f g) y in
    let m : (a * 65536 + v) * 65536 + f ≡ (b * 65536 + w) * 65536 + g = omega (arith, eqb-true a b x, eqb-true v w y, eqb-true f g u) in
    s ∙ m ∙ sym t)

disk_same : (a b : ℕ) → WideName (disk_named a) → WideName (disk_named b) → eqb (key_of (disk_named a)) (key_of (disk_named b)) ≡ eqb a b
disk_same a b h k = rw (disk_number a h, disk_number b k)

pub eqb_sym : (a b : ℕ) → eqb a b ≡ eqb b a
eqb_sym a b = same-eqb a b (eqb b a) (λ e. eq-eqb b a (sym e)) (λ e. sym (eqb-true b a e))

-- the key of an item's entry, against that of a name
item_device : (a v f b w g : ℕ) (p : List ℕ) → WideName (device_named a v f) → WideName (device_named b w g) → eqb (key_of (device_named a v f)) (devices.key (entry_of (device b w g p))) ≡ same_name (device_named a v f) (device_named b w g)
item_device a v f b w g p h k = ap (eqb (key_of (device_named a v f))) (sym (key_name (device b w g p))) ∙ device_same a v f b w g h k

item_disk : (a b : ℕ) (x y : List ℕ) → WideName (disk_named a) → WideName (disk_named b) → eqb (key_of (disk_named a)) (disks.key (entry_of (disk b x y))) ≡ eqb a b
item_disk a b x y h k = ap (eqb (key_of (disk_named a))) (sym (key_name (disk b x y))) ∙ disk_same a b h k

-- ---- what the map holds

pub holds-first : (n : Name) (x : Item) (m : Map) → holds n (x ∷ m) ≡ (same_name n (name_of x) || holds n m)
holds-first n x m = go (same_name n (name_of x))
  where
    go : (b : Bool) → is_found (cond b (some x) (find n m)) ≡ (b || is_found (find n m))
    go true = refl
    go false = refl

pub holds_device : (a v f : ℕ) → WideName (device_named a v f) → (m : Map) → Every Wide m → has devices.key (key_of (device_named a v f)) (device_entries m) ≡ holds (device_named a v f) m
unfolding has
holds_device a v f h [] k = refl
holds_device a v f h (device b w g p ∷ m) k =
    has_cons devices.key (key_of (device_named a v f)) (entry_of (device b w g p)) (device_entries m) ∙ cc (item_device a v f b w g p h k.0, holds_device a v f h m k.1) ∙ sym (holds-first (device_named a v f) (device b w g p) m)
holds_device a v f h (disk b x y ∷ m) k = holds_device a v f h m k.1

pub holds_disk : (a : ℕ) → WideName (disk_named a) → (m : Map) → Every Wide m → has disks.key (key_of (disk_named a)) (disk_entries m) ≡ holds (disk_named a) m
unfolding has
holds_disk a h [] k = refl
holds_disk a h (device b w g p ∷ m) k = holds_disk a h m k.1
holds_disk a h (disk b x y ∷ m) k = has_cons disks.key (key_of (disk_named a)) (entry_of (disk b x y)) (disk_entries m) ∙ cc (item_disk a b x y h k.0, holds_disk a h m k.1) ∙ sym (holds-first (disk_named a) (disk b x y) m)

pub stands-holds : (n : Name) (a : AllElse) (m : Map) → WideName n → Every Wide m → stands n (map_content a m) ≡ holds n m
stands-holds (device_named id v f) a m h k = has_perm devices.key (key_of (device_named id v f)) (sort_perm devices.key (device_entries m)) ∙ holds_device id v f h m k
stands-holds (disk_named id) a m h k = has_perm disks.key (key_of (disk_named id)) (sort_perm disks.key (disk_entries m)) ∙ holds_disk id h m k

there-holds : (x : Item) (a : AllElse) (m : Map) → Wide x → Every Wide m → there x (map_content a m) ≡ holds (name_of x) m
there-holds (device b w g p) a m h k = ap (λ (j : ℕ). has devices.key j (map_content a m).devices) (sym (key_name (device b w g p))) ∙ stands-holds (device_named b w g) a m h k
there-holds (disk b x y) a m h k = ap (λ (j : ℕ). has disks.key j (map_content a m).disks) (sym (key_name (disk b x y))) ∙ stands-holds (disk_named b) a m h k

-- ---- what is left of it

-- what is made of the other pairs, where one pair is kept or goes
others_step : {E : Type 0} (t : Bool) (y : E) (a b : List E) → a ≡ b → cond (not t) (y ∷ a) a ≡ cond (not t) (y ∷ b) b
others_step true y a b e = e
others_step false y a b e = ap (λ l. y ∷ l) e

devices-cond : (t : Bool) (b w g : ℕ) (p : List ℕ) (m : Map) → device_entries (cond (not t) (device b w g p ∷ m) m) ≡ cond (not t) (entry_of (device b w g p) ∷ device_entries m) (device_entries m)
devices-cond true b w g p m = refl
devices-cond false b w g p m = refl

disks-cond : (t : Bool) (b : ℕ) (x y : List ℕ) (m : Map) → disk_entries (cond (not t) (disk b x y ∷ m) m) ≡ cond (not t) (entry_of (disk b x y) ∷ disk_entries m) (disk_entries m)
disks-cond true b x y m = refl
disks-cond false b x y m = refl

others-devices : (a v f : ℕ) → WideName (device_named a v f) → (m : Map) → Every Wide m → device_entries (others (device_named a v f) m) ≡ without devices.key (key_of (device_named a v f)) (device_entries m)
others-devices a v f h [] k = refl
others-devices a v f h (device b w g p ∷ m) k =
    let e = eqb_sym (devices.key (entry_of (device b w g p))) (key_of (device_named a v f)) ∙ item_device a v f b w g p h k.0 in
    rw e (devices-cond (same_name (device_named a v f) (device_named b w g)) b w g p (others (device_named a v f) m)
    ∙ others_step (same_name (device_named a v f) (device_named b w g)) (entry_of (device b w g p)) _ _ (others-devices a v f h m k.1))
others-devices a v f h (disk b x y ∷ m) k = others-devices a v f h m k.1

others-disks : (a : ℕ) → WideName (disk_named a) → (m : Map) → Every Wide m → disk_entries (others (disk_named a) m) ≡ without disks.key (key_of (disk_named a)) (disk_entries m)
others-disks a h [] k = refl
others-disks a h (device b w g p ∷ m) k = others-disks a h m k.1
others-disks a h (disk b x y ∷ m) k =
    let e = eqb_sym (disks.key (entry_of (disk b x y))) (key_of (disk_named a)) ∙ item_disk a b x y h k.0 in
    rw e (disks-cond (eqb a b) b x y (others (disk_named a) m) ∙ others_step (eqb a b) (entry_of (disk b x y)) _ _ (others-disks a h m k.1))

-- the other list stays
device_keeps : (a v f : ℕ) (m : Map) → disk_entries (others (device_named a v f) m) ≡ disk_entries m
device_keeps a v f [] = refl
device_keeps a v f (device b w g p ∷ m) = go (same_name (device_named a v f) (device_named b w g)) (device_keeps a v f m)
  where
    go : (t : Bool) → disk_entries (others (device_named a v f) m) ≡ disk_entries m → disk_entries (cond (not t) (device b w g p ∷ others (device_named a v f) m) (others (device_named a v f) m)) ≡ disk_entries m
    go true q = q
    go false q = q
device_keeps a v f (disk b x y ∷ m) = ap (λ (l : List (List ℕ)). entry_of (disk b x y) ∷ l) (device_keeps a v f m)

disk_keeps : (a : ℕ) (m : Map) → device_entries (others (disk_named a) m) ≡ device_entries m
disk_keeps a [] = refl
disk_keeps a (disk b x y ∷ m) = go (eqb a b) (disk_keeps a m)
  where
    go : (t : Bool) → device_entries (others (disk_named a) m) ≡ device_entries m → device_entries (cond (not t) (disk b x y ∷ others (disk_named a) m) (others (disk_named a) m)) ≡ device_entries m
    go true q = q
    go false q = q
disk_keeps a (device b w g p ∷ m) = ap (λ (l : List (List ℕ)). entry_of (device b w g p) ∷ l) (disk_keeps a m)

-- ---- the content after an edit is that of the map after it

sorted_others : (a v f : ℕ) → WideName (device_named a v f) → (m : Map) → Every Wide m
    → without devices.key (key_of (device_named a v f)) (sort devices.key (device_entries m)) ≡ sort devices.key (device_entries (others (device_named a v f) m))
sorted_others a v f h m k = keep-sort devices.key _ (device_entries m) ∙ ap (sort devices.key) (sym (others-devices a v f h m k))

pub apply-map : (e : Edit) (a : AllElse) (m : Map) → WideEdit e → Every Wide m → apply e (map_content a m) ≡ map_content a (map_after e m)
apply-map (add (device id v f p)) a m w k = refl
apply-map (add (disk id x y)) a m w k = refl
apply-map (remove (device_named id v f)) a m w k =
    let d = sorted_others id v f w m k in
    let e = ap (sort disks.key) (sym (device_keeps id v f m)) in
    λ i. record { devices = d i; disks = e i; device_tail = a.device_tail; disk_tail = a.disk_tail; rest = a.rest }
apply-map (remove (disk_named id)) a m w k =
    let d = ap (sort devices.key) (sym (disk_keeps id m)) in
    let e = keep-sort disks.key _ (disk_entries m) ∙ ap (sort disks.key) (sym (others-disks id w m k)) in
    λ i. record { devices = d i; disks = e i; device_tail = a.device_tail; disk_tail = a.disk_tail; rest = a.rest }
apply-map (replace id v f p) a m w k =
    let d = ap (insert devices.key (entry_of (device id v f p))) (sorted_others id v f w m k) in
    let e = ap (sort disks.key) (sym (device_keeps id v f m)) in
    λ i. record { devices = d i; disks = e i; device_tail = a.device_tail; disk_tail = a.disk_tail; rest = a.rest }

-- ---- what it counts

length_disk : (id : ℕ) (x y : List ℕ) → length (entry_of (disk id x y)) ≡ 12 + length x + length y
unfolding bytes_of
length_disk id x y = omega (arith, length-append x (with_length y))

device_count : (m : Map) → length (device_entries m) ≡ weigh one_device m
device_count [] = refl
device_count (device b w g p ∷ m) = omega (arith, device_count m)
device_count (disk b x y ∷ m) = omega (arith, device_count m)

device_bytes : (m : Map) → weigh length (device_entries m) ≡ weigh device_size m
device_bytes [] = refl
device_bytes (device b w g p ∷ m) = omega (arith, device_bytes m, length-framed b w g p)
device_bytes (disk b x y ∷ m) = omega (arith, device_bytes m)

disk_count : (m : Map) → length (disk_entries m) ≡ weigh one_disk m
disk_count [] = refl
disk_count (device b w g p ∷ m) = omega (arith, disk_count m)
disk_count (disk b x y ∷ m) = omega (arith, disk_count m)

disk_bytes : (m : Map) → weigh length (disk_entries m) ≡ weigh disk_size m
disk_bytes [] = refl
disk_bytes (device b w g p ∷ m) = omega (arith, disk_bytes m)
disk_bytes (disk b x y ∷ m) = omega (arith, disk_bytes m, length_disk b x y)

-- a list's section is there if it has an entry or a tail
presence_min : (l : List (List ℕ)) (t : List ℕ) → presence l t ≡ min 1 (length l + length t)
presence_min [] [] = refl
presence_min [] (b ∷ t) = omega arith
presence_min (e ∷ l) t = omega arith

pub record MapCounts (a : AllElse) (m : Map) : Type 0 where
  pub devices_are : length (map_content a m).devices ≡ weigh one_device m
  pub disks_are : length (map_content a m).disks ≡ weigh one_disk m
  pub long : length (list_bytes (map_content a m).devices ++ a.device_tail) ≡ 4 + (weigh device_size m + length a.device_tail)
  pub sections_are : length (secs (map_content a m)) ≡ map_sections a m
  pub size_is : length (map_file a m) ≡ map_size a m

pub map-counts : (a : AllElse) (m : Map) → MapCounts a m
map-counts a m =
    let c : Content = map_content a m in
    let p = sort_perm devices.key (device_entries m) in
    let q = sort_perm disks.key (disk_entries m) in
    let i : length c.devices ≡ weigh one_device m = perm_length p ∙ device_count m in
    let j : length c.disks ≡ weigh one_disk m = perm_length q ∙ disk_count m in
    let k : weigh length c.devices ≡ weigh device_size m = perm_weigh length p ∙ device_bytes m in
    let l : weigh length c.disks ≡ weigh disk_size m = perm_weigh length q ∙ disk_bytes m in
    let e : presence c.devices c.device_tail ≡ min 1 (weigh one_device m + length a.device_tail) = presence_min c.devices c.device_tail ∙ ap (λ (n : ℕ). min 1 (n + length a.device_tail)) i in
    let f : presence c.disks c.disk_tail ≡ min 1 (weigh one_disk m + length a.disk_tail) = presence_min c.disks c.disk_tail ∙ ap (λ (n : ℕ). min 1 (n + length a.disk_tail)) j in
    record {
      devices_are = i;
      disks_are = j;
      long = omega (arith, length-append (list_bytes c.devices) a.device_tail, length_list c.devices);
      sections_are = omega (arith, length-secs c, e, f);
      size_is = omega (arith, length-render c, e, f);
    }

-- ---- one edit

-- what is asked of an add, and of a replacement, by numbers
abbrev add_rows : Bool → ℕ → ℕ → ℕ → ℕ → ℕ → Checks
add_rows t most n l s z = (not t, HAVE, 0) ∷ (leb n most, LIMIT, 0) ∷ (leb l devices_most, LIMIT, 0) ∷ (leb s sections_most, MANY, 0) ∷ (leb z file_most, SIZE, 0) ∷ []

add_same : (own : Checks) (most : ℕ) {t t' : Bool} {n n' l l' s s' z z' : ℕ} → t ≡ t' → n ≡ n' → l ≡ l' → s ≡ s' → z ≡ z' → own ++ add_rows t most n l s z ≡ own ++ add_rows t' most n' l' s' z'
add_same own most p q i j k = cc

replace_rows : (own : Bool × ℕ × ℕ) {t t' : Bool} {l l' z z' : ℕ} → t ≡ t' → l ≡ l' → z ≡ z'
    → ◌≡◌ {A = Checks} (own ∷ (t, ABSENT, 0) ∷ (leb l devices_most, LIMIT, 0) ∷ (leb z file_most, SIZE, 0) ∷ []) (own ∷ (t', ABSENT, 0) ∷ (leb l' devices_most, LIMIT, 0) ∷ (leb z' file_most, SIZE, 0) ∷ [])
replace_rows own p q i = cc

-- its checks are the map's
pub checks_same : (e : Edit) (a : AllElse) (m : Map) → WideEdit e → Every Wide m → edit_checks e (map_content a m) (map_content a (map_after e m)) ≡ map_checks e a m (map_after e m)
checks_same (add (device id v f p)) a m w k =
    let c = map-counts a (device id v f p ∷ m) in
    add_same (own_checks (device id v f p)) 4096 (there-holds (device id v f p) a m w k) c.devices_are c.long c.sections_are c.size_is
checks_same (add (disk id x y)) a m w k =
    let c = map-counts a (disk id x y ∷ m) in
    add_same (own_checks (disk id x y)) 256 (there-holds (disk id x y) a m w k) c.disks_are c.long c.sections_are c.size_is
checks_same (remove n) a m w k = rw (stands-holds n a m w k)
checks_same (replace id v f p) a m w k =
    let c = map-counts a (map_after (replace id v f p) m) in
    replace_rows (leb (length p) payload_most, LIMIT, 0) (stands-holds (device_named id v f) a m w k) c.long c.size_is

-- wide items stay wide
wide_after : (e : Edit) → WideEdit e → (m : Map) → Every Wide m → Every Wide (map_after e m)
wide_after (add x) w m k = (w, k)
wide_after (remove n) w m k = every_keep _ Wide m (every_imp (λ x q _. q) m k)
wide_after (replace id v f p) w m k = (w, every_keep _ Wide m (every_imp (λ x q _. q) m k))

-- The state of the map: its content is in order, and its numbers are those of parameters.
pub record State (a : AllElse) (m : Map) : Type 0 where
  pub canon : Canon (map_content a m)
  pub wide : Every Wide m

fits_or_not : (rows : Checks) (have : ℕ) (b : List ℕ) → (Pass rows → length b ≤ have) → checked rows (fitting have b) ≡ checked rows (taken b)
fits_or_not [] have b h = taken_fits have b (h tt)
fits_or_not (c ∷ l) have b h = go c.0 refl (λ k. fits_or_not l have b k)
  where
    go : (t : Bool) → c.0 ≡ t → ((Pass l → length b ≤ have) → checked l (fitting have b) ≡ checked l (taken b)) → checked ((t, c.1, c.2) ∷ l) (fitting have b) ≡ checked ((t, c.1, c.2) ∷ l) (taken b)
    go true q f = f (λ p. h (q, p))
    go false q f = refl

-- An edit of the file of a map answers as the map does, and gives the file of the map afterwards, if the output holds that.
pub edit_map : (a : AllElse) (m : Map) (have : ℕ) (e : Edit) → State a m → WideEdit e → ((u : Map) → map_edit a m e ≡ taken u → map_size a u ≤ have) → edit_file have (map_file a m) e ≡ after (map_edit a m e) (λ u. taken (map_file a u))
unfolding edit_file edit_to map_edit
edit_map a m have e s w n =
    let u : Map = map_after e m in
    let k : Checks = map_checks e a m u in
    let i = apply-map e a m w s.wide in
    let c = checks_same e a m w s.wide in
    rw (read_back (map_content a m) s.canon, i, c)
    (fits_or_not k have (map_file a u) (λ p. omega (arith, (map-counts a u).size_is, n u (pass-checked k (taken u) p))) ∙ sym (checked-after k (taken u) (λ u. taken (map_file a u))))

-- what is accepted
pub map_taken : (a : AllElse) (m : Map) (e : Edit) (u : Map) → map_edit a m e ≡ taken u → Pass (map_checks e a m (map_after e m)) × (map_after e m ≡ u)
unfolding map_edit
map_taken a m e u h = let (p, i) = checked-pass (map_checks e a m (map_after e m)) (taken (map_after e m)) u h in (p, taken_is i)

-- an accepted edit leads to a state
pub state_after : (a : AllElse) (m : Map) (e : Edit) (u : Map) → State a m → WideEdit e → map_edit a m e ≡ taken u → State a u
state_after a m e u s w h =
    let (p, j) = map_taken a m e u h in
    let i = apply-map e a m w s.wide in
    let q : Pass (edit_checks e (map_content a m) (apply e (map_content a m))) = rw (i, checks_same e a m w s.wide) p in
    subst (State a) j (record { canon = rw i at (canon_apply e (map_content a m) s.canon w q); wide = wide_after e w m s.wide })
