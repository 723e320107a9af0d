-- The map is a map: what a name holds after an edit, no name twice, and the file depends on what names hold alone.
-- Assumes nothing.
use mathlib.Core.Path.{◌≡◌, refl, sym, ◌∙◌, ap}
use mathlib.Core.Option.{Option, some, none}
use mathlib.Core.Bool.{Bool, true, false, not, cond, ◌&&◌, ◌||◌}
use mathlib.Core.List.{List, [], ◌∷◌, Permᴰ}
use Prim.Native.Nat.{ℕ}
use native.Mathlib.Omega.{arith}
use lib.Dec.{eqb}
use borrow.Author.Tests.{eqb-true, eq-eqb, not-true}
use Rattle.answer.specs.Numbers.{HAVE}
use Rattle.answer.specs.Outcome.{taken}
use Rattle.answer.proofs.Checks.{and_true, append-pass}
use Rattle.order.specs.Keyed.{Every, flat, sort, has, Apart}
use Rattle.order.proofs.Perms.{perm_flat, apart_perm}
use Rattle.order.proofs.Keys.{fresh_has, asc_apart}
use Rattle.order.proofs.Sorts.{sort_perm, sort_unique}
use Rattle.entries.specs.Kinds.{devices, disks}
use Rattle.aerosnap.specs.Content.{render}
use Rattle.aerosnap.specs.Adding.{Item, device, disk, Name, device_named, disk_named, name_of, Wide, entry_of, own_checks, device_entries, disk_entries}
use Rattle.aerosnap.specs.Edits.{Edit, add, remove, replace, target}
use Rattle.aerosnap.specs.Maps.{same_name, Map, find, is_found, holds, NamesApart, others, map_after, held_then, AllElse, count_row, devices_row, sections_row, size_row, map_edit, map_file}
use Rattle.aerosnap.proofs.Edited.{key_name}
use Rattle.aerosnap.proofs.Mapped.{eqb_sym, holds-first, holds_device, holds_disk, State, map_taken}

-- ---- names

true_false : {A : Type 0} → ◌≡◌ {A = Bool} true false → A
true_false e = let z : ◌≡◌ {A = ℕ} 0 1 = cc in absurd (omega arith)

pub same_self : (n : Name) → same_name n n ≡ true
same_self (device_named a v f) = rw (eq-eqb a a refl, eq-eqb v v refl, eq-eqb f f refl)
same_self (disk_named a) = eq-eqb a a refl

pub same_is : (n k : Name) → same_name n k ≡ true → n ≡ k
same_is (device_named a v f) (device_named b w g) h =
    let (x, y) = and_true (eqb a b) (eqb v w && eqb f g) h in
    let (y, z) = and_true (eqb v w) (eqb f g) y in
    cc (eqb-true a b x, eqb-true v w y, eqb-true f g z)
same_is (device_named a v f) (disk_named b) h = true_false (sym h)
same_is (disk_named a) (device_named b w g) h = true_false (sym h)
same_is (disk_named a) (disk_named b) h = ap disk_named (eqb-true a b h)

pub same_sym : (n k : Name) → same_name n k ≡ same_name k n
same_sym (device_named a v f) (device_named b w g) = cc (eqb_sym a b, eqb_sym v w, eqb_sym f g)
same_sym (device_named a v f) (disk_named b) = refl
same_sym (disk_named a) (device_named b w g) = refl
same_sym (disk_named a) (disk_named b) = eqb_sym a b

-- ---- looking up

-- what the first pair holds, and what the others do
find_here : (n : Name) (x : Item) (m : Map) → same_name n (name_of x) ≡ true → find n (x ∷ m) ≡ some x
find_here n x m h = ap (λ (b : Bool). cond b (some x) (find n m)) h

find-there : (n : Name) (x : Item) (m : Map) → same_name n (name_of x) ≡ false → find n (x ∷ m) ≡ find n m
find-there n x m h = ap (λ (b : Bool). cond b (some x) (find n m)) h

others_gone : (k : Name) (x : Item) (m : Map) → same_name k (name_of x) ≡ true → others k (x ∷ m) ≡ others k m
others_gone k x m h = ap (λ (b : Bool). cond (not b) (x ∷ others k m) (others k m)) h

others-kept : (k : Name) (x : Item) (m : Map) → same_name k (name_of x) ≡ false → others k (x ∷ m) ≡ x ∷ others k m
others-kept k x m h = ap (λ (b : Bool). cond (not b) (x ∷ others k m) (others k m)) h

pub find-others : (n k : Name) (m : Map) → find n (others k m) ≡ cond (same_name n k) none (find n m)
find-others n k [] = go (same_name n k)
  where
    go : (b : Bool) → ◌≡◌ {A = Option Item} none (cond b none none)
    go true = refl
    go false = refl
find-others n k (x ∷ m) = go (same_name k (name_of x)) refl (same_name n (name_of x)) refl (same_name n k) refl (find-others n k m)
  where
    go : (a : Bool) → same_name k (name_of x) ≡ a → (b : Bool) → same_name n (name_of x) ≡ b → (c : Bool) → same_name n k ≡ c
        → find n (others k m) ≡ cond (same_name n k) none (find n m) → find n (others k (x ∷ m)) ≡ cond (same_name n k) none (find n (x ∷ m))
    go true p b q true r h = rw (others_gone k x m p, r) (h ∙ rw r)
    go true p b q false r h =
        let e : same_name n (name_of x) ≡ false = ap (same_name n) (sym (same_is k (name_of x) p)) ∙ r in
        rw (others_gone k x m p, r) (h ∙ rw r (sym (find-there n x m e)))
    go false p true q c r h =
        let i : same_name n k ≡ false = same_sym n k ∙ ap (same_name k) (same_is n (name_of x) q) ∙ p in
        rw (others-kept k x m p, i) (find_here n x (others k m) q ∙ sym (find_here n x m q))
    go false p false q c r h = rw (others-kept k x m p) (find-there n x (others k m) q ∙ h ∙ ap (cond (same_name n k) none) (sym (find-there n x m q)))

-- After an edit its name holds what the edit says, and every other name what it held.
pub find-after : (e : Edit) (m : Map) (n : Name) → find n (map_after e m) ≡ cond (same_name n (target e)) (held_then e) (find n m)
find-after (add x) m n = refl
find-after (remove k) m n = find-others n k m
find-after (replace id v f p) m n = go (same_name n (device_named id v f)) (find-others n (device_named id v f) m)
  where
    go : (b : Bool) → find n (others (device_named id v f) m) ≡ cond b none (find n m) → cond b (some (device id v f p)) (find n (others (device_named id v f) m)) ≡ cond b (some (device id v f p)) (find n m)
    go true h = refl
    go false h = h

-- ---- no name twice

holds-others : (n k : Name) (m : Map) → holds n m ≡ false → holds n (others k m) ≡ false
holds-others n k m h = ap is_found (find-others n k m) ∙ go (same_name n k)
  where
    go : (b : Bool) → is_found (cond b none (find n m)) ≡ false
    go true = refl
    go false = h

holds_gone : (k : Name) (m : Map) → holds k (others k m) ≡ false
holds_gone k m = ap is_found (find-others k k m ∙ ap (λ (b : Bool). cond b none (find k m)) (same_self k))

pub apart_others : (k : Name) (m : Map) → NamesApart m → NamesApart (others k m)
apart_others k [] h = tt
apart_others k (x ∷ m) h = go (same_name k (name_of x)) (apart_others k m h.1)
  where
    go : (b : Bool) → NamesApart (others k m) → NamesApart (cond (not b) (x ∷ others k m) (others k m))
    go true r = r
    go false r = (holds-others (name_of x) k m h.0, r)

pub apart_after : (a : AllElse) (m : Map) (e : Edit) (u : Map) → map_edit a m e ≡ taken u → NamesApart m → NamesApart u
apart_after a m (add x) u h n =
    let (p, i) = map_taken a m (add x) u h in
    let q = (append-pass (own_checks x) ((not (holds (name_of x) m), HAVE, 0) ∷ count_row x (x ∷ m) ∷ devices_row a (x ∷ m) ∷ sections_row a (x ∷ m) ∷ size_row a (x ∷ m) ∷ []) p).1.0 in
    rw (← i) (not-true (holds (name_of x) m) q, n)
apart_after a m (remove k) u h n = rw (← (map_taken a m (remove k) u h).1) (apart_others k m n)
apart_after a m (replace id v f p) u h n = rw (← (map_taken a m (replace id v f p) u h).1) (holds_gone (device_named id v f) m, apart_others (device_named id v f) m n)

-- ---- the map of a file in order

keys_names : (m : Map) → Every Wide m → Apart devices.key (device_entries m) → Apart disks.key (disk_entries m) → NamesApart m
keys_names [] w p q = tt
keys_names (device b v f y ∷ m) w p q =
    (sym (holds_device b v f w.0 m w.1) ∙ ap (λ (k : ℕ). has devices.key k (device_entries m)) (key_name (device b v f y)) ∙ fresh_has devices.key (devices.key (entry_of (device b v f y))) (device_entries m) p.0, keys_names m w.1 p.1 q)
keys_names (disk b x y ∷ m) w p q =
    (sym (holds_disk b w.0 m w.1) ∙ ap (λ (k : ℕ). has disks.key k (disk_entries m)) (key_name (disk b x y)) ∙ fresh_has disks.key (disks.key (entry_of (disk b x y))) (disk_entries m) q.0, keys_names m w.1 p q.1)

-- the keys of its entries are apart
state_keys : (a : AllElse) (m : Map) → State a m → Apart devices.key (device_entries m) × Apart disks.key (disk_entries m)
state_keys a m s = (
  apart_perm devices.key (sort_perm devices.key (device_entries m)) (asc_apart devices.key 0 (sort devices.key (device_entries m)) s.canon.devices_sorted.asc),
  apart_perm disks.key (sort_perm disks.key (disk_entries m)) (asc_apart disks.key 0 (sort disks.key (disk_entries m)) s.canon.disks_sorted.asc),
)

pub state_apart : (a : AllElse) (m : Map) → State a m → NamesApart m
state_apart a m s = let (p, q) = state_keys a m s in keys_names m s.wide p q

-- ---- the file depends on what names hold alone

some_is : {x y : Item} → some x ≡ some y → x ≡ y
some_is h = cc

none_some : {A : Type 0} {x : Item} → none ≡ some x → A
none_some h = true_false (sym (ap is_found h))

found_none : (o : Option Item) → is_found o ≡ false → o ≡ none
found_none none h = refl
found_none (some x) h = true_false h

-- a name that holds nothing leaves all others
others-none : (n : Name) (m : Map) → holds n m ≡ false → others n m ≡ m
others-none n [] h = refl
others-none n (x ∷ m) h = go (same_name n (name_of x)) refl (sym (holds-first n x m) ∙ h) (others-none n m)
  where
    go : (b : Bool) → same_name n (name_of x) ≡ b → (b || holds n m) ≡ false → (holds n m ≡ false → others n m ≡ m) → cond (not b) (x ∷ others n m) (others n m) ≡ x ∷ m
    go true e k f = true_false k
    go false e k f = ap (λ (l : Map). x ∷ l) (f k)

-- the pair of a name, and the others
pull : (n : Name) (x : Item) (m : Map) → NamesApart m → find n m ≡ some x → Permᴰ m (x ∷ others n m)
pull n x [] h e = none_some e
pull n x (y ∷ m) h e = go (same_name n (name_of y)) refl (pull n x m h.1)
  where
    go : (b : Bool) → same_name n (name_of y) ≡ b → (find n m ≡ some x → Permᴰ m (x ∷ others n m)) → Permᴰ (y ∷ m) (x ∷ others n (y ∷ m))
    go true q f =
        let i : y ≡ x = some_is (sym (find_here n y m q) ∙ e) in
        let o : others n m ≡ m = others-none n m (ap (λ (k : Name). holds k m) (same_is n (name_of y) q) ∙ h.0) in
        rw (others_gone n y m q, o) (mathlib.Core.List.Permᴰ.cons i (mathlib.Core.List.Permᴰ.refl m))
    go false q f = rw (others-kept n y m q) (mathlib.Core.List.Permᴰ.trans (mathlib.Core.List.Permᴰ.cons refl (f (sym (find-there n y m q) ∙ e))) (mathlib.Core.List.Permᴰ.swap refl refl))

-- two maps that hold the same under every name have the same pairs
pub same-pairs : (m u : Map) → NamesApart m → NamesApart u → ((n : Name) → find n m ≡ find n u) → Permᴰ m u
same-pairs [] [] h k f = mathlib.Core.List.Permᴰ.nil
same-pairs [] (y ∷ u) h k f = none_some (f (name_of y) ∙ find_here (name_of y) y u (same_self (name_of y)))
same-pairs (x ∷ m) u h k f =
    let n : Name = name_of x in
    let e : find n u ≡ some x = sym (f n) ∙ find_here n x m (same_self n) in
    mathlib.Core.List.Permᴰ.trans (mathlib.Core.List.Permᴰ.cons refl (same-pairs m (others n u) h.1 (apart_others n u k) (λ j. rest j (same_name j n) refl))) (mathlib.Core.List.Permᴰ.symm (pull n x u k e))
  where
    rest : (j : Name) (b : Bool) → same_name j (name_of x) ≡ b → find j m ≡ find j (others (name_of x) u)
    rest j true q =
        let i : find j m ≡ none = ap (λ (k : Name). find k m) (same_is j (name_of x) q) ∙ found_none (find (name_of x) m) h.0 in
        i ∙ sym (find-others j (name_of x) u ∙ rw q)
    rest j false q = sym (find-there j x m q) ∙ f j ∙ sym (find-others j (name_of x) u ∙ rw q)

-- entries of the same pairs
device_in : Item → List (List ℕ)
device_in (device id v f p) = entry_of (device id v f p) ∷ []
device_in (disk id x y) = []

disk_in : Item → List (List ℕ)
disk_in (device id v f p) = []
disk_in (disk id x y) = entry_of (disk id x y) ∷ []

devices-flat : (m : Map) → device_entries m ≡ flat device_in m
unfolding device_in
devices-flat [] = refl
devices-flat (device id v f p ∷ m) = ap (λ (l : List (List ℕ)). entry_of (device id v f p) ∷ l) (devices-flat m)
devices-flat (disk id x y ∷ m) = devices-flat m

disks-flat : (m : Map) → disk_entries m ≡ flat disk_in m
unfolding disk_in
disks-flat [] = refl
disks-flat (device id v f p ∷ m) = disks-flat m
disks-flat (disk id x y ∷ m) = ap (λ (l : List (List ℕ)). entry_of (disk id x y) ∷ l) (disks-flat m)

-- The order of the pairs doesn't matter: two maps that hold the same under every name have the same file.
pub same_file : (a : AllElse) (m u : Map) → State a m → NamesApart u → ((n : Name) → find n m ≡ find n u) → map_file a m ≡ map_file a u
same_file a m u s k f =
    let p = same-pairs m u (state_apart a m s) k f in
    let (i, j) = state_keys a m s in
    let x : Permᴰ (device_entries m) (device_entries u) = rw (devices-flat m, devices-flat u) (perm_flat device_in p) in
    let y : Permᴰ (disk_entries m) (disk_entries u) = rw (disks-flat m, disks-flat u) (perm_flat disk_in p) in
    let d : sort devices.key (device_entries m) ≡ sort devices.key (device_entries u) = sort_unique devices.key x i in
    let e : sort disks.key (disk_entries m) ≡ sort disks.key (disk_entries u) = sort_unique disks.key y j in
    ap render (λ i. record { devices = d i; disks = e i; device_tail = a.device_tail; disk_tail = a.disk_tail; rest = a.rest })
