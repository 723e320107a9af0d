-- Adding to a content and to a file: when it is taken, what it gives, and the laws of `order` on adding in any order.
-- Assumes nothing.
use mathlib.Core.Path.{◌≡◌, refl, sym, ◌∙◌, ap}
use mathlib.Core.Logic.{◌≢◌, ◌↔◌}
use mathlib.Core.Bool.{Bool, true, false, not, cond}
use mathlib.Core.List.Permᴰ
use mathlib.Core.List.{List, [], ◌∷◌, ◌++◌, map, Permᴰ}
use Prim.Native.Nat.{ℕ, suc, ◌+◌, ◌-◌, ◌*◌, ◌≤◌}
use native.Mathlib.Omega.{arith}
use lib.ListN.{length, length-append}
use borrow.Author.Tests.{leb-true, le-leb, not-true}
use Rattle.answer.specs.Outcome.{taken, Pass}
use Rattle.answer.proofs.Checks.{append-pass, pass-append}
use Rattle.answer.proofs.Outcomes.{taken_is}
use Rattle.format.specs.Format.{Is}
use Rattle.order.specs.Keyed.{Fresh, weigh, insert}
use Rattle.order.proofs.Adding.{AddLaws}
use Rattle.order.proofs.Keys.{has_fresh, fresh_has}
use Rattle.order.proofs.Inserts.{insert_perm, insert_comm, weigh-insert, length-insert, every_insert, insert_every, asc_insert}
use Rattle.order.proofs.Files.{Files}
use Rattle.entries.specs.Kinds.{Description, devices, disks}
use Rattle.lists.specs.Lists.{list_bytes}
use Rattle.lists.proofs.Written.{length_list}
use Rattle.aerosnap.specs.Content.{is_absent, Content, tail_at, secs, render, content_at}
use Rattle.aerosnap.specs.Adding.{Item, device, disk, name_of, side_of, Wide, entry_of, kind_of, list_in, own_checks, there, add_checks}
use Rattle.aerosnap.proofs.Items.{with_item, entry_is, device_from, disk_from, item_back}
use Rattle.aerosnap.specs.Edits.{add, add_item, Call}
use Rattle.aerosnap.proofs.Canon.{presence, count_of, size_of, FitsIn, Sorted, Canon, length-secs, length-render}
use Rattle.aerosnap.proofs.Back.{read_back}
use Rattle.aerosnap.proofs.Passing.{EditPassed, edit_exactly}

-- ---- when an add is taken

-- none of the checks of an add fails
pub record Passed (have : ℕ) (x : Item) (c : Content) : Type 0 where
  pub own : Pass (own_checks x)
  pub others : Pass (add_checks x c (with_item x c))
  pub room_is : length (render (with_item x c)) ≤ have

passed_edit : {have : ℕ} {x : Item} {c : Content} → EditPassed have (add x) c → Passed have x c
passed_edit {x = x} {c} p = let q = append-pass (own_checks x) (add_checks x c (with_item x c)) p.rows in record { own = q.0; others = q.1; room_is = p.room_is }

edit_passed : {have : ℕ} {x : Item} {c : Content} → Passed have x c → EditPassed have (add x) c
edit_passed {x = x} {c} p = record { rows = pass-append (own_checks x) (add_checks x c (with_item x c)) p.own p.others; room_is = p.room_is }

-- An add to a file is taken exactly if the file is and none of the add's checks fails; its bytes are then the canonical bytes of the old content and the entry.
pub add_exactly : (have : ℕ) (s : List ℕ) (x : Item) (b : List ℕ) → (add_item have s x ≡ taken b) ↔ ((c : Content) × (content_at s ≡ taken c) × Passed have x c × (render (with_item x c) ≡ b))
add_exactly have s x b = (
  λ h. let (c, e, p, q) = (edit_exactly have s (add x) b).0 h in (c, e, passed_edit p, q),
  λ (c, e, p, q). (edit_exactly have s (add x) b).1 (c, e, edit_passed p, q),
)

-- ---- a content with one entry more

-- nothing but a bound or the room refuses the item
abbrev pub May : Item → Content → Type 0
May x c = Wide x × Pass (own_checks x) × Fresh (kind_of x).key ((kind_of x).key (entry_of x)) (list_in x c)

-- two items of one kind have different keys
abbrev pub Differ : Item → Item → Type 0
Differ (device a v f p) (device b w g q) = devices.key (entry_of (device b w g q)) ≢ devices.key (entry_of (device a v f p))
Differ (disk a x y) (disk b z w) = disks.key (entry_of (disk b z w)) ≢ disks.key (entry_of (disk a x y))
Differ (device a v f p) (disk b z w) = Unit {0}
Differ (disk a x y) (device b w g q) = Unit {0}

differ_sym : (x y : Item) → Differ x y → Differ y x
differ_sym (device a v f p) (device b w g q) d = λ e. d (sym e)
differ_sym (disk a x y) (disk b z w) d = λ e. d (sym e)
differ_sym (device a v f p) (disk b z w) d = tt
differ_sym (disk a x y) (device b w g q) d = tt

new_put : (x y : Item) (c : Content) → Fresh (kind_of y).key ((kind_of y).key (entry_of y)) (list_in y (with_item x c)) → Fresh (kind_of y).key ((kind_of y).key (entry_of y)) (list_in y c) × Differ x y
new_put (device a v f p) (device b w g q) c h = let k = insert_every devices.key _ (entry_of (device a v f p)) c.devices h in (k.1, k.0)
new_put (disk a x y) (disk b z w) c h = let k = insert_every disks.key _ (entry_of (disk a x y)) c.disks h in (k.1, k.0)
new_put (device a v f p) (disk b z w) c h = (h, tt)
new_put (disk a x y) (device b w g q) c h = (h, tt)

put_new : (x y : Item) (c : Content) → Fresh (kind_of y).key ((kind_of y).key (entry_of y)) (list_in y c) → Differ x y → Fresh (kind_of y).key ((kind_of y).key (entry_of y)) (list_in y (with_item x c))
put_new (device a v f p) (device b w g q) c h d = every_insert devices.key _ (entry_of (device a v f p)) c.devices d h
put_new (disk a x y) (disk b z w) c h d = every_insert disks.key _ (entry_of (disk a x y)) c.disks d h
put_new (device a v f p) (disk b z w) c h d = h
put_new (disk a x y) (device b w g q) c h d = h

comm : (x y : Item) (c : Content) → Differ x y → with_item x (with_item y c) ≡ with_item y (with_item x c)
comm (device a v f p) (device b w g q) c d = cc (insert_comm devices.key (entry_of (device a v f p)) (entry_of (device b w g q)) c.devices (λ e. d (sym e)))
comm (disk a x y) (disk b z w) c d = cc (insert_comm disks.key (entry_of (disk a x y)) (entry_of (disk b z w)) c.disks (λ e. d (sym e)))
comm (device a v f p) (disk b z w) c d = refl
comm (disk a x y) (device b w g q) c d = refl

-- the items of a content
abbrev pub held : Content → List Item
held c = map device_from c.devices ++ map disk_from c.disks

held-put : (x : Item) (c : Content) → May x c → Permᴰ (held (with_item x c)) (x ∷ held c)
held-put (device a v f p) c (w, o, _) =
    rw (item_back (device a v f p) w o) at (Permᴰ.append_right (map disk_from c.disks) (Permᴰ.map device_from (insert_perm devices.key (entry_of (device a v f p)) c.devices)))
held-put (disk a x y) c (w, o, _) =
    rw (item_back (disk a x y) w o) at (
    Permᴰ.trans (Permᴰ.append_left (map device_from c.devices) (Permᴰ.map disk_from (insert_perm disks.key (entry_of (disk a x y)) c.disks)))
    (Permᴰ.middle (disk_from (entry_of (disk a x y))) (map device_from c.devices) (map disk_from c.disks)))

-- ---- bounds

-- one entry more in a list
module _ (d : Description) (e : List ℕ) (l : List (List ℕ)) where
  list_up : (t : List ℕ) → (length (insert d.key e l) ≡ suc (length l)) × (weigh length (insert d.key e l) ≡ length e + weigh length l) × (presence (insert d.key e l) t ≡ 1) × (presence l t ≤ 1)
  list_up t = (length-insert d.key e l, weigh-insert d.key length e l, one (insert d.key e l) (length-insert d.key e l), most (is_absent l t))
    where
      one : (m : List (List ℕ)) → length m ≡ suc (length l) → presence m t ≡ 1
      one [] h = absurd (omega arith)
      one (y ∷ m) h = refl

      most : (b : Bool) → cond b 0 1 ≤ 1
      most true = omega arith
      most false = omega arith

-- what an item adds: an entry, its bytes, and a section where there was none for its list
pub record Grows (x : Item) (c : Content) : Type 0 where
  pub count : length (list_in x (with_item x c)) ≡ suc (length (list_in x c))
  pub sections_are : length (secs (with_item x c)) ≡ length (secs c) + (1 - presence (list_in x c) (tail_at (side_of (name_of x)) c))
  pub size : length (render (with_item x c)) ≡ length (render c) + length (entry_of x) + 20 * (1 - presence (list_in x c) (tail_at (side_of (name_of x)) c))
  pub more_devices : length c.devices ≤ length (with_item x c).devices
  pub more_disks : length c.disks ≤ length (with_item x c).disks
  pub longer_devices : length (list_bytes c.devices ++ c.device_tail) ≤ length (list_bytes (with_item x c).devices ++ (with_item x c).device_tail)

numbers : (x : Item) (c : Content)
    → (length (list_in x (with_item x c)) ≡ suc (length (list_in x c)))
    × (count_of (with_item x c) ≡ count_of c + (1 - presence (list_in x c) (tail_at (side_of (name_of x)) c)))
    × (size_of (with_item x c) ≡ size_of c + length (entry_of x) + 20 * (1 - presence (list_in x c) (tail_at (side_of (name_of x)) c)))
    × (length c.devices ≤ length (with_item x c).devices)
    × (length c.disks ≤ length (with_item x c).disks)
    × (weigh length c.devices + length c.device_tail ≤ weigh length (with_item x c).devices + length (with_item x c).device_tail)
numbers (device a v f p) c = let (i, j, k, m) = list_up devices (entry_of (device a v f p)) c.devices c.device_tail in (i, omega arith, omega arith, omega arith, omega arith, omega arith)
numbers (disk a x y) c = let (i, j, k, m) = list_up disks (entry_of (disk a x y)) c.disks c.disk_tail in (i, omega arith, omega arith, omega arith, omega arith, omega arith)

pub grows : (x : Item) (c : Content) → Grows x c
grows x c =
    let u : Content = with_item x c in
    let (i, j, k, l, m, n) = numbers x c in
    record {
      count = i;
      sections_are = omega (arith, length-secs c, length-secs u);
      size = omega (arith, length-render c, length-render u);
      more_devices = l;
      more_disks = m;
      longer_devices = omega (arith, length-append (list_bytes c.devices) c.device_tail, length-append (list_bytes u.devices) u.device_tail, length_list c.devices, length_list u.devices);
    }

size_up : (x : Item) (c : Content) → length (render c) ≤ length (render (with_item x c))
size_up x c = omega (arith, (grows x c).size)

fits_down : (x : Item) (c : Content) → FitsIn (with_item x c) → FitsIn c
fits_down x c h =
    let g = grows x c in
    record {
      many-devices = omega (arith, h.many-devices, g.more_devices);
      many-disks = omega (arith, h.many-disks, g.more_disks);
      long_devices = omega (arith, h.long_devices, g.longer_devices);
      many = omega (arith, h.many, g.sections_are);
      long = omega (arith, h.long, g.size);
    }

-- ---- adding in any order

-- with so much room adding x to c is accepted and gives u
pub record Step (have : ℕ) (c : Content) (x : Item) (u : Content) : Type 0 where
  pub gives : u ≡ with_item x c
  pub may : May x c
  pub fits : FitsIn (with_item x c)
  pub room_is : length (render (with_item x c)) ≤ have

pub adds : AddLaws Step with_item May Differ FitsIn (λ c. length (render c)) held
adds = record {
  checks = λ r c x u h. (h.gives, h.may, h.fits);
  accepts = λ r c x m f q. record { gives = refl; may = m; fits = f; room_is = q };
  apart_sym = differ_sym;
  may_put = λ x y c (w, o, f). let k = new_put x y c f in ((w, o, k.0), k.1);
  put_may = λ x y c (w, o, f) d. (w, o, put_new x y c f d);
  comm = comm;
  fits_down = fits_down;
  size_up = size_up;
  held-put = held-put;
}

-- ---- on files

-- the counts of the other kind stay
other_count : (x : Item) (c : Content) → FitsIn c → length (list_in x (with_item x c)) ≤ (kind_of x).most → (length (with_item x c).devices ≤ devices.most) × (length (with_item x c).disks ≤ disks.most)
other_count (device a v f p) c h n = (n, h.many-disks)
other_count (disk a x y) c h n = (h.many-devices, n)

-- an add whose checks pass, and a step
pub passed_step : (have : ℕ) (x : Item) (c : Content) → Canon c → Wide x → Passed have x c → Step have c x (with_item x c)
passed_step have x c k w p =
    let (h, (n, (d, (m, (z, _))))) = p.others in
    let q = other_count x c k.fits (leb-true _ _ n) in
    record {
      gives = refl;
      may = (w, p.own, has_fresh _ _ (list_in x c) (not-true (there x c) h));
      fits = record { many-devices = q.0; many-disks = q.1; long_devices = leb-true _ _ d; many = leb-true _ _ m; long = leb-true _ _ z };
      room_is = p.room_is;
    }

own_count : (x : Item) (u : Content) → FitsIn u → length (list_in x u) ≤ (kind_of x).most
own_count (device a v f p) u h = h.many-devices
own_count (disk a x y) u h = h.many-disks

pub step_passed : (have : ℕ) (x : Item) (c : Content) → May x c → FitsIn (with_item x c) → length (render (with_item x c)) ≤ have → Passed have x c
step_passed have x c (w, o, n) f r = record {
  own = o;
  others = (ap not (fresh_has _ _ (list_in x c) n), (le-leb _ _ (own_count x (with_item x c) f), (le-leb _ _ f.long_devices, (le-leb _ _ f.many, (le-leb _ _ f.long, tt)))));
  room_is = r;
}

sorted_insert : (d : Description) (e : List ℕ) (l : List (List ℕ)) → Is d.form e → Fresh d.key (d.key e) l → Sorted d l → Sorted d (insert d.key e l)
sorted_insert d e l i f s = record { asc = asc_insert d.key 0 e l (omega arith) f s.asc; are = every_insert d.key _ e l i s.are }

-- a content in order stays so
pub canon_put : (x : Item) (c : Content) → Canon c → May x c → FitsIn (with_item x c) → Canon (with_item x c)
canon_put (device a v f p) c h (w, o, n) t = record {
  fits = t;
  devices_sorted = sorted_insert devices (entry_of (device a v f p)) c.devices (entry_is (device a v f p) o) n h.devices_sorted;
  disks_sorted = h.disks_sorted;
  rest_are = h.rest_are;
  rest_other = h.rest_other;
  rest_up = h.rest_up;
  rest_once = h.rest_once;
}
canon_put (disk a x y) c h (w, o, n) t = record {
  fits = t;
  devices_sorted = h.devices_sorted;
  disks_sorted = sorted_insert disks (entry_of (disk a x y)) c.disks (entry_is (disk a x y) o) n h.disks_sorted;
  rest_are = h.rest_are;
  rest_other = h.rest_other;
  rest_up = h.rest_up;
  rest_once = h.rest_once;
}

pub files : Files Step with_item May FitsIn (λ c. length (render c)) Canon render Call
files = record {
  fits = λ c h. h.fits;
  keeps = canon_put;
  length_is = λ c h. refl;
  inj = λ c d h k e. taken_is (sym (read_back c h) ∙ ap content_at e ∙ read_back d k);
  step_down = λ r c x b h k.
      let (d, e, p, q) = (add_exactly r (render c) x b).0 k.accepts in
      let g : d ≡ c = taken_is (sym e ∙ read_back c h) in
      (with_item x c, passed_step r x c h k.wide (rw g at p), rw g at q);
  step_up = λ r c x u h k. record { wide = k.may.0; accepts = (add_exactly r (render c) x (render u)).1 (c, read_back c h, step_passed r x c k.may k.fits k.room_is, ap render (sym k.gives)) };
}
