-- Edits: the numbers of a content with another list; a content in order stays so; what an edit that is taken gives; what was just added can be removed again.
-- Assumes nothing.
use mathlib.Core.Path.{◌≡◌, refl, sym, ◌∙◌, ap, subst}
use mathlib.Core.Bool.{Bool, true, false, cond}
use mathlib.Core.List.Permᴰ
use mathlib.Core.List.{List, [], ◌∷◌, ◌++◌}
use Prim.Native.Nat.{ℕ, suc, ◌+◌, ◌≤◌, ◌<◌}
use native.Mathlib.Omega.{arith}
use lib.ListN.{length, length-append}
use lib.Dec.{leb}
use borrow.Author.Tests.{leb-true, ne_eqb, not-true}
use Rattle.answer.specs.Outcome.{taken, Pass}
use Rattle.answer.proofs.Checks.{append-pass}
use Rattle.answer.proofs.Outcomes.{taken_is}
use Rattle.wire.specs.Numbers.{le_at, bytes_of}
use Rattle.format.specs.Format.{Is}
use Rattle.order.specs.Keyed.{Every, weigh, insert, keep, has, without, Fresh}
use Rattle.order.proofs.Folds.{every_imp, every_append}
use Rattle.order.proofs.Keeps.{keep-none}
use Rattle.order.proofs.Sorts.{sort_perm}
use Rattle.order.proofs.Perms.{perm_length, perm_weigh, every_perm}
use Rattle.order.proofs.Keys.{has_fresh, fresh_has, asc_apart}
use Rattle.order.proofs.Inserts.{every_insert, asc_insert, length-insert}
use Rattle.entries.specs.Kinds.{Description, devices, disks}
use Rattle.lists.specs.Lists.{list_bytes}
use Rattle.lists.proofs.Written.{length_list}
use Rattle.aerosnap.specs.declared.Side.{Side}
use Rattle.aerosnap.specs.declared.Side.TheVariants.{OfDevices, OfDisks}
use Rattle.aerosnap.specs.Known.{DEVICES, DISKS}
use Rattle.aerosnap.specs.File.{file_most, sections_most, devices_most}
use Rattle.aerosnap.specs.Content.{framed, is_absent, listed, rank, is_id, Content, kind_at, id_at, entries_at, tail_at, written_sections, with_list, secs, render, content_at, IsCanonical}
use Rattle.aerosnap.specs.Adding.{Item, device, disk, Name, device_named, disk_named, name_of, side_of, entry_of, kind_of, there, own_checks, add_checks}
use Rattle.aerosnap.proofs.Items.{with_item, entry_is}
use Rattle.aerosnap.proofs.Canon.{presence, weight, count_of, size_of, FitsIn, Sorted, Canon, length-secs, length-render}
use Rattle.aerosnap.proofs.Back.{read_back}
use Rattle.aerosnap.proofs.Canonical.{content_is}
use Rattle.aerosnap.proofs.Framed.{framed_id}
use Rattle.aerosnap.proofs.Ranks.{other_not}
use Rattle.aerosnap.proofs.Ranked.{with_entries, with_tail}
use Rattle.aerosnap.proofs.Passing.{edit_exactly}
use Rattle.aerosnap.proofs.Added.{passed_step, canon_put}
use Rattle.aerosnap.proofs.AnyOrder.{canonical_content, render-canonical}
use Rattle.aerosnap.specs.Edits.{key_of, stands, Edit, add, remove, replace, WideEdit, apply, edit_checks, edit_file, EditCall}
use Rattle.order.proofs.Without.{has-insert, fresh_without, asc_without, every_without, without-insert, stood}

-- its key is that of every entry of the name
pub key_name : (x : Item) → key_of (name_of x) ≡ (kind_of x).key (entry_of x)
unfolding le_at bytes_of
key_name (device id v f p) = refl
key_name (disk id x y) = refl

-- ---- a content with another list

pub count-with : (i : Side) (l : List (List ℕ)) (c : Content) → count_of (with_list i l c) + presence (entries_at i c) (tail_at i c) ≡ count_of c + presence l (tail_at i c)
count-with OfDevices l c = omega arith
count-with OfDisks l c = omega arith

pub size_with : (i : Side) (l : List (List ℕ)) (c : Content) → size_of (with_list i l c) + weight (entries_at i c) (tail_at i c) ≡ size_of c + weight l (tail_at i c)
size_with OfDevices l c = omega arith
size_with OfDisks l c = omega arith

-- the sections and the bytes of the canonical form
pub secs-with : (i : Side) (l : List (List ℕ)) (c : Content) → length (secs (with_list i l c)) + presence (entries_at i c) (tail_at i c) ≡ length (secs c) + presence l (tail_at i c)
secs-with i l c = omega (arith, length-secs (with_list i l c), length-secs c, count-with i l c)

pub render-with : (i : Side) (l : List (List ℕ)) (c : Content) → length (render (with_list i l c)) + weight (entries_at i c) (tail_at i c) ≡ length (render c) + weight l (tail_at i c)
render-with i l c = omega (arith, length-render (with_list i l c), length-render c, size_with i l c)

-- no more sections are written for fewer entries
pub presence_less : (l m : List (List ℕ)) (t : List ℕ) → length l ≤ length m → presence l t ≤ presence m t
presence_less [] [] [] h = omega arith
presence_less [] [] (b ∷ t) h = omega arith
presence_less [] (y ∷ m) [] h = omega arith
presence_less [] (y ∷ m) (b ∷ t) h = omega arith
presence_less (x ∷ l) [] t h = absurd (omega arith)
presence_less (x ∷ l) (y ∷ m) t h = omega arith

-- what is asked of one list
pub record FitsAt (i : Side) (l : List (List ℕ)) (u : Content) : Type 0 where
  pub few : length l ≤ (kind_at i).most
  pub long_devices : length (list_bytes u.devices ++ u.device_tail) ≤ devices_most
  pub many : length (secs u) ≤ sections_most
  pub long : length (render u) ≤ file_most

pub fits-with : (i : Side) (l : List (List ℕ)) (c : Content) → FitsIn c → FitsAt i l (with_list i l c) → FitsIn (with_list i l c)
fits-with OfDevices l c h f = record { many-devices = f.few; many-disks = h.many-disks; long_devices = f.long_devices; many = f.many; long = f.long }
fits-with OfDisks l c h f = record { many-devices = h.many-devices; many-disks = f.few; long_devices = f.long_devices; many = f.many; long = f.long }

pub few_at : (i : Side) (c : Content) → FitsIn c → length (entries_at i c) ≤ (kind_at i).most
few_at OfDevices c h = h.many-devices
few_at OfDisks c h = h.many-disks

devices_less : (i : Side) (l : List (List ℕ)) (c : Content) → weigh length l ≤ weigh length (entries_at i c)
    → weigh length (with_list i l c).devices + length (with_list i l c).device_tail ≤ weigh length c.devices + length c.device_tail
devices_less OfDevices l c n = omega arith
devices_less OfDisks l c n = omega arith

-- a shorter list fits
pub fits_less : (i : Side) (l : List (List ℕ)) (c : Content) → FitsIn c → length l ≤ length (entries_at i c) → weigh length l ≤ weigh length (entries_at i c) → FitsIn (with_list i l c)
fits_less i l c h n w =
    let u : Content = with_list i l c in
    let p : presence l (tail_at i c) ≤ presence (entries_at i c) (tail_at i c) = presence_less l (entries_at i c) (tail_at i c) n in
    fits-with i l c h (record {
      few = omega (arith, few_at i c h);
      long_devices = omega (arith, h.long_devices, length-append (list_bytes u.devices) u.device_tail, length-append (list_bytes c.devices) c.device_tail, length_list u.devices, length_list c.devices, devices_less i l c w);
      many = omega (arith, h.many, secs-with i l c);
      long = omega (arith, h.long, render-with i l c);
    })

pub sorted_at : (i : Side) (c : Content) → Canon c → Sorted (kind_at i) (entries_at i c)
sorted_at OfDevices c h = h.devices_sorted
sorted_at OfDisks c h = h.disks_sorted

pub canon_with : (i : Side) (l : List (List ℕ)) (c : Content) → Canon c → Sorted (kind_at i) l → FitsIn (with_list i l c) → Canon (with_list i l c)
canon_with OfDevices l c h s f = record { fits = f; devices_sorted = s; disks_sorted = h.disks_sorted; rest_are = h.rest_are; rest_other = h.rest_other; rest_up = h.rest_up; rest_once = h.rest_once }
canon_with OfDisks l c h s f = record { fits = f; devices_sorted = h.devices_sorted; disks_sorted = s; rest_are = h.rest_are; rest_other = h.rest_other; rest_up = h.rest_up; rest_once = h.rest_once }

sorted_insert : (d : Description) (e : List ℕ) (l : List (List ℕ)) → Is d.form e → Fresh d.key (d.key e) l → Sorted d l → Sorted d (insert d.key e l)
sorted_insert d e l i f s = record { asc = asc_insert d.key 0 e l (omega arith) f s.asc; are = every_insert d.key _ e l i s.are }

sorted_without : (d : Description) (k : ℕ) (l : List (List ℕ)) → Sorted d l → Sorted d (without d.key k l)
sorted_without d k l s = record { asc = asc_without d.key k 0 l s.asc; are = every_without d.key _ k l s.are }

-- ---- what a removal leaves, by numbers

pub record Left (n : Name) (c : Content) : Type 0 where
  pub it : List ℕ
  pub count : length (entries_at (side_of n) c) ≡ suc (length (without (kind_at (side_of n)).key (key_of n) (entries_at (side_of n) c)))
  pub weight : (w : List ℕ → ℕ) → weigh w (entries_at (side_of n) c) ≡ w it + weigh w (without (kind_at (side_of n)).key (key_of n) (entries_at (side_of n) c))

pub left : (n : Name) (c : Content) → Canon c → stands n c ≡ true → Left n c
left n c h t =
    let d : Description = kind_at (side_of n) in
    let l : List (List ℕ) = entries_at (side_of n) c in
    let o = stood d.key (key_of n) l (asc_apart d.key 0 l (sorted_at (side_of n) c h).asc) t in
    record { it = o.it; count = perm_length o.perm; weight = λ w. perm_weigh w o.perm }

-- ---- a content in order stays so

pub remove_fits : (n : Name) (c : Content) → Canon c → stands n c ≡ true → FitsIn (apply (remove n) c)
remove_fits n c h t =
    let o = left n c h t in
    fits_less (side_of n) (without (kind_at (side_of n)).key (key_of n) (entries_at (side_of n) c)) c h.fits (omega (arith, o.count)) (omega (arith, o.weight length))

-- a replacement leaves the count and the sections
pub record Same (c u : Content) : Type 0 where
  pub count : length u.devices ≡ length c.devices
  pub sections_are : length (secs u) ≡ length (secs c)

pub replace_same : (id v f : ℕ) (p : List ℕ) (c : Content) → Canon c → stands (device_named id v f) c ≡ true → Same c (apply (replace id v f p) c)
replace_same id v f p c h t =
    let o = left (device_named id v f) c h t in
    let u : Content = apply (replace id v f p) c in
    let n = length-insert devices.key (entry_of (device id v f p)) (without devices.key (key_of (device_named id v f)) c.devices) in
    record { count = omega (arith, o.count); sections_are = omega (arith, secs-with OfDevices u.devices c, presence_less c.devices u.devices c.device_tail (omega (arith, n, o.count)), presence_less u.devices c.devices c.device_tail (omega (arith, n, o.count))) }

pub canon_apply : (e : Edit) (c : Content) → Canon c → WideEdit e → Pass (edit_checks e c (apply e c)) → Canon (apply e c)
canon_apply (add x) c h w p =
    let q = append-pass (own_checks x) (add_checks x c (with_item x c)) p in
    let t = passed_step (length (render (with_item x c))) x c h w (record { own = q.0; others = q.1; room_is = omega arith }) in
    canon_put x c h t.may t.fits
canon_apply (remove n) c h w p = canon_with (side_of n) _ c h (sorted_without (kind_at (side_of n)) (key_of n) (entries_at (side_of n) c) (sorted_at (side_of n) c h)) (remove_fits n c h p.0)
canon_apply (replace id v f q) c h w (len, (t, (d, (z, _)))) =
    let k : ℕ = key_of (device_named id v f) in
    let x : Item = device id v f q in
    let s = replace_same id v f q c h t in
    canon_with OfDevices _ c h
    (sorted_insert devices (entry_of x) (without devices.key k c.devices) (entry_is x (len, tt))
    (subst (λ (j : ℕ). Fresh devices.key j (without devices.key k c.devices)) (key_name x) (fresh_without devices.key k c.devices))
    (sorted_without devices k c.devices h.devices_sorted))
    (record {
      many-devices = omega (arith, s.count, h.fits.many-devices);
      many-disks = h.fits.many-disks;
      long_devices = leb-true _ _ d;
      many = omega (arith, s.sections_are, h.fits.many);
      long = leb-true _ _ z;
    })

-- ---- when an edit is taken, what it gives

-- the file that it writes has the content after the edit, and is canonical
pub record EditGives (s : List ℕ) (e : Edit) (b : List ℕ) : Type 0 where
  pub old : Content
  pub read : content_at s ≡ taken old
  pub in_canon : Canon old
  pub passes : Pass (edit_checks e old (apply e old))
  pub canon : Canon (apply e old)
  pub writes : render (apply e old) ≡ b
  pub content_is : content_at b ≡ taken (apply e old)
  pub canonical_is : IsCanonical b

pub edit_gives : (have : ℕ) (s : List ℕ) (e : Edit) (b : List ℕ) → EditCall have s e b → EditGives s e b
edit_gives have s e b k =
    let (c, r, p, q) = (edit_exactly have s e b).0 k.accepts in
    let h = (content_is s c r).0 in
    let u = canon_apply e c h k.wide p.rows in
    record {
      old = c;
      read = r;
      in_canon = h;
      passes = p.rows;
      canon = u;
      writes = q;
      content_is = ap content_at (sym q) ∙ read_back (apply e c) u;
      canonical_is = subst IsCanonical q (render-canonical (apply e c) u);
    }

-- ---- what was just added

remove_put : (x : Item) (c : Content) → there x c ≡ false → apply (remove (name_of x)) (with_item x c) ≡ c
remove_put (device id v f p) c h = ap (λ (l : List (List ℕ)). with_list OfDevices l c) (without-insert devices.key (key_of (device_named id v f)) (entry_of (device id v f p)) c.devices (sym (key_name (device id v f p))) (rw (key_name (device id v f p)) (has_fresh _ _ c.devices h)))
remove_put (disk id x y) c h = ap (λ (l : List (List ℕ)). with_list OfDisks l c) (without-insert disks.key (key_of (disk_named id)) (entry_of (disk id x y)) c.disks (sym (key_name (disk id x y))) (rw (key_name (disk id x y)) (has_fresh _ _ c.disks h)))

stands-put : (x : Item) (c : Content) → stands (name_of x) (with_item x c) ≡ true
stands-put (device id v f p) c = has-insert devices.key (key_of (device_named id v f)) (entry_of (device id v f p)) c.devices (key_name (device id v f p))
stands-put (disk id x y) c = has-insert disks.key (key_of (disk_named id)) (entry_of (disk id x y)) c.disks (key_name (disk id x y))

-- Removing what was just added to a canonical file gives that file's bytes again.
pub undo : (have room : ℕ) (s : List ℕ) (x : Item) (b : List ℕ) → IsCanonical s → EditCall have s (add x) b → length s ≤ room → edit_file room b (remove (name_of x)) ≡ taken s
undo have room s x b o k n =
    let (c, h, e) = canonical_content s o in
    let g = edit_gives have s (add x) b k in
    let i : g.old ≡ c = taken_is (sym g.read ∙ ap content_at (sym e) ∙ read_back c h) in
    let r : content_at b ≡ taken (with_item x c) = g.content_is ∙ ap (λ (c : Content). taken (with_item x c)) i in
    let t : there x c ≡ false = not-true (there x c) (append-pass (own_checks x) (add_checks x c (apply (add x) c)) (subst (λ (c : Content). Pass (edit_checks (add x) c (apply (add x) c))) i g.passes)).1.0 in
    let q : apply (remove (name_of x)) (with_item x c) ≡ c = remove_put x c t in
    (edit_exactly room b (remove (name_of x)) s).1 (with_item x c, r, record { rows = (stands-put x c, tt); room_is = omega (arith, ap (λ (c : Content). length (render c)) q, ap length e) }, ap render q ∙ e)

-- ---- what a removal leaves

-- no entry of that name
pub removed_gone : (n : Name) (c : Content) → stands n (apply (remove n) c) ≡ false
removed_gone n c =
    let k : List ℕ → ℕ = (kind_at (side_of n)).key in
    let l : List (List ℕ) = entries_at (side_of n) c in
    ap (has k (key_of n)) (with_entries (side_of n) (without k (key_of n) l) c) ∙ fresh_has k (key_of n) (without k (key_of n) l) (fresh_without k (key_of n) l)

-- of a list with no entries and no tail there is no section
pub no_section : (i : Side) (c : Content) → Canon c → entries_at i c ≡ [] → tail_at i c ≡ [] → keep (is_id (id_at i)) (secs c) ≡ []
no_section i c h e w = keep-none (is_id (id_at i)) (secs c) (every_perm _ (Permᴰ.symm (sort_perm rank (written_sections c))) (go i e w))
  where
    others : (j k : ℕ) → j < 4294967296 → (j ≡ k → ⊥) → (l : List (List ℕ)) (t : List ℕ) → Every (λ y. is_id k y ≡ false) (listed j 1 l t)
    others j k b n l t = by (is_absent l t)
      where
        by : (x : Bool) → Every (λ y. is_id k y ≡ false) (cond x [] (framed j 1 0 (list_bytes l ++ t) ∷ []))
        by true = tt
        by false = (ne_eqb _ k (λ q. n (sym (framed_id j 1 0 (list_bytes l ++ t) b) ∙ q)), tt)

    go : (i : Side) → entries_at i c ≡ [] → tail_at i c ≡ [] → Every (λ y. is_id (id_at i) y ≡ false) (written_sections c)
    go OfDevices q z = rw (q, z) (every_append _ (listed DISKS 1 c.disks c.disk_tail) c.rest (others DISKS DEVICES (omega arith) (λ z. omega arith) c.disks c.disk_tail) (every_imp (λ y g. (other_not y g).0) c.rest h.rest_other))
    go OfDisks q z = every_append _ (listed DEVICES 1 c.devices c.device_tail) (listed DISKS 1 c.disks c.disk_tail ++ c.rest) (others DEVICES DISKS (omega arith) (λ z. omega arith) c.devices c.device_tail) (rw (q, z) (every_imp (λ y g. (other_not y g).1) c.rest h.rest_other))

-- the last entry's removal removes its section, if that has no tail
pub removed_last : (n : Name) (c : Content) → Canon c → stands n c ≡ true → length (entries_at (side_of n) c) ≡ 1 → tail_at (side_of n) c ≡ [] → keep (is_id (id_at (side_of n))) (secs (apply (remove n) c)) ≡ []
removed_last n c h t one w =
    let o = left n c h t in
    let m : List (List ℕ) = without (kind_at (side_of n)).key (key_of n) (entries_at (side_of n) c) in
    let z : m ≡ [] = none m (omega (arith, o.count)) in
    no_section (side_of n) (apply (remove n) c) (canon_with (side_of n) m c h (sorted_without (kind_at (side_of n)) (key_of n) (entries_at (side_of n) c) (sorted_at (side_of n) c h)) (remove_fits n c h t)) (with_entries (side_of n) m c ∙ z) (with_tail (side_of n) m c ∙ w)
  where
    none : (l : List (List ℕ)) → length l ≡ 0 → l ≡ []
    none [] q = refl
    none (y ∷ l) q = absurd (omega arith)

-- ---- a replacement after another

-- the payload that is put in last stays
pub replace_over : (id v f : ℕ) (p q : List ℕ) (c : Content) → apply (replace id v f q) (apply (replace id v f p) c) ≡ apply (replace id v f q) c
replace_over id v f p q c =
    let k : ℕ = key_of (device_named id v f) in
    ap (λ (l : List (List ℕ)). with_list OfDevices (insert devices.key (entry_of (device id v f q)) l) c)
    (without-insert devices.key k (entry_of (device id v f p)) (without devices.key k c.devices) (sym (key_name (device id v f p))) (fresh_without devices.key k c.devices))

-- it keeps the key
pub replace_stands : (id v f : ℕ) (p : List ℕ) (c : Content) → stands (device_named id v f) (apply (replace id v f p) c) ≡ true
replace_stands id v f p c = has-insert devices.key (key_of (device_named id v f)) (entry_of (device id v f p)) (without devices.key (key_of (device_named id v f)) c.devices) (key_name (device id v f p))

-- Replacing twice is replacing once.
pub replace_twice : (have room : ℕ) (s b d : List ℕ) (id v f : ℕ) (p q : List ℕ) → EditCall have s (replace id v f p) b → EditCall room b (replace id v f q) d → (more : ℕ) → length d ≤ more → edit_file more s (replace id v f q) ≡ taken d
replace_twice have room s b d id v f p q x y more n =
    let g = edit_gives have s (replace id v f p) b x in
    let h = edit_gives room b (replace id v f q) d y in
    let c : Content = g.old in
    let i : h.old ≡ apply (replace id v f p) c = taken_is (sym h.read ∙ g.content_is) in
    let j : apply (replace id v f q) h.old ≡ apply (replace id v f q) c = ap (apply (replace id v f q)) i ∙ replace_over id v f p q c in
    let (len, (t, (dev, (size, _)))) = h.passes in
    let w : render (apply (replace id v f q) c) ≡ d = ap render (sym j) ∙ h.writes in
    (edit_exactly more s (replace id v f q) d).1 (
      c,
      g.read,
      record { rows = (len, (g.passes.1.0, (subst (λ (u : Content). leb (length (list_bytes u.devices ++ u.device_tail)) devices_most ≡ true) j dev, (subst (λ (u : Content). leb (length (render u)) file_most ≡ true) j size, tt)))); room_is = omega (arith, ap length w) },
      w,
    )
