-- Demand 3 on the bytes of chains of calls: from a canonical file, adds that are accepted in one order are accepted in every order and end in the same bytes,
-- the canonical file of the old content and the items; and two different sets of items never end in the same bytes.
-- Assumes nothing.
use mathlib.Core.Path.{◌≡◌, refl, sym, ◌∙◌, ap, subst}
use mathlib.Core.List.{List, [], ◌∷◌, ◌++◌, Permᴰ, Perm}
use Prim.Native.Nat.{ℕ}
use native.Mathlib.Omega.{arith}
use lib.ListN.{length}
use Rattle.answer.specs.Outcome.{taken}
use Rattle.order.specs.Keyed.{sort, inserts, Asc}
use Rattle.order.specs.Adding.{Chain, items, Roomy, puts}
use Rattle.order.proofs.Sorts.{inserts-sort, asc_inserts}
use Rattle.order.proofs.Files.{any_order_bytes, no_two_sets_bytes, content}
use Rattle.entries.specs.Kinds.{devices, disks}
use Rattle.aerosnap.specs.Content.{Content, render, content_at, IsCanonical}
use Rattle.aerosnap.specs.Adding.{Item, device, disk, device_entries, disk_entries, grown}
use Rattle.aerosnap.proofs.Items.{with_item}
use Rattle.aerosnap.specs.Edits.{Call}
use Rattle.aerosnap.proofs.Canon.{Canon}
use Rattle.aerosnap.proofs.Back.{read_back}
use Rattle.aerosnap.proofs.Canonical.{content_is, canonical_exactly}
use Rattle.aerosnap.proofs.Added.{add_exactly, passed_step, canon_put, adds, files, held}

-- a canonical file is that of a content in order
pub canonical_content : (s : List ℕ) → IsCanonical s → (c : Content) × Canon c × (render c ≡ s)
canonical_content s h = let (c, e, q, n) = (canonical_exactly (length s) s s).0 h in (c, (content_is s c e).0, q)

pub render-canonical : (c : Content) → Canon c → IsCanonical (render c)
render-canonical c h = (canonical_exactly (length (render c)) (render c) (render c)).1 (c, read_back c h, refl, omega arith)

-- one call, on any file that is taken: the file that it writes has the old content and the item, and is canonical
pub record Gives (s : List ℕ) (x : Item) (b : List ℕ) : Type 0 where
  pub old : Content
  pub read : content_at s ≡ taken old
  pub content_is : content_at b ≡ taken (with_item x old)
  pub canonical_is : IsCanonical b

pub call_gives : (have : ℕ) (s : List ℕ) (x : Item) (b : List ℕ) → Call have s x b → Gives s x b
call_gives have s x b k =
    let (c, e, p, q) = (add_exactly have s x b).0 k.accepts in
    let h = (content_is s c e).0 in
    let t = passed_step have x c h k.wide p in
    let u = canon_put x c h t.may t.fits in
    record { old = c; read = e; content_is = ap content_at (sym q) ∙ read_back (with_item x c) u; canonical_is = subst IsCanonical q (render-canonical (with_item x c) u) }

pub any_order : (s : List ℕ) (l m : List (ℕ × Item)) (b : List ℕ) → IsCanonical s → Chain Call s l b → Permᴰ (items l) (items m) → Roomy (length b) m → Chain Call s m b
any_order s l m b o h p r = let (c, k, e) = canonical_content s o in rw e at (any_order_bytes adds files c l m b k (rw e h) p r)

pub no_two_sets : (s : List ℕ) (l m : List (ℕ × Item)) (b : List ℕ) → IsCanonical s → Chain Call s l b → Chain Call s m b → Perm (items l) (items m)
no_two_sets s l m b o h k = let (c, i, e) = canonical_content s o in no_two_sets_bytes adds files c l m b i (rw e h) (rw e k)

-- ---- the content at the end

puts-devices : (c : Content) (l : List Item) → (puts with_item c l).devices ≡ inserts devices.key c.devices (device_entries l)
puts-devices c [] = refl
puts-devices c (device id v f p ∷ l) = puts-devices (with_item (device id v f p) c) l
puts-devices c (disk id x y ∷ l) = puts-devices (with_item (disk id x y) c) l

puts-disks : (c : Content) (l : List Item) → (puts with_item c l).disks ≡ inserts disks.key c.disks (disk_entries l)
puts-disks c [] = refl
puts-disks c (device id v f p ∷ l) = puts-disks (with_item (device id v f p) c) l
puts-disks c (disk id x y ∷ l) = puts-disks (with_item (disk id x y) c) l

puts-tails : (c : Content) (l : List Item) → ((puts with_item c l).device_tail ≡ c.device_tail) × ((puts with_item c l).disk_tail ≡ c.disk_tail)
puts-tails c [] = (refl, refl)
puts-tails c (device id v f p ∷ l) = puts-tails (with_item (device id v f p) c) l
puts-tails c (disk id x y ∷ l) = puts-tails (with_item (disk id x y) c) l

puts-rest : (c : Content) (l : List Item) → (puts with_item c l).rest ≡ c.rest
puts-rest c [] = refl
puts-rest c (device id v f p ∷ l) = puts-rest (with_item (device id v f p) c) l
puts-rest c (disk id x y ∷ l) = puts-rest (with_item (disk id x y) c) l

-- entries put one by one into a list in order, where that stays in order: all of them in order
one_by_one : (key : List ℕ → ℕ) (s l r : List (List ℕ)) → r ≡ inserts key s l → Asc key 0 s → Asc key 0 r → r ≡ sort key (l ++ s)
one_by_one key s l r e a b = e ∙ inserts-sort key s l a (asc_inserts key s l (rw e at b))

pub puts-grown : (c : Content) (l : List Item) → Canon c → Canon (puts with_item c l) → puts with_item c l ≡ grown c l
puts-grown c l h k =
    let d = one_by_one devices.key c.devices (device_entries l) (puts with_item c l).devices (puts-devices c l) h.devices_sorted.asc k.devices_sorted.asc in
    let e = one_by_one disks.key c.disks (disk_entries l) (puts with_item c l).disks (puts-disks c l) h.disks_sorted.asc k.disks_sorted.asc in
    let t = puts-tails c l in
    let r = puts-rest c l in
    λ i. record { devices = d i; disks = e i; device_tail = t.0 i; disk_tail = t.1 i; rest = r i }

-- the file at the end of a chain of calls
pub record Ends (s : List ℕ) (l : List Item) (b : List ℕ) : Type 0 where
  pub old : Content
  pub read : content_at s ≡ taken old
  pub content_is : content_at b ≡ taken (grown old l)
  pub bytes_are : b ≡ render (grown old l)
  pub canonical_is : IsCanonical b
  pub holds : Permᴰ (held (grown old l)) (l ++ held old)

pub final : (s : List ℕ) (l : List (ℕ × Item)) (b : List ℕ) → IsCanonical s → Chain Call s l b → Ends s (items l) b
final s l b o h =
    let (c, k, e) = canonical_content s o in
    let (i, w, p) = content adds files c l b k (rw e h) in
    let g = puts-grown c (items l) k i in
    record {
      old = c;
      read = rw e at (read_back c k);
      content_is = rw w at (read_back (puts with_item c (items l)) i) ∙ ap taken g;
      bytes_are = sym w ∙ ap render g;
      canonical_is = subst IsCanonical w (render-canonical (puts with_item c (items l)) i);
      holds = rw g at p;
    }
