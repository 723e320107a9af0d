-- Items by their numbers: an item that passes its own checks makes an entry of its kind, and is read back from it.
-- Assumes nothing.
use mathlib.Core.Path.{◌≡◌, refl}
use mathlib.Core.List.{List, ◌++◌}
use mathlib.Core.Bool.{true}
use Prim.Native.Nat.{ℕ, ◌+◌, ◌<◌}
use native.Mathlib.Omega.{arith}
use lib.ListN.{length, take, drop}
use lib.Seq.{take_at, drop-append-add}
use lib.Dec.{leb}
use borrow.Author.Tests.{leb-true}
use Rattle.answer.specs.Outcome.{Pass, checked}
use Rattle.answer.proofs.Checks.{and_true}
use Rattle.wire.specs.Numbers.{le_at, bytes_of}
use Rattle.wire.proofs.Numbers.{le-bytes_of, length-bytes_of}
use Rattle.utf8.specs.Scan.{is_text}
use Rattle.format.specs.Format.{Is, text}
use Rattle.aerosnap.specs.File.{id_of, version_of, flags_of}
use Rattle.order.specs.Keyed.{Every, insert}
use Rattle.aerosnap.specs.declared.NewDevice.{NewDevice}
use Rattle.aerosnap.specs.Content.{Content, with_list}
use Rattle.aerosnap.specs.Adding.{Item, device, disk, Wide, WideName, side_of, name_of, list_in, with_length, entry_of, kind_of, own_checks}
use Rattle.aerosnap.specs.Many.{new_name}
use Rattle.aerosnap.proofs.Framed.{framed_reads}

-- the content with one entry more
abbrev pub with_item : Item → Content → Content
with_item x c = with_list (side_of (name_of x)) (insert (kind_of x).key (entry_of x) (list_in x c)) c

-- their numbers are as wide as the fields of a record
abbrev pub WideNews : List NewDevice → Type 0
WideNews = Every (λ x. WideName (new_name x))

text_is : (t : List ℕ) → leb (length t) 65536 ≡ true → is_text t ≡ true → Is (text 65536) (with_length t)
text_is t h k = (bytes_of 4 (length t), t, refl, length-bytes_of 4 (length t), le-bytes_of 4 (length t) (omega (arith, leb-true (length t) 65536 h)), (h, tt), rw (k, checked))

-- its entry is one of its kind
pub entry_is : (x : Item) → Pass (own_checks x) → Is (kind_of x).form (entry_of x)
unfolding bytes_of
entry_is (device id v f p) h =
    (bytes_of 4 id ++ (bytes_of 2 v ++ bytes_of 2 f), bytes_of 8 (length p) ++ p, refl, (refl, refl), (bytes_of 8 (length p), p, refl, refl, le-bytes_of 8 (length p) (omega (arith, leb-true (length p) 67108864 h.0)), (h.0, tt), refl))
entry_is (disk id x y) h =
    let l = and_true (leb (length x) 65536) (leb (length y) 65536) h.0 in
    let t = and_true (is_text x) (is_text y) h.1.0 in
    (bytes_of 4 id, with_length x ++ with_length y, refl, (refl, refl), (with_length x, with_length y, refl, text_is x l.0 t.0, text_is y l.1 t.1))

-- the item of a device's entry, and of a disk's
abbrev pub device_from : List ℕ → Item
device_from e = device (id_of e) (version_of e) (flags_of e) (drop 16 e)

abbrev pub disk_from : List ℕ → Item
disk_from e = disk (le_at 4 e 0) (take (le_at 4 e 4) (drop 8 e)) (drop (le_at 4 e 4 + 4) (drop 8 e))

abbrev pub item_from : Item → List ℕ → Item
item_from (device id v f p) e = device_from e
item_from (disk id x y) e = disk_from e

module _ (id : ℕ) (x y : List ℕ) (h : length x < 4294967296) where
  base_length : le_at 4 (entry_of (disk id x y)) 4 ≡ length x
  unfolding le_at bytes_of
  base_length = le-bytes_of 4 (length x) h

  texts : drop 8 (entry_of (disk id x y)) ≡ x ++ with_length y
  unfolding bytes_of
  texts = refl

  disk_id : id < 4294967296 → le_at 4 (entry_of (disk id x y)) 0 ≡ id
  unfolding le_at bytes_of
  disk_id i = le-bytes_of 4 id i

  base_is : take (le_at 4 (entry_of (disk id x y)) 4) (drop 8 (entry_of (disk id x y))) ≡ x
  base_is = rw (base_length, texts) (take_at x (with_length y) (length x) refl)

  overlay_is : drop (le_at 4 (entry_of (disk id x y)) 4 + 4) (drop 8 (entry_of (disk id x y))) ≡ y
  unfolding bytes_of
  overlay_is = rw (base_length, texts) (drop-append-add x (with_length y) 4)

  disk_back : id < 4294967296 → disk_from (entry_of (disk id x y)) ≡ disk id x y
  disk_back i = cc (disk_id i, base_is, overlay_is)

pub item_back : (x : Item) → Wide x → Pass (own_checks x) → item_from x (entry_of x) ≡ x
item_back (device id v f p) w h =
    let r = framed_reads id v f p w.0 w.1 w.2 (omega (arith, leb-true (length p) 67108864 h.0)) in
    cc (r.id_is, r.version_is, r.flags_is, r.payload_is)
item_back (disk id x y) w h =
    let l = and_true (leb (length x) 65536) (leb (length y) 65536) h.0 in
    disk_back id x y (omega (arith, leb-true (length x) 65536 l.0)) w
