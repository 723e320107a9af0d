-- The records of a list of entries are read back as these, and of more entries than a list can hold only the first 4,097 matter.
-- Assumes nothing.
use mathlib.Core.Path.{◌≡◌, refl, sym, ap, ◌∙◌}
use mathlib.Core.Bool.{Bool, true, false, cond}
use mathlib.Core.List.{List, [], ◌∷◌, ◌++◌, append_assoc}
use Prim.Native.Nat.{ℕ, suc, ◌+◌, ◌*◌, ◌/◌, ◌<◌}
use native.Mathlib.Omega.{arith}
use borrow.Author.Tests.{leb-true, leb-false}
use lib.Dec.{leb}
use lib.ListN.{length, take, drop, length-append, length-map, take-append-drop}
use lib.Seq.{length-take-le, take_all, drop-drop, drop_at}
use Rattle.answer.specs.Outcome.{Outcome, taken, refused}
use Rattle.answer.proofs.Outcomes.{taken_refused}
use Rattle.wire.specs.Numbers.{bytes_of, le_at}
use Rattle.wire.proofs.Numbers.{length-bytes_of, le_at-drop, le_at_here, le_at-bytes_of}
use Rattle.order.specs.Keyed.{Every}
use Rattle.order.proofs.Perms.{perm_length}
use Rattle.order.proofs.Sorts.{sort_perm}
use Rattle.entries.specs.Kinds.{devices}
use Rattle.aerosnap.specs.declared.NewDevice.{NewDevice}
use Rattle.aerosnap.specs.Content.{Content, content_at}
use Rattle.aerosnap.specs.Adding.{grown, device_entries}
use Rattle.aerosnap.specs.Many.{new_device_at, new_devices_from, new_devices, new_items, further, add_new, add_each, add_all}
use Rattle.aerosnap.proofs.Items.{WideNews}
use Rattle.aerosnap.proofs.Counted.{all_taken}
use Rattle.aerosnap.proofs.Merging.{new_entry, news-devices}
use Rattle.cards.specs.declared.Card.{Card}
use Rattle.cards.specs.Cards.{carded}
use Rattle.cards.specs.Whole.{add_all_card}
use Rattle.newcomers.specs.Records.{looked_at, record_of, records_of, WideEntry}
use Rattle.newcomers.proofs.Laws.{length_record}

-- ---- the records are read back

-- a number behind m bytes
behind : (n k m : ℕ) (x y : List ℕ) → length x ≡ m → le_at n (x ++ y) (m + k) ≡ le_at n y k
behind n k m x y h = sym (le_at-drop n (x ++ y) m k) ∙ ap (λ (s : List ℕ). le_at n s k) (drop_at x y m h)

entry_back : (d : NewDevice) (rest : List ℕ) → WideEntry d → new_device_at (record_of d ++ rest) 0 ≡ d
entry_back d rest w = ap (λ (t : List ℕ). new_device_at t 0) nested ∙ (λ i. record { id = one i; version = two i; flags = three i; place = four i; length = five i })
  where
    id : List ℕ
    id = bytes_of 4 d.id

    version : List ℕ
    version = bytes_of 2 d.version

    flags : List ℕ
    flags = bytes_of 2 d.flags

    place : List ℕ
    place = bytes_of 8 d.place

    fifth : List ℕ
    fifth = bytes_of 8 d.length ++ rest

    fourth : List ℕ
    fourth = place ++ fifth

    third : List ℕ
    third = flags ++ fourth

    second : List ℕ
    second = version ++ third

    nested : record_of d ++ rest ≡ id ++ second
    nested = simp append_assoc

    one : le_at 4 (id ++ second) 0 ≡ d.id
    one = le_at-bytes_of 4 d.id second w.0

    two : le_at 2 (id ++ second) 4 ≡ d.version
    two = behind 2 0 4 id second (length-bytes_of 4 d.id) ∙ le_at-bytes_of 2 d.version third w.1

    three : le_at 2 (id ++ second) 6 ≡ d.flags
    three = behind 2 2 4 id second (length-bytes_of 4 d.id) ∙ behind 2 0 2 version third (length-bytes_of 2 d.version) ∙ le_at-bytes_of 2 d.flags fourth w.2

    four : le_at 8 (id ++ second) 8 ≡ d.place
    four = behind 8 4 4 id second (length-bytes_of 4 d.id) ∙ behind 8 2 2 version third (length-bytes_of 2 d.version) ∙ behind 8 0 2 flags fourth (length-bytes_of 2 d.flags) ∙ le_at-bytes_of 8 d.place fifth w.3

    five : le_at 8 (id ++ second) 16 ≡ d.length
    five = behind 8 12 4 id second (length-bytes_of 4 d.id) ∙ behind 8 10 2 version third (length-bytes_of 2 d.version) ∙ behind 8 8 2 flags fourth (length-bytes_of 2 d.flags) ∙ behind 8 0 8 place fifth (length-bytes_of 8 d.place) ∙ le_at-bytes_of 8 d.length rest w.4

-- the entry at a place is the first of what stands from there on
entry_here : (t : List ℕ) (at : ℕ) → new_device_at t at ≡ new_device_at (drop at t) 0
entry_here t at = sym (λ i. record { id = le_at_here 4 t at i; version = le_at-drop 2 t at 4 i; flags = le_at-drop 2 t at 6 i; place = le_at-drop 8 t at 8 i; length = le_at-drop 8 t at 16 i })

entries_from : (l : List NewDevice) (at : ℕ) (t : List ℕ) → drop at t ≡ records_of l → Every WideEntry l → new_devices_from (length l) at t ≡ l
unfolding new_devices_from records_of
entries_from [] at t e w = refl
entries_from (d ∷ l) at t e w = λ i. first i ∷ entries_from l (at + 24) t others w.1 i
  where
    first : new_device_at t at ≡ d
    first = entry_here t at ∙ ap (λ (s : List ℕ). new_device_at s 0) e ∙ entry_back d (records_of l) w.0

    others : drop (at + 24) t ≡ records_of l
    others = sym (drop-drop 24 at t) ∙ ap (drop 24) e ∙ drop_at (record_of d) (records_of l) 24 (length_record d)

length_records : (l : List NewDevice) → length (records_of l) ≡ length l * 24
unfolding records_of
length_records [] = refl
length_records (d ∷ l) = length-append (record_of d) (records_of l) ∙ omega (arith, length_record d, length_records l)

-- what stands in the records of entries that are as wide as their fields
pub entries_back : (l : List NewDevice) → Every WideEntry l → new_devices (records_of l) ≡ l
entries_back l w = ap (λ (n : ℕ). new_devices_from n 0 (records_of l)) count ∙ entries_from l 0 (records_of l) refl w
  where
    count : length (records_of l) / 24 ≡ length l
    count = omega (arith, length_records l)

-- ---- the first 4,097 entries

wide_news : (l : List NewDevice) → Every WideEntry l → WideNews l
wide_news [] w = tt
wide_news (d ∷ l) w = ((w.0.0, w.0.1, w.0.2), wide_news l w.1)

-- what is refused is refused whatever stands behind
each_more : (have : ℕ) (s : List ℕ) (i : ℕ) (l m : List NewDevice) (store : List ℕ) (j n p : ℕ) → add_each have s i l store ≡ (j, refused n p) → add_each have s i (l ++ m) store ≡ (j, refused n p)
unfolding add_each
each_more have s i [] m store j n p h = absurd (taken_refused (ap (λ (q : ℕ × Outcome (List ℕ)). q.1) h))
each_more have s i (x ∷ l) m store j n p h = go (add_new have s store x) (λ b. each_more have b (suc i) l m store j n p) h
  where
    go : (o : Outcome (List ℕ)) → ((b : List ℕ) → add_each have b (suc i) l store ≡ (j, refused n p) → add_each have b (suc i) (l ++ m) store ≡ (j, refused n p))
        → further (i, o) (λ b. add_each have b (suc i) l store) ≡ (j, refused n p) → further (i, o) (λ b. add_each have b (suc i) (l ++ m) store) ≡ (j, refused n p)
    go (taken b) f h = f b h
    go (refused a c) f h = h

all_more : (have : ℕ) (s : List ℕ) (l m : List NewDevice) (store : List ℕ) (j n p : ℕ) → 0 < length l → add_all have s l store ≡ (j, refused n p) → add_all have s (l ++ m) store ≡ (j, refused n p)
unfolding add_all
all_more have s [] m store j n p z h = absurd (omega arith)
all_more have s (x ∷ l) m store j n p z h = each_more have s 0 (x ∷ l) m store j n p h

-- more than 4,096 are never taken
too_many : (have : ℕ) (s : List ℕ) (c : Content) (l : List NewDevice) (store b : List ℕ) → content_at s ≡ taken c → WideNews l → 4096 < length l → (add_all have s l store).1 ≡ taken b → ⊥
too_many have s c l store b e w h t =
    let k = (all_taken have s c l store b e w t).canon.fits.many-devices in
    let entries = device_entries (new_items store l) in
    let n : length entries ≡ length l = ap length (news-devices store l) ∙ length-map l (new_entry store) in
    let all : length (grown c (new_items store l)).devices ≡ length l + length c.devices = perm_length (sort_perm devices.key (entries ++ c.devices)) ∙ length-append entries c.devices ∙ ap (λ (j : ℕ). j + length c.devices) n in
    omega (arith, k, all)

-- beside a card
more_same : (have : ℕ) (k : Card) (s : List ℕ) (l m : List NewDevice) (store : List ℕ) → WideNews l → 4096 < length l → add_all_card have k s l store ≡ add_all_card have k s (l ++ m) store
unfolding add_all_card
more_same have k s l m store w h = go (content_at s) refl
  where
    behind_all : List NewDevice → Content → List ℕ → ℕ × Outcome (List ℕ × Card)
    behind_all l c b = (0, carded k c (grown c (new_items store l)) b)

    from : (c : Content) → content_at s ≡ taken c → (q : ℕ × Outcome (List ℕ)) → add_all have s l store ≡ q → further (add_all have s l store) (behind_all l c) ≡ further (add_all have s (l ++ m) store) (behind_all (l ++ m) c)
    from c e (j, taken b) y = absurd (too_many have s c l store b e w h (ap (λ (q : ℕ × Outcome (List ℕ)). q.1) y))
    from c e (j, refused n p) y = rw (y, all_more have s l m store j n p (omega arith) y)

    go : (o : Outcome Content) → content_at s ≡ o → further (0, o) (λ c. further (add_all have s l store) (behind_all l c)) ≡ further (0, o) (λ c. further (add_all have s (l ++ m) store) (behind_all (l ++ m) c))
    go (taken c) e = from c e (add_all have s l store) refl
    go (refused n p) e = refl

-- No entry behind the 4,097th is met, so a call may look at the first 4,097 alone.
pub first-entries : (have : ℕ) (k : Card) (s : List ℕ) (l : List NewDevice) (store : List ℕ) → Every WideEntry (take 4097 l) → add_all_card have k s (take 4097 l) store ≡ add_all_card have k s l store
first-entries have k s l store w = go (leb (length l) 4097) refl
  where
    go : (t : Bool) → leb (length l) 4097 ≡ t → add_all_card have k s (take 4097 l) store ≡ add_all_card have k s l store
    go true e = ap (λ (m : List NewDevice). add_all_card have k s m store) (take_all 4097 l (leb-true (length l) 4097 e))
    go false e =
        let n : length (take 4097 l) ≡ 4097 = length-take-le 4097 l (omega (arith, leb-false (length l) 4097 e)) in
        more_same have k s (take 4097 l) (drop 4097 l) store (wide_news (take 4097 l) w) (omega arith) ∙ ap (λ (m : List NewDevice). add_all_card have k s m store) (take-append-drop 4097 l)

-- they are as many as are looked at
pub take_looked : (l : List NewDevice) → take (looked_at (length l)) l ≡ take 4097 l
take_looked l = go (leb (length l) 4097) refl
  where
    go : (t : Bool) → leb (length l) 4097 ≡ t → take (cond t (length l) 4097) l ≡ take 4097 l
    go true e = take_all (length l) l (omega arith) ∙ sym (take_all 4097 l (leb-true (length l) 4097 e))
    go false e = refl
