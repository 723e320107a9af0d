-- Many at once in one pass: the numbers that are carried from entry to entry are those of the files that would be written, so that nothing is written before all is known.
-- Assumes nothing.
use mathlib.Core.Path.{◌≡◌, refl, sym, ◌∙◌, ap}
use mathlib.Core.Bool.{Bool, true, false, not, cond, ◌||◌}
use mathlib.Core.List.{List, [], ◌∷◌, ◌++◌}
use Prim.Native.Nat.{ℕ, suc, ◌+◌, ◌-◌, ◌*◌, ◌≤◌}
use native.Mathlib.Omega.{arith}
use lib.ListN.{length, take, drop, length-drop, length-append}
use lib.Seq.{length-take-le}
use lib.Dec.{leb, eqb}
use borrow.Author.Tests.{leb-true}
use Rattle.answer.specs.Numbers.{SIZE, MANY, LIMIT, HAVE, PAYLOAD}
use Rattle.answer.specs.Outcome.{Outcome, taken, refused, Checks, checked, after, room, fitting}
use Rattle.answer.specs.Calls.{asked}
use Rattle.answer.proofs.Checks.{checked-pass, checked-append, checked-after, and_true}
use Rattle.answer.proofs.Outcomes.{taken_is, taken_refused}
use Rattle.order.specs.Keyed.{weigh, has, puts}
use Rattle.order.proofs.Keys.{fresh_has}
use Rattle.order.proofs.Inserts.{insert_perm, weigh-insert, length-insert}
use Rattle.order.proofs.Without.{has_cons, has_perm}
use Rattle.entries.specs.Kinds.{payload_most, devices}
use Rattle.lists.specs.Lists.{list_bytes}
use Rattle.lists.proofs.Written.{length_list}
use Rattle.aerosnap.specs.declared.NewDevice.{NewDevice}
use Rattle.aerosnap.specs.File.{file_most, sections_most, devices_most}
use Rattle.aerosnap.specs.Content.{is_absent, Content, secs, render, content_at, canonical}
use Rattle.aerosnap.specs.Adding.{device, Wide, entry_of, there, own_checks, add_checks, grown}
use Rattle.aerosnap.proofs.Items.{with_item, WideNews}
use Rattle.aerosnap.specs.Edits.{add, edit_to, add_to}
use Rattle.aerosnap.specs.Many.{is_inside, new_item, new_items, Inside, further, add_new, add_each, add_all, Tally, opened, grow, pass_checks, new_key, is_seen, pass, one_pass}
use Rattle.aerosnap.proofs.Framed.{length-framed}
use Rattle.aerosnap.proofs.Canon.{presence, Canon}
use Rattle.aerosnap.proofs.Back.{read_back}
use Rattle.aerosnap.proofs.Canonical.{content_is, canonical_exactly}
use Rattle.aerosnap.proofs.Passing.{edit_exactly_to}
use Rattle.aerosnap.proofs.Added.{grows}
use Rattle.aerosnap.proofs.AnyOrder.{puts-grown}
use Rattle.aerosnap.proofs.Edited.{key_name, canon_apply}
use Rattle.aerosnap.proofs.Together.{further_same}

-- ---- the numbers with an entry more

tally_same : {a b : Tally} → a.sections ≡ b.sections → a.size ≡ b.size → a.count ≡ b.count → a.bytes ≡ b.bytes → a ≡ b
tally_same s n d p = λ i. record { sections = s i; size = n i; count = d i; bytes = p i }

-- a section that is made
made : (b : Bool) → (cond b 1 0 ≡ 1 - cond b 0 1) × (cond b 20 0 ≡ 20 * (1 - cond b 0 1))
made true = (refl, refl)
made false = (refl, refl)

-- is there with the first entry
pub entry_there : (l : List (List ℕ)) (t : List ℕ) {n : ℕ} → length l ≡ suc n → is_absent l t ≡ false
entry_there [] t h = absurd (omega arith)
entry_there (e ∷ l) t h = refl

module _ (id v f : ℕ) (p : List ℕ) (c : Content) where
  -- the numbers of the file with the entry
  pub record OneMore : Type 0 where
    pub sections_are : length (secs (with_item (device id v f p) c)) ≡ (grow (length p) (opened c)).sections
    pub size_is : length (render (with_item (device id v f p) c)) ≡ (grow (length p) (opened c)).size
    pub count_is : length (with_item (device id v f p) c).devices ≡ (grow (length p) (opened c)).count
    pub bytes_are : length (list_bytes (with_item (device id v f p) c).devices ++ c.device_tail) ≡ (grow (length p) (opened c)).bytes

  pub one_more : OneMore
  one_more =
      let u : Content = with_item (device id v f p) c in
      let g = grows (device id v f p) c in
      let m = made (is_absent c.devices c.device_tail) in
      let n = length-framed id v f p in
      record {
        sections_are = omega (arith, g.sections_are, m.0);
        size_is = omega (arith, g.size, m.1);
        count_is = g.count;
        bytes_are = omega (
          arith,
          length-append (list_bytes u.devices) c.device_tail,
          length-append (list_bytes c.devices) c.device_tail,
          length_list u.devices,
          length_list c.devices,
          weigh-insert devices.key length (entry_of (device id v f p)) c.devices,
        );
      }

  -- its section is there then, so that they are what the pass goes on with
  pub opened_more : opened (with_item (device id v f p) c) ≡ grow (length p) (opened c)
  opened_more =
      let o = one_more in
      let n = entry_there (with_item (device id v f p) c).devices c.device_tail o.count_is in
      let i = made (is_absent (with_item (device id v f p) c).devices c.device_tail) in
      let j : 1 - presence (with_item (device id v f p) c).devices c.device_tail ≡ 0 = ap (λ (b : Bool). 1 - cond b 0 1) n in
      tally_same (omega (arith, o.sections_are, i.0, j)) (omega (arith, o.size_is, i.1, j)) o.count_is o.bytes_are

-- ---- one entry

-- the rows behind PAYLOAD, by numbers
abbrev rows_by : ℕ → ℕ → Bool → ℕ → ℕ → ℕ → ℕ → Checks
rows_by have n t count bytes sections size =
    (leb n payload_most, LIMIT, 0)
    ∷ (not t, HAVE, 0)
    ∷ (leb count devices.most, LIMIT, 0)
    ∷ (leb bytes devices_most, LIMIT, 0)
    ∷ (leb sections sections_most, MANY, 0)
    ∷ (leb size file_most, SIZE, 0)
    ∷ room have size

rows_same : (have : ℕ) {n n' : ℕ} {t t' : Bool} {a a' b b' s s' z z' : ℕ} → n ≡ n' → t ≡ t' → a ≡ a' → b ≡ b' → s ≡ s' → z ≡ z' → rows_by have n t a b s z ≡ rows_by have n' t' a' b' s' z'
rows_same have p q i j k l = cc

-- a payload within the second buffer is as long as its entry says
pub part_length : (store : List ℕ) (x : NewDevice) → is_inside store x ≡ true → length (take x.length (drop x.place store)) ≡ x.length
part_length store x h =
    let (i, j) = and_true (leb x.place (length store)) (leb x.length (length store - x.place)) h in
    length-take-le x.length (drop x.place store) (omega (arith, leb-true x.length (length store - x.place) j, length-drop x.place store))

-- an entry added to a content
abbrev new_to : ℕ → List ℕ → Content → NewDevice → Outcome (List ℕ)
new_to have store c x = checked ((is_inside store x, PAYLOAD, 0) ∷ []) (add_to have c (new_item store x))

-- what an entry is asked, by numbers, is what adding it to the file so far asks
pub entry_pass : (have : ℕ) (store : List ℕ) (c : Content) (x : NewDevice) (again old : Bool) → has devices.key (new_key x) c.devices ≡ (again || old)
    → new_to have store c x ≡ after (asked (pass_checks have store again old (grow x.length (opened c)) x)) (λ _. taken (render (with_item (new_item store x) c)))
unfolding edit_to
entry_pass have store c x again old t =
    go (is_inside store x) refl ∙ sym (checked-after (pass_checks have store again old (grow x.length (opened c)) x) (taken tt) (λ _. taken (render (with_item (new_item store x) c))))
  where
    k : Tally
    k = grow x.length (opened c)

    go : (b : Bool) → is_inside store x ≡ b
        → checked ((b, PAYLOAD, 0) ∷ []) (checked (own_checks (new_item store x) ++ add_checks (new_item store x) c (with_item (new_item store x) c)) (fitting have (render (with_item (new_item store x) c))))
        ≡ checked ((b, PAYLOAD, 0) ∷ rows_by have x.length (again || old) k.count k.bytes k.sections k.size) (taken (render (with_item (new_item store x) c)))
    go false e = refl
    go true e =
        let u : Content = with_item (new_item store x) c in
        let p : List ℕ = take x.length (drop x.place store) in
        let n : length p ≡ x.length = part_length store x e in
        let o = one_more x.id x.version x.flags p c in
        let h : there (new_item store x) c ≡ (again || old) = ap (λ (j : ℕ). has devices.key j c.devices) (sym (key_name (new_item store x))) ∙ t in
        sym (checked-append (own_checks (new_item store x) ++ add_checks (new_item store x) c u) (room have (length (render u))) (taken (render u)))
        ∙ ap (λ (rows : Checks). checked rows (taken (render u))) (rows_same have n h o.count_is (o.bytes_are ∙ ap (λ (n : ℕ). (grow n (opened c)).bytes) n) o.sections_are (o.size_is ∙ ap (λ (n : ℕ). (grow n (opened c)).size) n))

-- ---- all of them

-- the keys of a content are those seen in the table and those of the file at first
abbrev pub Agree : Content → List ℕ → List (List ℕ) → Type 0
Agree c seen l = (j : ℕ) → has devices.key j c.devices ≡ (is_seen j seen || has devices.key j l)

or_assoc : (a b c : Bool) → (a || (b || c)) ≡ ((a || b) || c)
or_assoc true b c = refl
or_assoc false b c = refl

agree_first : (c : Content) → Agree c [] c.devices
agree_first c j = sym (ap (λ (b : Bool). b || has devices.key j c.devices) (fresh_has (λ (n : ℕ). n) j [] tt))

agree_next : (store : List ℕ) (c : Content) (x : NewDevice) (seen : List ℕ) (l : List (List ℕ)) → Agree c seen l → Agree (with_item (new_item store x) c) (new_key x ∷ seen) l
agree_next store c x seen l h j =
    let e : List ℕ = entry_of (new_item store x) in
    let k : devices.key e ≡ new_key x = sym (key_name (new_item store x)) in
    has_perm devices.key j (insert_perm devices.key e c.devices) ∙ has_cons devices.key j e c.devices ∙ cc (k, h j)
    ∙ or_assoc (eqb j (new_key x)) (is_seen j seen) (has devices.key j l)
    ∙ ap (λ (b : Bool). b || has devices.key j l) (sym (has_cons (λ (n : ℕ). n) j (new_key x) seen))

-- an entry that is taken leaves a content in order, and its payload is as long as it says
pub record EntryIn (store : List ℕ) (c : Content) (x : NewDevice) : Type 0 where
  pub inside : is_inside store x ≡ true
  pub long : length (take x.length (drop x.place store)) ≡ x.length
  pub canon : Canon (with_item (new_item store x) c)

entry_canon : (have : ℕ) (store : List ℕ) (c : Content) (x : NewDevice) (b : List ℕ) → Canon c → Wide (new_item store x) → new_to have store c x ≡ taken b → EntryIn store c x
entry_canon have store c x b h w q =
    let (p, t) = checked-pass ((is_inside store x, PAYLOAD, 0) ∷ []) (add_to have c (new_item store x)) b q in
    record { inside = p.0; long = part_length store x p.0; canon = canon_apply (add (new_item store x)) c h w ((edit_exactly_to have c (add (new_item store x)) b).0 t).0.rows }

-- what a pass that is not refused ends with: the tally of the content with all entries, which is in order; each payload lies within the second buffer
pub record PassEnd (store : List ℕ) (c : Content) (l : List NewDevice) (j : ℕ) (k : Tally) : Type 0 where
  pub index_is : j ≡ 0
  pub canon : Canon (puts with_item c (new_items store l))
  pub tally : k ≡ opened (puts with_item c (new_items store l))
  pub inside : Inside store l

-- the pass from an entry on, against adding one by one
pub record Passes (have : ℕ) (store : List ℕ) (seen : List ℕ) (old : List (List ℕ)) (i : ℕ) (s : List ℕ) (c : Content) (l : List NewDevice) : Type 0 where
  pub same : add_each have s i l store ≡ further (pass have store old seen (opened c) i l) (λ _. (0, taken (render (puts with_item c (new_items store l)))))
  pub ends : (j : ℕ) (k : Tally) → pass have store old seen (opened c) i l ≡ (j, taken k) → PassEnd store c l j k

after_is : {A B : Type 0} (o : Outcome A) (f : A → Outcome B) {a : A} → o ≡ taken a → after o f ≡ f a
after_is o f h = ap (λ r. after r f) h

-- the first entry of some, on any file with that content
first_passes : (have : ℕ) (store : List ℕ) (old : List (List ℕ)) (x : NewDevice) (l : List NewDevice) (seen : List ℕ) (i : ℕ) (s : List ℕ) (c : Content) → content_at s ≡ taken c → Canon c → WideNews (x ∷ l) → Agree c seen old
    → ((seen : List ℕ) (i : ℕ) (c : Content) → Canon c → WideNews l → Agree c seen old → Passes have store seen old i (render c) c l)
    → Passes have store seen old i s c (x ∷ l)
unfolding add_each add_new pass
first_passes have store old x l seen i s c e h w a rest =
    let q = entry_pass have store c x (is_seen (new_key x) seen) (has devices.key (new_key x) old) (a (new_key x)) in
    let d : add_new have s store x ≡ after o (λ _. taken (render u)) = after_is (content_at s) (λ c. new_to have store c x) e ∙ q in
    let g = go o (λ z y. entry_canon have store c x (render u) h w.0 (q ∙ after_is o (λ _. taken (render u)) y)) in
    record { same = rw d g.0; ends = g.1 }
  where
    k : Tally
    k = grow x.length (opened c)

    u : Content
    u = with_item (new_item store x) c

    o : Outcome (Unit {0})
    o = asked (pass_checks have store (is_seen (new_key x) seen) (has devices.key (new_key x) old) k x)

    go : (o : Outcome (Unit {0})) → ((z : Unit {0}) → o ≡ taken z → EntryIn store c x)
        → (further (i, after o (λ _. taken (render u))) (λ b. add_each have b (suc i) l store) ≡ further (further (i, o) (λ _. pass have store old (new_key x ∷ seen) k (suc i) l)) (λ _. (0, taken (render (puts with_item u (new_items store l))))))
        × ((j : ℕ) (m : Tally) → further (i, o) (λ _. pass have store old (new_key x ∷ seen) k (suc i) l) ≡ (j, taken m) → PassEnd store c (x ∷ l) j m)
    go (taken z) f =
        let g = f z refl in
        let y : opened u ≡ k = opened_more x.id x.version x.flags (take x.length (drop x.place store)) c ∙ ap (λ (n : ℕ). grow n (opened c)) g.long in
        let p = rest (new_key x ∷ seen) (suc i) u g.canon w.1 (agree_next store c x seen old a) in
        (rw y at p.same, λ j m v. let q = p.ends j m (rw y v) in record { index_is = q.index_is; canon = q.canon; tally = q.tally; inside = (g.inside, q.inside) })
    go (refused n p) f = (refl, λ j m v. absurd (taken_refused (sym (ap (λ (q : ℕ × Outcome Tally). q.1) v))))

passes : (have : ℕ) (store : List ℕ) (old : List (List ℕ)) (l : List NewDevice) (seen : List ℕ) (i : ℕ) (c : Content) → Canon c → WideNews l → Agree c seen old → Passes have store seen old i (render c) c l
unfolding add_each pass
passes have store old [] seen i c h w a = record {
  same = refl;
  ends = λ j k e. record { index_is = sym (ap (λ (q : ℕ × Outcome Tally). q.0) e); canon = h; tally = sym (taken_is (ap (λ (q : ℕ × Outcome Tally). q.1) e)); inside = tt };
}
passes have store old (x ∷ l) seen i c h w a = first_passes have store old x l seen i (render c) c (read_back c h) h w a (passes have store old l)

-- the whole table, on a file with that content
pub all_passes : (have : ℕ) (s : List ℕ) (c : Content) (x : NewDevice) (l : List NewDevice) (store : List ℕ) → content_at s ≡ taken c → WideNews (x ∷ l) → Passes have store [] c.devices 0 s c (x ∷ l)
all_passes have s c x l store e w = first_passes have store c.devices x l [] 0 s c e (content_is s c e).0 w (agree_first c) (passes have store c.devices l)

-- ---- the whole call

-- On a file that is taken, the numbers alone tell the first refusal and its index, and what is written is the canonical form of the old content and all entries.
pub content_pass : (have : ℕ) (s : List ℕ) (c : Content) (l : List NewDevice) (store : List ℕ) → content_at s ≡ taken c → WideNews l → add_all have s l store ≡ one_pass have c l store
unfolding add_all one_pass canonical
content_pass have s c [] store e w = rw e
content_pass have s c (x ∷ l) store e w =
    let h = (content_is s c e).0 in
    let p = all_passes have s c x l store e w in
    let q = pass have store c.devices [] (opened c) 0 (x ∷ l) in
    p.same
    ∙ further_same q (λ _. (0, taken (render (puts with_item c (new_items store (x ∷ l)))))) (λ _. (0, taken (render (grown c (new_items store (x ∷ l))))))
    (λ k y. ap (λ (c : Content). (0, taken (render c))) (puts-grown c (new_items store (x ∷ l)) h (p.ends q.0 k (λ i. (q.0, y i))).canon))

-- the file's faults come first, with index 0
pub all_faults : (have : ℕ) (s : List ℕ) (l : List NewDevice) (store : List ℕ) (n p : ℕ) → content_at s ≡ refused n p → add_all have s l store ≡ (0, refused n p)
unfolding add_all canonical add_each add_new
all_faults have s [] store n p e = rw e
all_faults have s (x ∷ l) store n p e = rw e

-- Many at once answers as one pass over the table does, whatever the file is.
pub one-pass : (have : ℕ) (s : List ℕ) (l : List NewDevice) (store : List ℕ) → WideNews l → add_all have s l store ≡ further (0, content_at s) (λ c. one_pass have c l store)
one-pass have s l store w = go (content_at s) refl
  where
    go : (o : Outcome Content) → content_at s ≡ o → add_all have s l store ≡ further (0, o) (λ c. one_pass have c l store)
    go (taken c) e = content_pass have s c l store e w
    go (refused n p) e = all_faults have s l store n p e

-- no entries: the canonical form
pub no_entries : (have : ℕ) (s store : List ℕ) → add_all have s [] store ≡ (0, canonical have s)
unfolding add_all
no_entries have s store = refl

-- a file that is written: the canonical form of the old content and all entries
pub record AllIn (c : Content) (l : List NewDevice) (store b : List ℕ) : Type 0 where
  pub canon : Canon (grown c (new_items store l))
  pub writes : render (grown c (new_items store l)) ≡ b

all_in : (c : Content) (l : List NewDevice) (store : List ℕ) → Canon c → Canon (puts with_item c (new_items store l)) → (b : List ℕ) → render (puts with_item c (new_items store l)) ≡ b → AllIn c l store b
all_in c l store h k b e =
    let g = puts-grown c (new_items store l) h k in
    record { canon = rw g at k; writes = ap render (sym g) ∙ e }

pub all_taken : (have : ℕ) (s : List ℕ) (c : Content) (l : List NewDevice) (store b : List ℕ) → content_at s ≡ taken c → WideNews l → (add_all have s l store).1 ≡ taken b → AllIn c l store b
unfolding add_all
all_taken have s c [] store b e w h =
    let (d, r, q, _) = (canonical_exactly have s b).0 h in
    let k = (content_is s c e).0 in
    all_in c [] store k k b (ap render (taken_is (sym e ∙ r)) ∙ q)
all_taken have s c (x ∷ l) store b e w h =
    let p = all_passes have s c x l store e w in
    go (pass have store c.devices [] (opened c) 0 (x ∷ l)) refl (ap (λ (q : ℕ × Outcome (List ℕ)). q.1) (sym p.same) ∙ h) p.ends
  where
    u : Content
    u = puts with_item c (new_items store (x ∷ l))

    go : (q : ℕ × Outcome Tally) → pass have store c.devices [] (opened c) 0 (x ∷ l) ≡ q → (further q (λ _. (0, taken (render u)))).1 ≡ taken b
        → ((j : ℕ) (k : Tally) → pass have store c.devices [] (opened c) 0 (x ∷ l) ≡ (j, taken k) → PassEnd store c (x ∷ l) j k) → AllIn c (x ∷ l) store b
    go (j, taken k) y t f = all_in c (x ∷ l) store (content_is s c e).0 (f j k y).canon b (taken_is t)
    go (j, refused n p) y t f = absurd (taken_refused (sym t))

-- ---- what the pass ends with, for the code

-- a file in order, and a table of one entry or more: the content then, and its numbers
pub record PassGives (store : List ℕ) (c : Content) (l : List NewDevice) (j : ℕ) (k : Tally) : Type 0 where
  pub index_is : j ≡ 0
  pub canon : Canon (grown c (new_items store l))
  pub inside : Inside store l
  pub sections_are : k.sections ≡ length (secs (grown c (new_items store l)))
  pub size_is : k.size ≡ length (render (grown c (new_items store l)))
  pub count_is : k.count ≡ length (grown c (new_items store l)).devices
  pub bytes_are : k.bytes ≡ length (list_bytes (grown c (new_items store l)).devices ++ c.device_tail)

puts_more : (store : List ℕ) (c : Content) (l : List NewDevice) → length (puts with_item c (new_items store l)).devices ≡ length c.devices + length l
puts_more store c [] = omega arith
puts_more store c (x ∷ l) = omega (arith, puts_more store (with_item (new_item store x) c) l, length-insert devices.key (entry_of (new_item store x)) c.devices)

pub pass_gives : (have : ℕ) (c : Content) (x : NewDevice) (l : List NewDevice) (store : List ℕ) (j : ℕ) (k : Tally) → Canon c → WideNews (x ∷ l)
    → pass have store c.devices [] (opened c) 0 (x ∷ l) ≡ (j, taken k) → PassGives store c (x ∷ l) j k
pass_gives have c x l store j k h w e =
    let p = (all_passes have (render c) c x l store (read_back c h) w).ends j k e in
    let u : Content = puts with_item c (new_items store (x ∷ l)) in
    let g : u ≡ grown c (new_items store (x ∷ l)) = puts-grown c (new_items store (x ∷ l)) h p.canon in
    let n = entry_there u.devices u.device_tail {n = length c.devices + length l} (omega (arith, puts_more store c (x ∷ l))) in
    let i = made (is_absent u.devices u.device_tail) in
    let m : 1 - presence u.devices u.device_tail ≡ 0 = ap (λ (b : Bool). 1 - cond b 0 1) n in
    let s : (opened u).sections ≡ length (secs u) = omega (arith, i.0, m) in
    let z : (opened u).size ≡ length (render u) = omega (arith, i.1, m) in
    record {
      index_is = p.index_is;
      canon = rw g at p.canon;
      inside = p.inside;
      sections_are = ap (λ (k : Tally). k.sections) p.tally ∙ s ∙ ap (λ (c : Content). length (secs c)) g;
      size_is = ap (λ (k : Tally). k.size) p.tally ∙ z ∙ ap (λ (c : Content). length (render c)) g;
      count_is = ap (λ (k : Tally). k.count) p.tally ∙ ap (λ (c : Content). length c.devices) g;
      bytes_are = ap (λ (k : Tally). k.bytes) p.tally ∙ ap (λ (c : Content). length (list_bytes c.devices ++ c.device_tail)) g;
    }

-- and how far they have moved
pub pass_moves : (have : ℕ) (store : List ℕ) (old : List (List ℕ)) (l : List NewDevice) (seen : List ℕ) (k m : Tally) (i j : ℕ) → pass have store old seen k i l ≡ (j, taken m)
    → (m.sections ≡ k.sections) × (m.count ≡ k.count + length l) × (m.bytes ≡ k.bytes + weigh (λ x. 16 + x.length) l) × (m.size ≡ k.size + weigh (λ x. 16 + x.length) l)
unfolding pass
pass_moves have store old [] seen k m i j e =
    let q : k ≡ m = taken_is (ap (λ (q : ℕ × Outcome Tally). q.1) e) in
    (ap (λ (k : Tally). k.sections) (sym q), omega (arith, ap (λ (k : Tally). k.count) q), omega (arith, ap (λ (k : Tally). k.bytes) q), omega (arith, ap (λ (k : Tally). k.size) q))
pass_moves have store old (x ∷ l) seen k m i j e = go (asked (pass_checks have store (is_seen (new_key x) seen) (has devices.key (new_key x) old) (grow x.length k) x)) e (pass_moves have store old l (new_key x ∷ seen) (grow x.length k) m (suc i) j)
  where
    weights : NewDevice → ℕ
    weights x = 16 + x.length

    go : (o : Outcome (Unit {0})) → further (i, o) (λ _. pass have store old (new_key x ∷ seen) (grow x.length k) (suc i) l) ≡ (j, taken m)
        → (pass have store old (new_key x ∷ seen) (grow x.length k) (suc i) l ≡ (j, taken m)
        → (m.sections ≡ k.sections) × (m.count ≡ suc k.count + length l) × (m.bytes ≡ k.bytes + (16 + x.length) + weigh weights l) × (m.size ≡ k.size + (16 + x.length) + weigh weights l))
        → (m.sections ≡ k.sections) × (m.count ≡ k.count + length (x ∷ l)) × (m.bytes ≡ k.bytes + weigh weights (x ∷ l)) × (m.size ≡ k.size + weigh weights (x ∷ l))
    go (taken z) e f = let (a, b, c, d) = f e in (a, omega arith, omega arith, omega arith)
    go (refused n p) e f = absurd (taken_refused (sym (ap (λ (q : ℕ × Outcome Tally). q.1) e)))

-- ---- the index is small: no entry behind number 4096 is ever looked at

pass_small : (have : ℕ) (store : List ℕ) (old : List (List ℕ)) (l : List NewDevice) (seen : List ℕ) (k : Tally) (i : ℕ) → i ≤ k.count → k.count ≤ 4096 → (pass have store old seen k i l).0 ≤ 4096
unfolding pass
pass_small have store old [] seen k i h m = omega arith
pass_small have store old (x ∷ l) seen k i h m = go o refl (pass_small have store old l (new_key x ∷ seen) (grow x.length k) (suc i))
  where
    rows : Checks
    rows = pass_checks have store (is_seen (new_key x) seen) (has devices.key (new_key x) old) (grow x.length k) x

    o : Outcome (Unit {0})
    o = asked rows

    go : (q : Outcome (Unit {0})) → o ≡ q → (suc i ≤ suc k.count → suc k.count ≤ 4096 → (pass have store old (new_key x ∷ seen) (grow x.length k) (suc i) l).0 ≤ 4096)
        → (further (i, q) (λ _. pass have store old (new_key x ∷ seen) (grow x.length k) (suc i) l)).0 ≤ 4096
    go (taken z) e f = let p = (checked-pass rows (taken tt) z e).0 in f (omega arith) (leb-true (suc k.count) 4096 p.1.1.1.0)
    go (refused n p) e f = omega arith

further_index : {A B : Type 0} (p : ℕ × Outcome A) (f : A → Outcome B) → p.0 ≤ 4096 → (further p (λ a. (0, f a))).0 ≤ 4096
further_index (i, taken a) f h = omega arith
further_index (i, refused n p) f h = h

content_index : (have : ℕ) (c : Content) (l : List NewDevice) (store : List ℕ) → Canon c → (one_pass have c l store).0 ≤ 4096
unfolding one_pass
content_index have c [] store h = omega arith
content_index have c (x ∷ l) store h = further_index (pass have store c.devices [] (opened c) 0 (x ∷ l)) _ (pass_small have store c.devices (x ∷ l) [] (opened c) 0 (omega arith) h.fits.many-devices)

pub index_small : (have : ℕ) (s : List ℕ) (l : List NewDevice) (store : List ℕ) → WideNews l → (add_all have s l store).0 ≤ 4096
index_small have s l store w = rw (one-pass have s l store w) (go (content_at s) refl)
  where
    go : (o : Outcome Content) → content_at s ≡ o → (further (0, o) (λ c. one_pass have c l store)).0 ≤ 4096
    go (taken c) e = content_index have c l store (content_is s c e).0
    go (refused n p) e = omega arith
