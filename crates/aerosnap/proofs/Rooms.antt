-- What ROOM says of many at once: the length that the entry with the index needs. With so much memory the call gets beyond that entry.
-- Assumes nothing.
use mathlib.Core.Path.{◌≡◌, refl, sym, ◌∙◌, ap}
use mathlib.Core.Logic.{◌≢◌}
use mathlib.Core.Bool.{Bool, true, false}
use mathlib.Core.List.{List, [], ◌∷◌, ◌++◌}
use Prim.Native.Nat.{ℕ, suc, ◌<◌}
use native.Mathlib.Omega.{arith}
use lib.ListN.{length, take}
use lib.Dec.{leb}
use borrow.Author.Tests.{leb-true, leb-false, le-leb}
use Rattle.answer.specs.Numbers.{ROOM}
use Rattle.answer.specs.Outcome.{Outcome, taken, refused, Faulty, Checks, checked, Pass, room}
use Rattle.answer.specs.Calls.{asked}
use Rattle.answer.proofs.Checks.{checked-pass, pass-checked, pass-append}
use Rattle.answer.proofs.Outcomes.{taken_refused}
use Rattle.answer.proofs.Table.{fault_no_room}
use Rattle.order.specs.Keyed.{Every, has}
use Rattle.entries.specs.Kinds.{devices}
use Rattle.aerosnap.specs.declared.NewDevice.{NewDevice}
use Rattle.aerosnap.specs.Content.{Content, render, content_at}
use Rattle.aerosnap.specs.Adding.{grown}
use Rattle.aerosnap.specs.Many.{new_items, further, add_all, Tally, opened, grow, pass_checks, new_key, is_seen, pass, one_pass, Beyond}
use Rattle.aerosnap.proofs.Items.{WideNews}
use Rattle.aerosnap.proofs.Named.{content_faulty}
use Rattle.aerosnap.proofs.Counted.{one-pass}

-- rows whose last is the room: a refusal with ROOM is that row's
pub last_room : {A : Type 0} (l : Checks) (have size : ℕ) (a : A) {p : ℕ} → Every (λ c. c.1 ≢ ROOM) l → checked (l ++ room have size) (taken a) ≡ refused ROOM p → Pass l × (have < size) × (p ≡ size)
last_room {A} [] have size a {p} h e = go (leb size have) refl e
  where
    go : (b : Bool) → leb size have ≡ b → checked ((b, ROOM, size) ∷ []) (taken a) ≡ refused ROOM p → Unit {0} × (have < size) × (p ≡ size)
    go true q e = absurd (taken_refused e)
    go false q e = let z : size ≡ p = cc in (tt, leb-false size have q, sym z)
last_room (c ∷ l) have size a {p} h e = go c.0 refl e (last_room l have size a h.1)
  where
    go : (b : Bool) → c.0 ≡ b → checked ((b, c.1, c.2) ∷ (l ++ room have size)) (taken a) ≡ refused ROOM p
        → (checked (l ++ room have size) (taken a) ≡ refused ROOM p → Pass l × (have < size) × (p ≡ size)) → Pass (c ∷ l) × (have < size) × (p ≡ size)
    go true q e f = let (a, b, d) = f e in ((q, a), b, d)
    go false q e f = let z : c.1 ≡ ROOM = cc in absurd (h.0 z)

-- ---- the pass

-- no entry before the first is named
pass_index : (have : ℕ) (store : List ℕ) (old : List (List ℕ)) (l : List NewDevice) (seen : List ℕ) (k : Tally) (i j : ℕ) → j < i → Beyond j (pass have store old seen k i l)
unfolding pass
pass_index have store old [] seen k i j h = tt
pass_index have store old (x ∷ l) seen k i j h =
    go (asked (pass_checks have store (is_seen (new_key x) seen) (has devices.key (new_key x) old) (grow x.length k) x)) (pass_index have store old l (new_key x ∷ seen) (grow x.length k) (suc i) j (omega arith))
  where
    go : (o : Outcome (Unit {0})) → Beyond j (pass have store old (new_key x ∷ seen) (grow x.length k) (suc i) l) → Beyond j (further (i, o) (λ _. pass have store old (new_key x ∷ seen) (grow x.length k) (suc i) l))
    go (taken z) f = f
    go (refused n p) f = h

pub pass-room : (have : ℕ) (store : List ℕ) (old : List (List ℕ)) (l : List NewDevice) (seen : List ℕ) (k : Tally) (i j p : ℕ) → pass have store old seen k i l ≡ (j, refused ROOM p) → (have < p) × Beyond j (pass p store old seen k i l)
unfolding pass
pass-room have store old [] seen k i j p e = absurd (taken_refused (ap (λ (q : ℕ × Outcome Tally). q.1) e))
pass-room have store old (x ∷ l) seen k i j p e = go (asked (rows have)) refl e (pass-room have store old l (new_key x ∷ seen) m (suc i) j p)
  where
    m : Tally
    m = grow x.length k

    rows : ℕ → Checks
    rows have = pass_checks have store (is_seen (new_key x) seen) (has devices.key (new_key x) old) m x

    front : Checks
    front = take 7 (rows have)

    go : (o : Outcome (Unit {0})) → asked (rows have) ≡ o → further (i, o) (λ _. pass have store old (new_key x ∷ seen) m (suc i) l) ≡ (j, refused ROOM p)
        → (pass have store old (new_key x ∷ seen) m (suc i) l ≡ (j, refused ROOM p) → (have < p) × Beyond j (pass p store old (new_key x ∷ seen) m (suc i) l))
        → (have < p) × Beyond j (further (i, asked (rows p)) (λ _. pass p store old (new_key x ∷ seen) m (suc i) l))
    go (taken z) q e f =
        let (h, b) = f e in
        let (a0, (a1, (a2, (a3, (a4, (a5, (a6, (a7, _)))))))) = (checked-pass (rows have) (taken tt) z q).0 in
        let t : asked (rows p) ≡ taken tt = pass-checked (rows p) (taken tt) (a0, (a1, (a2, (a3, (a4, (a5, (a6, (le-leb m.size p (omega (arith, leb-true m.size have a7)), tt)))))))) in
        (h, rw t b)
    go (refused n z) q e f =
        let w : ◌≡◌ {A = Outcome Tally} (refused n z) (refused ROOM p) = ap (λ (q : ℕ × Outcome Tally). q.1) e in
        let u : n ≡ ROOM = cc in
        let v : z ≡ p = cc in
        let y : i ≡ j = ap (λ (q : ℕ × Outcome Tally). q.0) e in
        let g : asked (rows have) ≡ refused ROOM p = q ∙ cc (u, v) in
        let (a, b, d) = last_room front have m.size tt ((λ z. omega arith), ((λ z. omega arith), ((λ z. omega arith), ((λ z. omega arith), ((λ z. omega arith), ((λ z. omega arith), ((λ z. omega arith), tt))))))) g in
        let t : asked (rows p) ≡ taken tt = pass-checked (rows p) (taken tt) (pass-append front (room p m.size) a (le-leb m.size p (omega arith), tt)) in
        (omega arith, rw (t, ← y) (pass_index p store old l (new_key x ∷ seen) m (suc i) i (omega arith)))

-- ---- the whole call

further_beyond : {A B : Type 0} (j : ℕ) (q : ℕ × Outcome A) (b : B) → Beyond j q → Beyond j (further q (λ _. (0, taken b)))
further_beyond j (i, taken a) b h = tt
further_beyond j (i, refused n p) b h = h

further_refused : {A B : Type 0} (q : ℕ × Outcome A) (b : B) {j n p : ℕ} → further q (λ _. (0, taken b)) ≡ (j, refused n p) → q ≡ (j, refused n p)
further_refused {B = B} (i, taken a) b h = absurd (taken_refused (ap (λ (r : ℕ × Outcome B). r.1) h))
further_refused {B = B} (i, refused m x) b {j} {n} {p} h =
    let w : ◌≡◌ {A = Outcome B} (refused m x) (refused n p) = ap (λ (r : ℕ × Outcome B). r.1) h in
    let u : m ≡ n = cc in
    let v : x ≡ p = cc in
    let y : i ≡ j = ap (λ (r : ℕ × Outcome B). r.0) h in
    cc (u, v, y)

content_room : (have : ℕ) (c : Content) (l : List NewDevice) (store : List ℕ) (j p : ℕ) → one_pass have c l store ≡ (j, refused ROOM p) → (have < p) × Beyond j (one_pass p c l store)
unfolding one_pass
content_room have c [] store j p e =
    let (_, b, d) = last_room [] have (length (render c)) (render c) tt (ap (λ (q : ℕ × Outcome (List ℕ)). q.1) e) in
    (omega arith, rw (le-leb (length (render c)) p (omega arith)) tt)
content_room have c (x ∷ l) store j p e =
    let b : List ℕ = render (grown c (new_items store (x ∷ l))) in
    let (h, f) = pass-room have store c.devices (x ∷ l) [] (opened c) 0 j p (further_refused (pass have store c.devices [] (opened c) 0 (x ∷ l)) b e) in
    (h, further_beyond j (pass p store c.devices [] (opened c) 0 (x ∷ l)) b f)

-- Where many at once answers ROOM at an index, the place is above the room, and with so much memory the call gets beyond that entry.
pub many-room : (have : ℕ) (s : List ℕ) (l : List NewDevice) (store : List ℕ) (j p : ℕ) → WideNews l → add_all have s l store ≡ (j, refused ROOM p) → (have < p) × Beyond j (add_all p s l store)
many-room have s l store j p w e = rw (one-pass p s l store w) (go (content_at s) (content_faulty s) (sym (one-pass have s l store w) ∙ e))
  where
    go : (o : Outcome Content) → Faulty o → further (0, o) (λ c. one_pass have c l store) ≡ (j, refused ROOM p) → (have < p) × Beyond j (further (0, o) (λ c. one_pass p c l store))
    go (taken c) f h = content_room have c l store j p h
    go (refused n x) f h =
        let w : ◌≡◌ {A = Outcome (List ℕ)} (refused n x) (refused ROOM p) = ap (λ (q : ℕ × Outcome (List ℕ)). q.1) h in
        let u : n ≡ ROOM = cc in
        absurd (fault_no_room n f u)
