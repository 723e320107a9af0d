-- Edits beside a card, from the laws of cards and from what is proved of the definitions without one: what demands 1 and 2 say of them, and how they go beside a true card.
-- Assumes nothing.
use mathlib.Core.Path.{◌≡◌, refl, sym, ◌∙◌, ap, subst}
use mathlib.Core.Logic.{◌≢◌, ◌↔◌, ◌⊎◌, inl, inr}
use mathlib.Core.Bool.{true}
use mathlib.Core.List.{List, ◌++◌}
use Prim.Native.Nat.{ℕ, ◌≤◌, ◌<◌}
use native.Mathlib.Omega.{arith}
use lib.ListN.{length, drop}
use Rattle.answer.specs.Numbers.{ROOM, CARD, is_number}
use Rattle.answer.specs.Outcome.{Outcome, taken, refused, Faulty, Checks, checked, Pass, after, room, fitting, First}
use Rattle.answer.proofs.Checks.{checked-pass, pass-checked, checked-append, checked-after}
use Rattle.answer.proofs.Outcomes.{taken_is, taken_refused, after_taken}
use Rattle.answer.proofs.Firsts.{checked-first, after_refused}
use Rattle.answer.proofs.Table.{number_some, fault_number, fault_some, fault_no_room}
use Rattle.answer.proofs.Once.{equal_once}
use Rattle.wire.specs.Numbers.{Bytes}
use Rattle.order.specs.Keyed.{Every}
use Rattle.aerosnap.specs.Content.{Content, content_at, render, IsCanonical}
use Rattle.aerosnap.specs.Adding.{grown}
use Rattle.aerosnap.specs.Edits.{Edit, WideEdit, apply, edit_checks, edit_to, edit_file, EditCall}
use Rattle.aerosnap.specs.Many.{new_devices, new_items, further, Beyond, add_all}
use Rattle.aerosnap.proofs.Refusals.{Refuses, checked_refuses, after_refuses}
use Rattle.aerosnap.proofs.Named.{content_faulty, edit_numbered, content_refuses, edit_to_refuses}
use Rattle.aerosnap.proofs.Passing.{edit_exactly, edit_exactly_to}
use Rattle.aerosnap.proofs.Canonical.{taken_fits}
use Rattle.aerosnap.proofs.Edited.{edit_gives}
use Rattle.aerosnap.proofs.Together.{wide_table, all_fits, all_refuses}
use Rattle.aerosnap.proofs.Rooms.{last_room, many-room}
use Rattle.cards.specs.declared.Card.{Card}
use Rattle.cards.specs.declared.Edited.{Edited}
use Rattle.cards.specs.Cards.{card_of, open_file, card_checks, moved_card, carded, edit_card_to, edit_card, bytes_beside, answer_beside, open_answer, WritesBeside}
use Rattle.cards.specs.Whole.{add_all_card, many_card}
use Rattle.cards.proofs.Carded.{card_open, card_true, card_again, card_bytes, no_card}
use Rattle.cards.proofs.Whole.{all_bytes}
use Rattle.demands.specs.Demand1.{InTable, Past, FillsBeside, Opens}
use Rattle.demands.specs.Beside.{TrueCard, CallBeside}

-- ---- beside a true card

-- an edit that is taken without a card is taken beside the true one, which becomes that of the file written
pub edit_true : (have : ℕ) (s : List ℕ) (k : Card) (e : Edit) (b : List ℕ) (j : Card) → TrueCard s k → WideEdit e → edit_file have s e ≡ taken b → TrueCard b j → edit_card have k s e ≡ taken (b, j)
edit_true have s k e b j t w h u =
    let (c, r, i) = card_open s k t in
    let v : card_of (apply e c) ≡ j = taken_is (sym (card_again have s c e b r w h) ∙ u) in
    ap (λ (k : Card). edit_card have k s e) (sym i) ∙ card_true have s c e r w ∙ ap (λ (o : Outcome (List ℕ)). after o (λ b. taken (b, card_of (apply e c)))) h ∙ ap (λ (j : Card). taken (b, j)) v

-- it answers as without one
pub edit_as : (have : ℕ) (s : List ℕ) (k : Card) (e : Edit) → TrueCard s k → WideEdit e → bytes_beside (edit_card have k s e) ≡ edit_file have s e
edit_as have s k e t w =
    let (c, r, i) = card_open s k t in
    ap (λ (k : Card). bytes_beside (edit_card have k s e)) (sym i) ∙ ap bytes_beside (card_true have s c e r w) ∙ back (card_of (apply e c)) (edit_file have s e)
  where
    back : (j : Card) (o : Outcome (List ℕ)) → bytes_beside (after o (λ b. taken (b, j))) ≡ o
    back j (taken b) = refl
    back j (refused n p) = refl

-- and the card that comes back is true
pub edit_keeps : (have : ℕ) (s : List ℕ) (k : Card) (e : Edit) (b : List ℕ) (j : Card) → TrueCard s k → WideEdit e → edit_card have k s e ≡ taken (b, j) → TrueCard b j
edit_keeps have s k e b j t w h =
    let (c, r, i) = card_open s k t in
    let q = card_bytes have k j s e b h in
    let u = card_again have s c e b r w q in
    u ∙ ap taken (ap (λ (x : List ℕ × Card). x.1) (taken_is (sym (edit_true have s k e b (card_of (apply e c)) t w q u) ∙ h)))

pub edit_never : (have : ℕ) (s : List ℕ) (k : Card) (e : Edit) (n p : ℕ) → TrueCard s k → WideEdit e → edit_card have k s e ≡ refused n p → n ≢ CARD
edit_never have s k e n p t w h =
    let (c, r, i) = card_open s k t in
    subst (λ (o : Outcome (List ℕ × Card)). Refuses (λ n. n ≢ CARD) o) (ap (λ (k : Card). edit_card have k s e) i ∙ h) (no_card have s c e r w)

-- ---- demand 1: numbers

in_table : {A : Type 0} (o : Outcome A) → Refuses (λ n. is_number n ≡ true) o → InTable o
in_table (taken a) h = tt
in_table (refused n p) h = h

edit_table : (have : ℕ) (k : Card) (s : List ℕ) (e : Edit) → InTable (edit_card have k s e)
unfolding edit_card edit_card_to
edit_table have k s e =
    let P : ℕ → Type 0 = λ n. is_number n ≡ true in
    in_table (edit_card have k s e) (
    after_refuses P (content_at s) (λ c. edit_card_to have k c e) (content_refuses P fault_number s)
    (λ c. after_refuses P (edit_to have c e) (carded k c (apply e c)) (edit_to_refuses P fault_number refl refl refl have c e)
    (λ b. checked_refuses P (card_checks k (card_of c) (card_of (apply e c))) (taken (b, moved_card k (card_of c) (card_of (apply e c)))) (refl, (refl, (refl, (refl, tt)))) tt)))

-- an answer with an index goes on, or is refused as it was
further_stop : {A B : Type 0} (q : ℕ × Outcome A) (f : A → ℕ × Outcome B) {i n p : ℕ} → further q f ≡ (i, refused n p) → (q ≡ (i, refused n p)) ⊎ ((a : A) × (q.1 ≡ taken a) × (f a ≡ (i, refused n p)))
further_stop (i, taken a) f h = inr (a, refl, h)
further_stop {B = B} (j, refused m x) f {i} {n} {p} h =
    let w : ◌≡◌ {A = Outcome B} (refused m x) (refused n p) = ap (λ (r : ℕ × Outcome B). r.1) h in
    let u : m ≡ n = cc in
    let v : x ≡ p = cc in
    let y : j ≡ i = ap (λ (r : ℕ × Outcome B). r.0) h in
    inl (cc (u, v, y))

-- the card's check refuses for the card alone
carded_stop : (k : Card) (c u : Content) (b : List ℕ) (n p : ℕ) → carded k c u b ≡ refused n p → n ≡ CARD
carded_stop k c u b n p h =
    subst (λ (o : Outcome (List ℕ × Card)). Refuses (λ n. n ≡ CARD) o) h
    (checked_refuses (λ n. n ≡ CARD) (card_checks k (card_of c) (card_of u)) (taken (b, moved_card k (card_of c) (card_of u))) (refl, (refl, (refl, (refl, tt)))) tt)

many-table : (have : ℕ) (k : Card) (s t store : List ℕ) → InTable (many_card have k s t store).1
unfolding add_all_card
many-table have k s t store = in_table (many_card have k s t store).1 (go (content_at s) (content_refuses P fault_number s))
  where
    P : ℕ → Type 0
    P n = is_number n ≡ true

    inner : (c : Content) (q : ℕ × Outcome (List ℕ)) → Refuses P q.1 → Refuses P {A = List ℕ × Card} (further q (λ b. (0, carded k c (grown c (new_items store (new_devices t))) b))).1
    inner c (i, taken b) h = checked_refuses P (card_checks k (card_of c) (card_of (grown c (new_items store (new_devices t))))) (taken (b, moved_card k (card_of c) (card_of (grown c (new_items store (new_devices t)))))) (refl, (refl, (refl, (refl, tt)))) tt
    inner c (i, refused n p) h = h

    go : (o : Outcome Content) → Refuses P o → Refuses P {A = List ℕ × Card} (further (0, o) (λ c. further (add_all have s (new_devices t) store) (λ b. (0, carded k c (grown c (new_items store (new_devices t))) b)))).1
    go (taken c) h = inner c (add_all have s (new_devices t) store) (all_refuses P fault_number refl refl refl refl have s (new_devices t) store)
    go (refused n p) h = h

-- ---- demand 1: calls

-- what a call is, for all of it: its numbers, that what it writes fits, and what ROOM says
record Sound (o : ℕ → Card → ℕ × Outcome (List ℕ × Card)) : Type 0 where
  table : (have : ℕ) (k : Card) → InTable (o have k).1
  fits : (have : ℕ) (k : Card) (b : List ℕ) (j : Card) → (o have k).1 ≡ taken (b, j) → ((o have k).0 ≡ 0) × (length b ≤ have)
  roomy : (have : ℕ) (k : Card) (i p : ℕ) → o have k ≡ (i, refused ROOM p) → (have < p) × Past i (o p k)

fills : (o : ℕ → Card → ℕ × Outcome (List ℕ × Card)) → Sound o → FillsBeside o
fills o z = record {
  table = z.table;
  stays = λ k old new r w h. stays k old new r (o (length old) k) w h;
  writes = λ k old new r w h. writes k old new r (o (length old) k) refl w h;
  refuses = λ k old new r i n p w h.
      let q : r ≡ answer_beside k i (refused n p) = w.answers ∙ ap (λ (x : ℕ × Outcome (List ℕ × Card)). answer_beside k x.0 x.1) h in
      (ap (λ (x : Edited). x.number) q, ap (λ (x : Edited). x.index) q, ap (λ (x : Edited). x.place) q);
  room = λ k old new r w h. roomy k old new r (o (length old) k) refl w h;
  once = λ k old new now r t x y. (equal_once x.answers y.answers, equal_once x.leaves y.leaves);
}
  where
    stays : (k : Card) (old new : List ℕ) (r : Edited) (q : ℕ × Outcome (List ℕ × Card)) → WritesBeside k q old r new → r.number ≢ 0 → (new ≡ old) × (r.card ≡ k)
    stays k old new r (i, taken t) w h = absurd (h (ap (λ (x : Edited). x.number) w.answers))
    stays k old new r (i, refused n p) w h = (w.leaves, ap (λ (x : Edited). x.card) w.answers)

    writes : (k : Card) (old new : List ℕ) (r : Edited) (q : ℕ × Outcome (List ℕ × Card)) → o (length old) k ≡ q → WritesBeside k q old r new → r.number ≡ 0
        → (b : List ℕ) × (q.1 ≡ taken (b, r.card)) × (length b ≤ length old) × (r.index ≡ 0) × (r.place ≡ length b) × (new ≡ b ++ drop (length b) old)
    writes k old new r (i, taken t) e w h =
        let a = w.answers in
        let f = z.fits (length old) k t.0 t.1 (ap (λ (x : ℕ × Outcome (List ℕ × Card)). x.1) e) in
        let c : t.1 ≡ r.card = sym (ap (λ (x : Edited). x.card) a) in
        let g : i ≡ 0 = sym (ap (λ (x : ℕ × Outcome (List ℕ × Card)). x.0) e) ∙ f.0 in
        (t.0, ap (λ (j : Card). taken (t.0, j)) c, f.1, ap (λ (x : Edited). x.index) a ∙ g, ap (λ (x : Edited). x.place) a, w.leaves)
    writes k old new r (i, refused n p) e w h =
        let y : is_number n ≡ true = subst (λ (x : ℕ × Outcome (List ℕ × Card)). InTable x.1) e (z.table (length old) k) in
        absurd (omega (arith, ap (λ (x : Edited). x.number) w.answers, number_some n y))

    roomy : (k : Card) (old new : List ℕ) (r : Edited) (q : ℕ × Outcome (List ℕ × Card)) → o (length old) k ≡ q → WritesBeside k q old r new → r.number ≡ ROOM → (length old < r.place) × Past r.index (o r.place k)
    roomy k old new r (i, taken t) e w h = absurd (omega (arith, ap (λ (x : Edited). x.number) w.answers))
    roomy k old new r (i, refused n p) e w h =
        let a = w.answers in
        let m : n ≡ ROOM = sym (ap (λ (x : Edited). x.number) a) ∙ h in
        let y = z.roomy (length old) k i p (e ∙ ap (λ (n : ℕ). (i, refused n p)) m) in
        rw (ap (λ (x : Edited). x.place) a, ap (λ (x : Edited). x.index) a) y

-- where an edit answers ROOM, its other checks pass, and the place is the length of the result
record RoomOf (have : ℕ) (s : List ℕ) (e : Edit) (p : ℕ) : Type 0 where
  old : Content
  reads : content_at s ≡ taken old
  above : have < p
  place : p ≡ length (render (apply e old))
  enough : edit_to p old e ≡ taken (render (apply e old))

no_room : (e : Edit) (c u : Content) → Every (λ c. c.1 ≢ ROOM) (edit_checks e c u)
no_room = edit_numbered (λ n. n ≢ ROOM) fault_no_room (λ q. omega arith) (λ q. omega arith)

room_of : (have : ℕ) (k : Card) (s : List ℕ) (e : Edit) (p : ℕ) → edit_card have k s e ≡ refused ROOM p → RoomOf have s e p
unfolding edit_card edit_card_to edit_to
room_of have k s e p h = go (after_refused (content_at s) (λ c. edit_card_to have k c e) ROOM p h)
  where
    inner : (c : Content) → content_at s ≡ taken c → ((edit_to have c e ≡ refused ROOM p) ⊎ ((b : List ℕ) × (edit_to have c e ≡ taken b) × (carded k c (apply e c) b ≡ refused ROOM p))) → RoomOf have s e p
    inner c r (inl q) =
        let u : Content = apply e c in
        let (a, b, d) = last_room (edit_checks e c u) have (length (render u)) (render u) (no_room e c u) (checked-append (edit_checks e c u) (room have (length (render u))) (taken (render u)) ∙ q) in
        record { old = c; reads = r; above = omega arith; place = d; enough = pass-checked (edit_checks e c u) (fitting p (render u)) a ∙ taken_fits p (render u) (omega arith) }
    inner c r (inr (b, q, z)) = absurd (let m = carded_stop k c (apply e c) b ROOM p z in omega arith)

    go : ((content_at s ≡ refused ROOM p) ⊎ ((c : Content) × (content_at s ≡ taken c) × (edit_card_to have k c e ≡ refused ROOM p))) → RoomOf have s e p
    go (inl q) = absurd (fault_no_room ROOM (subst Faulty q (content_faulty s)) refl)
    go (inr (c, r, q)) = inner c r (after_refused (edit_to have c e) (carded k c (apply e c)) ROOM p q)

past_carded : (i : ℕ) (k : Card) (c u : Content) (b : List ℕ) (o : Outcome (List ℕ × Card)) → carded k c u b ≡ o → Past i (0, o)
past_carded i k c u b (taken t) h = tt
past_carded i k c u b (refused n p) h = inr (carded_stop k c u b n p h)

edit_sound : (s : List ℕ) (e : Edit) → Sound (λ have k. (0, edit_card have k s e))
unfolding edit_card edit_card_to
edit_sound s e = record {
  table = λ have k. edit_table have k s e;
  fits = λ have k b j h. let (c, r, p, q) = (edit_exactly have s e b).0 (card_bytes have k j s e b h) in (refl, omega (arith, p.room_is, ap length q));
  roomy = λ have k i p h.
      let g = room_of have k s e p (ap (λ (x : ℕ × Outcome (List ℕ × Card)). x.1) h) in
      let y : edit_card p k s e ≡ carded k g.old (apply e g.old) (render (apply e g.old)) =
      ap (λ (o : Outcome Content). after o (λ c. edit_card_to p k c e)) g.reads ∙ ap (λ (o : Outcome (List ℕ)). after o (carded k g.old (apply e g.old))) g.enough in
      (g.above, rw y (past_carded i k g.old (apply e g.old) (render (apply e g.old)) _ refl));
}

many_sound : (s t store : List ℕ) → Bytes t → Sound (λ have k. many_card have k s t store)
unfolding add_all_card
many_sound s t store y = record {
  table = λ have k. many-table have k s t store;
  fits = λ have k b j h.
      let (i, q) = all_bytes have k s (new_devices t) store (many_card have k s t store).0 b j (λ x. ((many_card have k s t store).0, h x)) in
      (i, all_fits have s (new_devices t) store (add_all have s (new_devices t) store).0 b (λ x. ((add_all have s (new_devices t) store).0, q x)));
  roomy = roomy;
}
  where
    u : Content → Content
    u c = grown c (new_items store (new_devices t))

    roomy : (have : ℕ) (k : Card) (i p : ℕ) → many_card have k s t store ≡ (i, refused ROOM p) → (have < p) × Past i (many_card p k s t store)
    roomy have k i p h = go (further_stop (0, content_at s) (λ c. further (add_all have s (new_devices t) store) (λ b. (0, carded k c (u c) b))) h)
      where
        past : (c : Content) (q : ℕ × Outcome (List ℕ)) → Beyond i q → Past i (further q (λ b. (0, carded k c (u c) b)))
        past c (j, taken b) f = past_carded i k c (u c) b (carded k c (u c) b) refl
        past c (j, refused n x) f = inl f

        inner : (c : Content) → content_at s ≡ taken c
            → ((add_all have s (new_devices t) store ≡ (i, refused ROOM p)) ⊎ ((b : List ℕ) × ((add_all have s (new_devices t) store).1 ≡ taken b) × (◌≡◌ {A = ℕ × Outcome (List ℕ × Card)} (0, carded k c (u c) b) (i, refused ROOM p))))
            → (have < p) × Past i (many_card p k s t store)
        inner c r (inl q) =
            let (a, b) = many-room have s (new_devices t) store i p (wide_table t y) q in
            (a, rw r (past c (add_all p s (new_devices t) store) b))
        inner c r (inr (b, q, z)) = absurd (let m = carded_stop k c (u c) b ROOM p (ap (λ (x : ℕ × Outcome (List ℕ × Card)). x.1) z) in omega arith)

        go : ((◌≡◌ {A = ℕ × Outcome Content} (0, content_at s) (i, refused ROOM p)) ⊎ ((c : Content) × (content_at s ≡ taken c) × (further (add_all have s (new_devices t) store) (λ b. (0, carded k c (u c) b)) ≡ (i, refused ROOM p))))
            → (have < p) × Past i (many_card p k s t store)
        go (inl q) = absurd (fault_no_room ROOM (subst Faulty (ap (λ (x : ℕ × Outcome Content). x.1) q) (content_faulty s)) refl)
        go (inr (c, r, q)) = inner c r (further_stop (add_all have s (new_devices t) store) (λ b. (0, carded k c (u c) b)) q)

open_faulty : (s : List ℕ) → Faulty (open_file s)
unfolding open_file
open_faulty s = go (content_at s) (content_faulty s)
  where
    go : (o : Outcome Content) → Faulty o → Faulty (after o (λ c. taken (card_of c)))
    go (taken c) h = tt
    go (refused n p) h = h

pub opens : (s : List ℕ) → Opens s
opens s = record {
  faults = open_faulty s;
  zero = λ r e. zero r (open_file s) e (open_faulty s);
  takes = λ r k e h. let q : r ≡ open_answer (taken k) = e ∙ ap open_answer h in (ap (λ (x : Edited). x.place) q, ap (λ (x : Edited). x.index) q, ap (λ (x : Edited). x.card) q);
  refuses = λ r n p e h. let q : r ≡ open_answer (refused n p) = e ∙ ap open_answer h in (ap (λ (x : Edited). x.number) q, ap (λ (x : Edited). x.place) q, ap (λ (x : Edited). x.index) q, ap (λ (x : Edited). x.card) q);
}
  where
    zero : (r : Edited) (o : Outcome Card) → r ≡ open_answer o → Faulty o → (r.number ≡ 0) ↔ ((k : Card) × (o ≡ taken k))
    zero r (taken k) e h = ((λ z. (k, refl)), λ t. ap (λ (x : Edited). x.number) e)
    zero r (refused n p) e h = ((λ z. absurd (omega (arith, ap (λ (x : Edited). x.number) e, fault_some n h))), λ (k, t). absurd (taken_refused (sym t)))

-- with the length that ROOM names an edit beside a true card is taken
pub enough : (s : List ℕ) (e : Edit) (k : Card) (old new : List ℕ) (r : Edited) → TrueCard s k → WideEdit e → WritesBeside k (0, edit_card (length old) k s e) old r new → r.number ≡ ROOM
    → (b : List ℕ) × (j : Card) × (edit_card r.place k s e ≡ taken (b, j)) × (length b ≡ r.place)
unfolding edit_file
enough s e k old new r t w x z = go (edit_card (length old) k s e) refl x
  where
    go : (o : Outcome (List ℕ × Card)) → edit_card (length old) k s e ≡ o → WritesBeside k (0, o) old r new → (b : List ℕ) × (j : Card) × (edit_card r.place k s e ≡ taken (b, j)) × (length b ≡ r.place)
    go (taken q) h x = absurd (omega (arith, ap (λ (y : Edited). y.number) x.answers))
    go (refused n p) h x =
        let a = x.answers in
        let m : n ≡ ROOM = sym (ap (λ (y : Edited). y.number) a) ∙ z in
        let i : p ≡ r.place = sym (ap (λ (y : Edited). y.place) a) in
        let g = room_of (length old) k s e p (h ∙ ap (λ (n : ℕ). refused n p) m) in
        let b : List ℕ = render (apply e g.old) in
        let f : edit_file p s e ≡ taken b = ap (λ (o : Outcome Content). after o (λ c. edit_to p c e)) g.reads ∙ g.enough in
        let u = card_again p s g.old e b g.reads w f in
        (b, card_of (apply e g.old), ap (λ (have : ℕ). edit_card have k s e) (sym i) ∙ edit_true p s k e b (card_of (apply e g.old)) t w f u, sym g.place ∙ i)

-- the calls
pub edit_fills : (s : List ℕ) (e : Edit) → FillsBeside (λ have k. (0, edit_card have k s e))
edit_fills s e = fills _ (edit_sound s e)

pub many_fills : (s t store : List ℕ) → Bytes t → FillsBeside (λ have k. many_card have k s t store)
many_fills s t store y = fills _ (many_sound s t store y)

-- ---- demand 2

-- an edit beside a card is one list of rows: the edit's, room, the card's
card_rows : (have : ℕ) (k : Card) (c : Content) (e : Edit)
    → edit_card_to have k c e ≡ checked ((edit_checks e c (apply e c) ++ room have (length (render (apply e c)))) ++ card_checks k (card_of c) (card_of (apply e c))) (taken (render (apply e c), moved_card k (card_of c) (card_of (apply e c))))
unfolding edit_card_to edit_to
card_rows have k c e =
    let u : Content = apply e c in
    let l : Checks = edit_checks e c u ++ room have (length (render u)) in
    ap (λ (o : Outcome (List ℕ)). after o (carded k c u)) (sym (checked-append (edit_checks e c u) (room have (length (render u))) (taken (render u))))
    ∙ checked-after l (taken (render u)) (carded k c u)
    ∙ sym (checked-append l (card_checks k (card_of c) (card_of u)) (taken (render u, moved_card k (card_of c) (card_of u))))

pub card_exactly : (have : ℕ) (k : Card) (s : List ℕ) (e : Edit) (b : List ℕ) (j : Card)
    → (edit_card have k s e ≡ taken (b, j))
    ↔ ((c : Content) × (content_at s ≡ taken c) × Pass (edit_checks e c (apply e c)) × (length b ≤ have) × (render (apply e c) ≡ b) × Pass (card_checks k (card_of c) (card_of (apply e c))) × (moved_card k (card_of c) (card_of (apply e c)) ≡ j))
unfolding edit_card edit_card_to
card_exactly have k s e b j = (
  λ h.
      let (c, r, q) = after_taken (content_at s) (λ c. edit_card_to have k c e) h in
      let (d, i, t) = after_taken (edit_to have c e) (carded k c (apply e c)) q in
      let (p, w) = (edit_exactly_to have c e d).0 i in
      let (m, z) = checked-pass (card_checks k (card_of c) (card_of (apply e c))) (taken (d, moved_card k (card_of c) (card_of (apply e c)))) (b, j) t in
      let x : d ≡ b = ap (λ (x : List ℕ × Card). x.0) (taken_is z) in
      (c, r, p.rows, omega (arith, p.room_is, ap length w, ap length x), w ∙ x, m, ap (λ (x : List ℕ × Card). x.1) (taken_is z)),
  λ (c, r, p, n, w, m, z).
      ap (λ (o : Outcome Content). after o (λ c. edit_card_to have k c e)) r
      ∙ ap (λ (o : Outcome (List ℕ)). after o (carded k c (apply e c))) ((edit_exactly_to have c e b).1 (record { rows = p; room_is = omega (arith, ap length w) }, w))
      ∙ pass-checked (card_checks k (card_of c) (card_of (apply e c))) (taken (b, moved_card k (card_of c) (card_of (apply e c)))) m
      ∙ ap (λ (j : Card). taken (b, j)) z,
)

pub card_first : (have : ℕ) (k : Card) (s : List ℕ) (e : Edit) (n p : ℕ)
    → (edit_card have k s e ≡ refused n p)
    ↔ ((content_at s ≡ refused n p) ⊎ ((c : Content) × (content_at s ≡ taken c) × First ((edit_checks e c (apply e c) ++ room have (length (render (apply e c)))) ++ card_checks k (card_of c) (card_of (apply e c))) n p))
unfolding edit_card
card_first have k s e n p = ((λ q. there (after_refused (content_at s) (λ c. edit_card_to have k c e) n p q)), back)
  where
    rows : Content → Checks
    rows c = (edit_checks e c (apply e c) ++ room have (length (render (apply e c)))) ++ card_checks k (card_of c) (card_of (apply e c))

    there : ((content_at s ≡ refused n p) ⊎ ((c : Content) × (content_at s ≡ taken c) × (edit_card_to have k c e ≡ refused n p))) → (content_at s ≡ refused n p) ⊎ ((c : Content) × (content_at s ≡ taken c) × First (rows c) n p)
    there (inl q) = inl q
    there (inr (c, q, h)) = inr (c, q, (checked-first {A = List ℕ × Card} (rows c) (render (apply e c), moved_card k (card_of c) (card_of (apply e c))) n p).0 (sym (card_rows have k c e) ∙ h))

    back : ((content_at s ≡ refused n p) ⊎ ((c : Content) × (content_at s ≡ taken c) × First (rows c) n p)) → after (content_at s) (λ c. edit_card_to have k c e) ≡ refused n p
    back (inl q) = ap (λ (r : Outcome Content). after r (λ c. edit_card_to have k c e)) q
    back (inr (c, q, h)) = ap (λ (r : Outcome Content). after r (λ c. edit_card_to have k c e)) q ∙ card_rows have k c e ∙ (checked-first {A = List ℕ × Card} (rows c) (render (apply e c), moved_card k (card_of c) (card_of (apply e c))) n p).1 h

-- it is a call without a card
pub bare_call : {have : ℕ} {s : List ℕ} {k : Card} {e : Edit} {b : List ℕ} {j : Card} → CallBeside have s k e b j → EditCall have s e b
bare_call {have} {s} {k} {e} {b} {j} c = record { wide = c.wide; accepts = card_bytes have k j s e b c.accepts }

pub card_gives : (have : ℕ) (s : List ℕ) (k : Card) (e : Edit) (b : List ℕ) (j : Card) → CallBeside have s k e b j → (c : Content) × (content_at s ≡ taken c) × (content_at b ≡ taken (apply e c)) × IsCanonical b
card_gives have s k e b j c = let g = edit_gives have s e b (bare_call c) in (g.old, g.read, g.content_is, g.canonical_is)
