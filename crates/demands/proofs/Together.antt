-- Request 8, from the laws of tables (crates/aerosnap/proofs, Together, Counted, Rooms) and of the card of the whole (Sizes).
-- Assumes nothing.
use mathlib.Core.Path.{◌≡◌, refl, sym, ◌∙◌, ap, subst}
use mathlib.Core.Logic.{◌↔◌, ◌⊎◌, inl, inr}
use mathlib.Core.List.{List, [], ◌∷◌, ◌++◌, Permᴰ, Perm}
use Prim.Native.Nat.{ℕ, ◌≤◌, ◌<◌}
use native.Mathlib.Omega.{arith}
use lib.ListN.{length, take, drop}
use lib.Seq.{take-append_seam}
use Rattle.answer.specs.Numbers.{PAYLOAD}
use Rattle.answer.specs.Outcome.{Outcome, taken, refused, Checks, checked, after, room, First}
use Rattle.answer.specs.Calls.{memory}
use Rattle.answer.proofs.Checks.{checked-append}
use Rattle.answer.proofs.Outcomes.{taken_is}
use Rattle.answer.proofs.Firsts.{checked-first, after_refused}
use Rattle.wire.specs.Numbers.{Bytes}
use Rattle.order.specs.Keyed.{Every}
use Rattle.order.specs.Adding.{Chain}
use Rattle.aerosnap.specs.declared.NewDevice.{NewDevice}
use Rattle.aerosnap.specs.Content.{Content, content_at, render, canonical, IsCanonical}
use Rattle.aerosnap.specs.Adding.{grown}
use Rattle.aerosnap.specs.Edits.{add, apply, edit_checks, edit_to, add_to, Call}
use Rattle.aerosnap.specs.Many.{new_devices, is_inside, new_item, new_items, Inside, new_calls, further, add_new, RefusedAt, add_all, many}
use Rattle.aerosnap.proofs.Items.{WideNews}
use Rattle.aerosnap.proofs.Back.{read_back}
use Rattle.aerosnap.proofs.AnyOrder.{render-canonical}
use Rattle.aerosnap.proofs.Together.{wide_table, count-news, part_record, all_refused, all_added, any-table, no_two_tables}
use Rattle.aerosnap.proofs.Counted.{all_faults, one-pass, no_entries, all_taken, index_small}
use Rattle.aerosnap.proofs.Rooms.{many-room}
use Rattle.cards.specs.declared.Card.{Card}
use Rattle.cards.specs.declared.Edited.{Edited}
use Rattle.cards.specs.Cards.{card_of, bytes_beside, answer_beside, WritesBeside}
use Rattle.cards.specs.Whole.{add_all_card, many_card}
use Rattle.cards.proofs.Carded.{card_open}
use Rattle.cards.proofs.Whole.{all_true, all_again, all_bytes}
use Rattle.newcomers.specs.Records.{records_of, WideEntry}
use Rattle.newcomers.proofs.First.{entries_back, first-entries}
use Rattle.demands.specs.Beside.{TrueCard}
use Rattle.demands.specs.Together.{Together}
use Rattle.demands.proofs.Demand1.{demand1}
use Rattle.demands.proofs.Sizes.{many-zero, many_keeps}

-- ---- tables with an entry, and with none

-- a table of 24 bytes or more has an entry
some_entry : (P : List NewDevice → Type 0) (t : List ℕ) → 24 ≤ length t → ((x : NewDevice) (l : List NewDevice) → P (x ∷ l)) → P (new_devices t)
some_entry P t h f = go (new_devices t) (omega (arith, count-news t))
  where
    go : (l : List NewDevice) → 1 ≤ length l → P l
    go [] h = absurd (omega arith)
    go (x ∷ l) h = f x l

no_entry : (t : List ℕ) → length t < 24 → new_devices t ≡ []
no_entry t h = go (new_devices t) (omega (arith, count-news t))
  where
    go : (l : List NewDevice) → length l ≡ 0 → l ≡ []
    go [] h = refl
    go (x ∷ l) h = absurd (omega arith)

none : (have : ℕ) (s t store : List ℕ) → length t < 24 → many have s t store ≡ (0, canonical have s)
none have s t store h = ap (λ (l : List NewDevice). add_all have s l store) (no_entry t h) ∙ no_entries have s store

taken_as : (have : ℕ) (s t store : List ℕ) (i : ℕ) (b : List ℕ) → Bytes t → 24 ≤ length t → (many have s t store ≡ (i, taken b)) ↔ ((i ≡ 0) × Inside store (new_devices t) × Chain Call s (new_calls have store (new_devices t)) b)
taken_as have s t store i b y h =
    some_entry (λ l. WideNews l → (add_all have s l store ≡ (i, taken b)) ↔ ((i ≡ 0) × Inside store l × Chain Call s (new_calls have store l) b)) t h (λ x l w. all_added have s x l store i b w) (wide_table t y)

refused_as : (have : ℕ) (s t store : List ℕ) (i n p : ℕ) → Bytes t → 24 ≤ length t → (many have s t store ≡ (i, refused n p)) ↔ RefusedAt have s (new_devices t) store i n p
refused_as have s t store i n p y h =
    some_entry (λ l. WideNews l → (add_all have s l store ≡ (i, refused n p)) ↔ RefusedAt have s l store i n p) t h (λ x l w. all_refused have s x l store i n p w) (wide_table t y)

-- ---- one entry

entry_first : (have : ℕ) (s store : List ℕ) (x : NewDevice) (n p : ℕ)
    → (add_new have s store x ≡ refused n p)
    ↔ ((content_at s ≡ refused n p)
    ⊎ ((c : Content) × (content_at s ≡ taken c) × First ((is_inside store x, PAYLOAD, 0) ∷ (edit_checks (add (new_item store x)) c (apply (add (new_item store x)) c) ++ room have (length (render (apply (add (new_item store x)) c))))) n p))
unfolding add_new edit_to
entry_first have s store x n p = ((λ q. there (after_refused (content_at s) new n p q)), back)
  where
    u : Content → Content
    u c = apply (add (new_item store x)) c

    edits : Content → Checks
    edits c = edit_checks (add (new_item store x)) c (u c)

    rows : Content → Checks
    rows c = (is_inside store x, PAYLOAD, 0) ∷ (edits c ++ room have (length (render (u c))))

    new : Content → Outcome (List ℕ)
    new c = checked ((is_inside store x, PAYLOAD, 0) ∷ []) (add_to have c (new_item store x))

    joined : (c : Content) → new c ≡ checked (rows c) (taken (render (u c)))
    joined c = ap (checked ((is_inside store x, PAYLOAD, 0) ∷ [])) (sym (checked-append (edits c) (room have (length (render (u c)))) (taken (render (u c)))))

    there : ((content_at s ≡ refused n p) ⊎ ((c : Content) × (content_at s ≡ taken c) × (new c ≡ refused n p))) → (content_at s ≡ refused n p) ⊎ ((c : Content) × (content_at s ≡ taken c) × First (rows c) n p)
    there (inl q) = inl q
    there (inr (c, q, h)) = inr (c, q, (checked-first (rows c) (render (u c)) n p).0 (sym (joined c) ∙ h))

    back : ((content_at s ≡ refused n p) ⊎ ((c : Content) × (content_at s ≡ taken c) × First (rows c) n p)) → after (content_at s) new ≡ refused n p
    back (inl q) = ap (λ (r : Outcome Content). after r new) q
    back (inr (c, q, h)) = ap (λ (r : Outcome Content). after r new) q ∙ joined c ∙ (checked-first (rows c) (render (u c)) n p).1 h

-- ---- the whole

final : (have : ℕ) (s t store : List ℕ) (i : ℕ) (b : List ℕ) (c : Content) → Bytes t → content_at s ≡ taken c → many have s t store ≡ (i, taken b)
    → (content_at b ≡ taken (grown c (new_items store (new_devices t)))) × (render (grown c (new_items store (new_devices t))) ≡ b) × IsCanonical b
final have s t store i b c y r h =
    let u : Content = grown c (new_items store (new_devices t)) in
    let g = all_taken have s c (new_devices t) store b r (wide_table t y) (ap (λ (q : ℕ × Outcome (List ℕ)). q.1) h) in
    (ap content_at (sym g.writes) ∙ read_back u g.canon, g.writes, subst IsCanonical g.writes (render-canonical u g.canon))

-- taken without a card, it is taken beside the true one
many_true : (have : ℕ) (s t store : List ℕ) (k : Card) (b : List ℕ) (j : Card) → Bytes t → TrueCard s k → many have s t store ≡ (0, taken b) → TrueCard b j → many_card have k s t store ≡ (0, taken (b, j))
many_true have s t store k b j y h q u =
    let (c, r, z) = card_open s k h in
    let l = new_devices t in
    let v : Card = card_of (grown c (new_items store l)) in
    let i : v ≡ j = taken_is (sym (all_again have s c l store 0 b r (wide_table t y) q) ∙ u) in
    ap (λ (k : Card). many_card have k s t store) (sym z) ∙ all_true have s c l store r (wide_table t y) ∙ ap (λ (q : ℕ × Outcome (List ℕ)). further q (λ b. (0, taken (b, v)))) q ∙ ap (λ (j : Card). (0, taken (b, j))) i

any_order : (have room : ℕ) (s t u store other : List ℕ) (k : Card) (i : ℕ) (b : List ℕ) (j : Card) → IsCanonical s → TrueCard s k → Bytes t → Bytes u → many_card have k s t store ≡ (i, taken (b, j))
    → Permᴰ (new_items store (new_devices t)) (new_items other (new_devices u)) → Inside other (new_devices u) → length b ≤ room → many_card room k s u other ≡ (0, taken (b, j))
any_order have room s t u store other k i b j o h y v q p n m =
    let (_, e) = all_bytes have k s (new_devices t) store i b j q in
    many_true room s u other k b j v h (any-table have room s t u store other 0 b o y (many-zero have s t store b y e) p n m) (many_keeps have s t store k i b j y h q)

no_two : (have room : ℕ) (s t u store other : List ℕ) (k : Card) (i j : ℕ) (b : List ℕ) (x y : Card) → IsCanonical s → TrueCard s k → Bytes t → Bytes u → many_card have k s t store ≡ (i, taken (b, x)) → many_card room k s u other ≡ (j, taken (b, y))
    → Perm (new_items store (new_devices t)) (new_items other (new_devices u))
no_two have room s t u store other k i j b x y o h v w p q =
    let (_, e) = all_bytes have k s (new_devices t) store i b x p in
    let (_, f) = all_bytes room k s (new_devices u) other j b y q in
    no_two_tables have room s t u store other 0 0 b o v w (many-zero have s t store b v e) (many-zero room s u other b w f)

made : (s t store : List ℕ) → Bytes t → (k : Card) (old new : List ℕ) (r : Edited) → WritesBeside k (many_card (length old) k s t store) old r new → r.number ≡ 0
    → many_card (length old) k s t store ≡ (0, taken (take r.place new, r.card))
made s t store y k old new r x z =
    let (b, h, _, i, p, m) = (demand1.many s t store y).writes k old new r x z in
    let e : take r.place new ≡ b = ap (λ (n : ℕ). take n new) p ∙ ap (take (length b)) m ∙ take-append_seam b (drop (length b) old) in
    let (n, _) = all_bytes (length old) k s (new_devices t) store (many_card (length old) k s t store).0 b r.card (λ x. ((many_card (length old) k s t store).0, h x)) in
    let w : many_card (length old) k s t store ≡ (0, taken (b, r.card)) = λ x. (n x, h x) in
    w ∙ ap (λ (b : List ℕ). (0, taken (b, r.card))) (sym e)

makes : (s t store : List ℕ) (k : Card) (old new : List ℕ) (r : Edited) (i : ℕ) (b : List ℕ) (j : Card) → many_card (length old) k s t store ≡ (i, taken (b, j)) → WritesBeside k (many_card (length old) k s t store) old r new
    → (r.number ≡ 0) × (r.index ≡ 0) × (take r.place new ≡ b) × (r.card ≡ j)
makes s t store k old new r i b j h x =
    let (z, _) = all_bytes (length old) k s (new_devices t) store i b j h in
    let e : r ≡ answer_beside k i (taken (b, j)) = x.answers ∙ ap (λ (q : ℕ × Outcome (List ℕ × Card)). answer_beside k q.0 q.1) h in
    let m : new ≡ memory (taken b) old = x.leaves ∙ ap (λ (q : ℕ × Outcome (List ℕ × Card)). memory (bytes_beside q.1) old) h in
    let p : r.place ≡ length b = ap (λ (y : Edited). y.place) e in
    (ap (λ (y : Edited). y.number) e, ap (λ (y : Edited). y.index) e ∙ z, ap (λ (n : ℕ). take n new) p ∙ ap (take (length b)) m ∙ take-append_seam b (drop (length b) old), ap (λ (y : Edited). y.card) e)

structs : (have : ℕ) (k : Card) (s : List ℕ) (l : List NewDevice) (store : List ℕ) → Every WideEntry l → (new_devices (records_of l) ≡ l) × (add_all_card have k s l store ≡ many_card have k s (records_of l) store)
structs have k s l store w = let e = entries_back l w in (e, ap (λ (m : List NewDevice). add_all_card have k s m store) (sym e))

pub together : Together
together = record {
  count = count-news;
  part = part_record;
  none = none;
  taken_as = taken_as;
  refused_as = refused_as;
  entry = entry_first;
  faults = λ have s t store n p h. all_faults have s (new_devices t) store n p h;
  small = λ have s t store y. index_small have s (new_devices t) store (wide_table t y);
  room_is = λ have s t store i p y h. many-room have s (new_devices t) store i p (wide_table t y) h;
  one-pass = λ have s t store y. one-pass have s (new_devices t) store (wide_table t y);
  final = final;
  any-table = any_order;
  no_two_tables = no_two;
  made = made;
  makes = makes;
  structs = structs;
  first = first-entries;
  on_list = refl;
}
