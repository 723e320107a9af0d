-- Request 12, from the laws of cards (crates/cards/proofs).
-- Assumes nothing.
use mathlib.Core.Path.{◌≡◌, refl, sym, ◌∙◌, ap, subst}
use mathlib.Core.Logic.{◌≢◌, ◌↔◌}
use mathlib.Core.Bool.{true}
use mathlib.Core.List.{List, [], ◌∷◌}
use Prim.Native.Nat.{ℕ, ◌+◌, ◌*◌}
use native.Mathlib.Omega.{arith}
use lib.ListN.{length, length-drop}
use lib.Dec.{leb}
use borrow.Author.Tests.{leb-true}
use Rattle.answer.specs.Numbers.{CARD}
use Rattle.answer.specs.Outcome.{Outcome, taken, refused, Pass, after, First}
use Rattle.answer.proofs.Checks.{and_true, checked-pass}
use Rattle.answer.proofs.Outcomes.{taken_is}
use Rattle.answer.proofs.Firsts.{checked-first, after-only}
use Rattle.wire.specs.Numbers.{Bytes, le_at}
use Rattle.order.specs.Keyed.{weigh}
use Rattle.order.proofs.Perms.{perm_length, perm_weigh}
use Rattle.entries.specs.Kinds.{devices}
use Rattle.tables.specs.declared.Table.TheVariants.{Devices}
use Rattle.tables.specs.Named.{NamesFramed, Each, IsTable}
use Rattle.aerosnap.specs.declared.NewDevice.{NewDevice}
use Rattle.aerosnap.specs.Known.{DEVICES}
use Rattle.aerosnap.specs.File.{file_of, file_most, sections_most, devices_most}
use Rattle.aerosnap.specs.Content.{Content, entries_in, content_at, content_of, canonical}
use Rattle.aerosnap.specs.Adding.{grown}
use Rattle.aerosnap.specs.Edits.{Edit, WideEdit, apply, edit_to, edit_file}
use Rattle.aerosnap.specs.Many.{new_devices, new_items, further, add_each, add_all, many}
use Rattle.aerosnap.proofs.Items.{WideNews}
use Rattle.aerosnap.specs.Tables.{section_rows}
use Rattle.aerosnap.proofs.Rows.{sections-length}
use Rattle.aerosnap.proofs.Canonical.{canonical_is}
use Rattle.aerosnap.proofs.Refusals.{Refuses}
use Rattle.aerosnap.proofs.Together.{wide_table, each_chain}
use Rattle.cards.specs.declared.Card.{Card}
use Rattle.cards.specs.Cards.{payload_size, card_of, open_file, stays, goes, card_checks, moved_card, carded, edit_card_to, edit_card, bytes_beside}
use Rattle.cards.specs.Whole.{add_all_card, many_card}
use Rattle.cards.proofs.Carded.{open_card, card_open, card_again, card_bytes}
use Rattle.cards.proofs.Walked.{Counts, open_counts}
use Rattle.cards.proofs.Whole.{all_true, all_again, all_bytes, all_no_card}
use Rattle.demands.specs.Beside.{TrueCard}
use Rattle.demands.specs.Sizes.{DevicesShown, MovesAs, Sizes}
use Rattle.demands.proofs.Demand2.{table-rows, demand2}
use Rattle.demands.proofs.Beside.{edit_as, edit_keeps, edit_never}
use Rattle.cards.proofs.Answers.{refused_beside}

-- ---- opening

pub open_faults : (s : List ℕ) (n p : ℕ) → (open_file s ≡ refused n p) ↔ (file_of s ≡ refused n p)
unfolding open_file
open_faults s n p =
    let a = after-only (content_at s) card_of n p in
    let b = after-only (file_of s) content_of n p in
    ((λ h. b.0 (a.0 h)), λ h. a.1 (b.1 h))

pub open_same : (have : ℕ) (s b : List ℕ) (k : Card) → canonical have s ≡ taken b → TrueCard s k → TrueCard b k
unfolding open_file
open_same have s b k h t = ap (λ (o : Outcome Content). after o (λ c. taken (card_of c))) (canonical_is have s b h).same ∙ t

-- the records of a table, one by one with their entries
each-length : {A B : Type 0} (R : A → B → Type 0) (l : List A) (m : List B) → Each R l m → length l ≡ length m
each-length R [] [] e = refl
each-length R [] (y ∷ m) e = absurd e
each-length R (x ∷ l) [] e = absurd e
each-length R (x ∷ l) (y ∷ m) e = omega (arith, each-length R l m e.1)

each-sum : (s : List ℕ) (rows l : List (List ℕ)) → Each (NamesFramed s) rows l → weigh (λ row. le_at 8 row 16) rows ≡ weigh payload_size l
each-sum s [] [] e = refl
each-sum s [] (y ∷ l) e = absurd e
each-sum s (x ∷ rows) [] e = absurd e
each-sum s (x ∷ rows) (y ∷ l) e = omega (arith, each-sum s rows l e.1, e.0.size, length-drop 16 y)

pub devices-shown : (k : Card) (b : List ℕ) (l : List (List ℕ)) (t : List ℕ) → Counts k b l → IsTable Devices b (entries_in DEVICES devices l) t → DevicesShown k t
devices-shown k b l t c w = record {
  rows = w.rows;
  bytes = w.bytes;
  count = each-length (NamesFramed b) w.rows w.order w.names ∙ perm_length w.once ∙ sym c.devices_are;
  sum = each-sum b w.rows w.order w.names ∙ perm_weigh payload_size w.once ∙ sym c.payloads_are;
}

-- ---- how cards move

moved_by : (lo hi a b n : ℕ) → stays lo hi a b n ≡ true → goes a b n + a ≡ n + b
moved_by lo hi a b n h = let (p, _) = and_true (leb (lo + a) (n + b)) (leb (n + b) (hi + a)) h in omega (arith, leb-true (lo + a) (n + b) p)

pub moves_as : (a b k : Card) → Pass (card_checks k a b) → MovesAs a b k (moved_card k a b)
moves_as a b k (p, (q, (r, (s, _)))) = record {
  length_moves = moved_by 16 file_most a.length b.length k.length p;
  sections_move = moved_by 0 sections_most a.sections b.sections k.sections q;
  devices_move = moved_by 0 devices.most a.devices b.devices k.devices r;
  payloads_move = moved_by 0 devices_most a.payloads b.payloads k.payloads s;
}

-- the card that comes of a change from c to u
carded_moves : (k j : Card) (c u : Content) (d b : List ℕ) (x y : Card) → card_of c ≡ x → card_of u ≡ y → carded k c u d ≡ taken (b, j) → MovesAs x y k j
carded_moves k j c u d b x y p q t =
    let (m, z) = checked-pass (card_checks k (card_of c) (card_of u)) (taken (d, moved_card k (card_of c) (card_of u))) (b, j) t in
    let i : moved_card k (card_of c) (card_of u) ≡ j = ap (λ (x : List ℕ × Card). x.1) (taken_is z) in
    subst (λ (y : Card). MovesAs x y k j) q (subst (λ (x : Card). MovesAs x (card_of u) k j) p (subst (λ (j : Card). MovesAs (card_of c) (card_of u) k j) i (moves_as (card_of c) (card_of u) k m)))

-- and when it refuses
carded-first : (k : Card) (c u : Content) (d : List ℕ) (x y : Card) (p : ℕ) → card_of c ≡ x → card_of u ≡ y → (carded k c u d ≡ refused CARD p) ↔ First (card_checks k x y) CARD p
carded-first k c u d x y p e f =
    subst (λ (y : Card). (carded k c u d ≡ refused CARD p) ↔ First (card_checks k x y) CARD p) f (subst (λ (x : Card). (carded k c u d ≡ refused CARD p) ↔ First (card_checks k x (card_of u)) CARD p) e
    (checked-first {A = List ℕ × Card} (card_checks k (card_of c) (card_of u)) (d, moved_card k (card_of c) (card_of u)) CARD p))

-- ---- an edit

-- the contents before and after it, and what the card says
record EditCards (have : ℕ) (k : Card) (s : List ℕ) (e : Edit) (b : List ℕ) (x y : Card) : Type 0 where
  old : Content
  before : card_of old ≡ x
  behind : card_of (apply e old) ≡ y
  same : edit_card have k s e ≡ carded k old (apply e old) b

edit_between : (have : ℕ) (k : Card) (s : List ℕ) (e : Edit) (b : List ℕ) (x y : Card) → WideEdit e → TrueCard s x → edit_file have s e ≡ taken b → TrueCard b y → EditCards have k s e b x y
unfolding edit_card edit_card_to edit_file
edit_between have k s e b x y w t h u =
    let (c, r, i) = card_open s x t in
    let q : edit_to have c e ≡ taken b = rw r at h in
    record {
      old = c;
      before = i;
      behind = taken_is (sym (card_again have s c e b r w h) ∙ u);
      same = ap (λ (o : Outcome Content). after o (λ c. edit_card_to have k c e)) r ∙ ap (λ (o : Outcome (List ℕ)). after o (carded k c (apply e c))) q;
    }

pub edit_moves : (have : ℕ) (k j : Card) (s : List ℕ) (e : Edit) (b : List ℕ) (x y : Card) → WideEdit e → edit_card have k s e ≡ taken (b, j) → TrueCard s x → TrueCard b y → MovesAs x y k j
edit_moves have k j s e b x y w h t u =
    let g = edit_between have k s e b x y w t (card_bytes have k j s e b h) u in
    carded_moves k j g.old (apply e g.old) b b x y g.before g.behind (sym g.same ∙ h)

pub edit_last : (have : ℕ) (k : Card) (s : List ℕ) (e : Edit) (p : ℕ) (x y : Card) (b : List ℕ) → WideEdit e → TrueCard s x → edit_file have s e ≡ taken b → TrueCard b y → (edit_card have k s e ≡ refused CARD p) ↔ First (card_checks k x y) CARD p
edit_last have k s e p x y b w t h u =
    let g = edit_between have k s e b x y w t h u in
    let f = carded-first k g.old (apply e g.old) b x y p g.before g.behind in
    ((λ q. f.0 (sym g.same ∙ q)), λ q. g.same ∙ f.1 q)

-- ---- many at once

-- what is taken has index 0
all_zero : (have : ℕ) (s : List ℕ) (l : List NewDevice) (store : List ℕ) (b : List ℕ) → WideNews l → (add_all have s l store).1 ≡ taken b → (add_all have s l store).0 ≡ 0
unfolding add_all
all_zero have s [] store b w h = refl
all_zero have s (x ∷ l) store b w h = (each_chain have s 0 (x ∷ l) store (add_each have s 0 (x ∷ l) store).0 b w (λ i. ((add_each have s 0 (x ∷ l) store).0, h i))).0

pub many-zero : (have : ℕ) (s t store : List ℕ) (b : List ℕ) → Bytes t → (many have s t store).1 ≡ taken b → many have s t store ≡ (0, taken b)
many-zero have s t store b y h = let z = all_zero have s (new_devices t) store b (wide_table t y) h in λ i. (z i, h i)

pub many_as : (have : ℕ) (s t store : List ℕ) (k : Card) → Bytes t → TrueCard s k → ((many_card have k s t store).0 ≡ (many have s t store).0) × (bytes_beside (many_card have k s t store).1 ≡ (many have s t store).1)
many_as have s t store k y h =
    let (c, r, i) = card_open s k h in
    let j : Card = card_of (grown c (new_items store (new_devices t))) in
    let e : many_card have k s t store ≡ further (many have s t store) (λ b. (0, taken (b, j))) =
    ap (λ (k : Card). many_card have k s t store) (sym i) ∙ all_true have s c (new_devices t) store r (wide_table t y) in
    let (a, b) = go j (many have s t store) (λ b q. all_zero have s (new_devices t) store b (wide_table t y) q) in
    (ap (λ (q : ℕ × Outcome (List ℕ × Card)). q.0) e ∙ a, ap (λ (q : ℕ × Outcome (List ℕ × Card)). bytes_beside q.1) e ∙ b)
  where
    go : (j : Card) (q : ℕ × Outcome (List ℕ)) → ((b : List ℕ) → q.1 ≡ taken b → q.0 ≡ 0)
        → ((further {B = List ℕ × Card} q (λ b. (0, taken (b, j)))).0 ≡ q.0) × (bytes_beside (further q (λ b. (0, taken (b, j)))).1 ≡ q.1)
    go j (i, taken b) f = (sym (f b refl), refl)
    go j (i, refused n p) f = (refl, refl)

pub many_keeps : (have : ℕ) (s t store : List ℕ) (k : Card) (i : ℕ) (b : List ℕ) (j : Card) → Bytes t → TrueCard s k → many_card have k s t store ≡ (i, taken (b, j)) → TrueCard b j
many_keeps have s t store k i b j y h q =
    let (c, r, z) = card_open s k h in
    let l = new_devices t in
    let u : Card = card_of (grown c (new_items store l)) in
    let (_, m) = all_bytes have k s l store i b j q in
    let n : add_all have s l store ≡ (0, taken b) = many-zero have s t store b y m in
    let e : many_card have k s t store ≡ (0, taken (b, u)) =
    ap (λ (k : Card). many_card have k s t store) (sym z) ∙ all_true have s c l store r (wide_table t y) ∙ ap (λ (q : ℕ × Outcome (List ℕ)). further q (λ b. (0, taken (b, u)))) n in
    let w : ◌≡◌ {A = Outcome (List ℕ × Card)} (taken (b, u)) (taken (b, j)) = ap (λ (q : ℕ × Outcome (List ℕ × Card)). q.1) (sym e ∙ q) in
    all_again have s c l store 0 b r (wide_table t y) n ∙ ap taken (ap (λ (x : List ℕ × Card). x.1) (taken_is w))

pub many_never : (have : ℕ) (s t store : List ℕ) (k : Card) (i n p : ℕ) → Bytes t → TrueCard s k → many_card have k s t store ≡ (i, refused n p) → n ≢ CARD
many_never have s t store k i n p y h q =
    let (c, r, z) = card_open s k h in
    subst (λ (o : Outcome (List ℕ × Card)). Refuses (λ n. n ≢ CARD) o) (ap (λ (k : Card). (many_card have k s t store).1) z ∙ ap (λ (q : ℕ × Outcome (List ℕ × Card)). q.1) q) (all_no_card have s c (new_devices t) store r (wide_table t y))

-- the contents before and after it, and what the card says
record TableCards (have : ℕ) (k : Card) (s t store b : List ℕ) (x y : Card) : Type 0 where
  old : Content
  before : card_of old ≡ x
  behind : card_of (grown old (new_items store (new_devices t))) ≡ y
  same : many_card have k s t store ≡ (0, carded k old (grown old (new_items store (new_devices t))) b)

many_between : (have : ℕ) (k : Card) (s t store b : List ℕ) (x y : Card) → Bytes t → TrueCard s x → (many have s t store).1 ≡ taken b → TrueCard b y → TableCards have k s t store b x y
unfolding add_all_card
many_between have k s t store b x y v h q u =
    let (c, r, i) = card_open s x h in
    let l = new_devices t in
    let n : add_all have s l store ≡ (0, taken b) = many-zero have s t store b v q in
    record {
      old = c;
      before = i;
      behind = taken_is (sym (all_again have s c l store 0 b r (wide_table t v) n) ∙ u);
      same = ap (λ (o : Outcome Content). further (0, o) (λ c. further (add_all have s l store) (λ b. (0, carded k c (grown c (new_items store l)) b)))) r
          ∙ ap (λ (q : ℕ × Outcome (List ℕ)). further q (λ b. (0, carded k c (grown c (new_items store l)) b))) n;
    }

pub many_moves : (have : ℕ) (k j : Card) (s t store : List ℕ) (i : ℕ) (b : List ℕ) (x y : Card) → Bytes t → many_card have k s t store ≡ (i, taken (b, j)) → TrueCard s x → TrueCard b y → MovesAs x y k j
many_moves have k j s t store i b x y v h q u =
    let g = many_between have k s t store b x y v q (all_bytes have k s (new_devices t) store i b j h).1 u in
    carded_moves k j g.old (grown g.old (new_items store (new_devices t))) b b x y g.before g.behind (ap (λ (q : ℕ × Outcome (List ℕ × Card)). q.1) (sym g.same ∙ h))

pub many_last : (have : ℕ) (k : Card) (s t store : List ℕ) (i p : ℕ) (x y : Card) (b : List ℕ) → Bytes t → TrueCard s x → (many have s t store).1 ≡ taken b → TrueCard b y
    → (many_card have k s t store ≡ (i, refused CARD p)) ↔ ((i ≡ 0) × First (card_checks k x y) CARD p)
many_last have k s t store i p x y b v h q u =
    let g = many_between have k s t store b x y v h q u in
    let f = carded-first k g.old (grown g.old (new_items store (new_devices t))) b x y p g.before g.behind in (
      (λ z. let w = sym g.same ∙ z in (sym (ap (λ (q : ℕ × Outcome (List ℕ × Card)). q.0) w), f.0 (ap (λ (q : ℕ × Outcome (List ℕ × Card)). q.1) w))),
      λ (e, z). g.same ∙ (λ x. (sym e x, f.1 z x)),
    )

pub sizes : Sizes
sizes = record {
  opens = λ s l h. (card_of (content_of l), open_card s (content_of l) (ap (λ (o : Outcome (List (List ℕ))). after o (λ l. taken (content_of l))) h));
  faults = open_faults;
  same = open_same;
  walked = λ have s b k h t. let (l, c) = open_counts have s b k h t in (c.length_is, (l, c.reads, c.sections_are));
  sections = λ have room s b t k h y q.
      let (l, c) = open_counts have s b k h y in
      let (m, e, w) = table-rows (section_rows 16 0) room b t q in
      let i : l ≡ m = taken_is (sym c.reads ∙ e) in
      sym (ap length w) ∙ sections-length 16 0 m ∙ ap (λ (n : ℕ). 32 * n) (sym (ap length i) ∙ sym c.sections_are);
  devices = λ have room s b t k y h z q.
      let (l, c) = open_counts have s b k h z in
      let (m, e, w) = demand2.tables.devices_are room b t y q in
      devices-shown k b m t (subst (Counts k b) (taken_is (sym c.reads ∙ e)) c) w;
  as_without = edit_as;
  stays_true = edit_keeps;
  never = edit_never;
  bytes = card_bytes;
  moves = edit_moves;
  refused_so = λ have k s e n p. refused_beside have k s e;
  card = edit_last;
  many_as_without = many_as;
  many-stays_true = many_keeps;
  many_never = many_never;
  many-bytes = λ have k j s t store i b h. all_bytes have k s (new_devices t) store i b j h;
  many_moves = many_moves;
  many-card = many_last;
  on_list = refl;
}
