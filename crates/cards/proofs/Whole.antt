-- Many at once beside a card: beside a true one it answers as without, 28 never comes, and the card that comes back is the true one of the whole; the bytes never depend on the card.
-- Assumes nothing.
use mathlib.Core.Path.{◌≡◌, refl, sym, ◌∙◌, ap}
use mathlib.Core.Logic.{◌≢◌}
use mathlib.Core.List.{List, [], ◌∷◌, ◌++◌, map}
use Prim.Native.Nat.{ℕ, ◌+◌}
use native.Mathlib.Omega.{arith}
use lib.ListN.{take, drop}
use Rattle.answer.specs.Numbers.{CARD}
use Rattle.answer.specs.Outcome.{Outcome, taken, refused}
use Rattle.order.specs.Keyed.{weigh}
use Rattle.order.proofs.Folds.{weigh-append}
use Rattle.order.proofs.Perms.{perm_weigh}
use Rattle.order.proofs.Sorts.{sort_perm}
use Rattle.entries.specs.Kinds.{devices}
use Rattle.aerosnap.specs.declared.NewDevice.{NewDevice}
use Rattle.aerosnap.specs.Content.{Content, content_at}
use Rattle.aerosnap.specs.Adding.{device_entries, grown}
use Rattle.aerosnap.specs.Many.{new_items, Inside, further, add_all, Tally}
use Rattle.aerosnap.proofs.Items.{WideNews}
use Rattle.aerosnap.proofs.Back.{read_back}
use Rattle.aerosnap.proofs.Refusals.{Refuses}
use Rattle.aerosnap.proofs.Framed.{length-framed}
use Rattle.aerosnap.proofs.Together.{further_taken, further_same, all_refuses}
use Rattle.aerosnap.proofs.Counted.{part_length, all_taken, PassGives}
use Rattle.aerosnap.proofs.Merging.{new_entry, news-devices}
use Rattle.cards.specs.declared.Card.{Card}
use Rattle.cards.specs.Cards.{payload_size, card_of, open_file, carded}
use Rattle.cards.specs.Whole.{add_all_card}
use Rattle.cards.proofs.Carded.{open_card, carded_true, carded-bytes, fault_no_card}

-- Beside a true card it answers as without one; taken, it hands back the true card of what it wrote.
pub all_true : (have : ℕ) (s : List ℕ) (c : Content) (l : List NewDevice) (store : List ℕ) → content_at s ≡ taken c → WideNews l
    → add_all_card have (card_of c) s l store ≡ further (add_all have s l store) (λ b. (0, taken (b, card_of (grown c (new_items store l)))))
unfolding add_all_card
all_true have s c l store e w =
    rw e (further_same (add_all have s l store) _ _ (λ b h. ap (λ (o : Outcome (List ℕ × Card)). (0, o)) (carded_true c (grown c (new_items store l)) b (all_taken have s c l store b e w h).canon)))

-- that card is the one that opening the new file makes
pub all_again : (have : ℕ) (s : List ℕ) (c : Content) (l : List NewDevice) (store : List ℕ) (j : ℕ) (b : List ℕ) → content_at s ≡ taken c → WideNews l → add_all have s l store ≡ (j, taken b)
    → open_file b ≡ taken (card_of (grown c (new_items store l)))
all_again have s c l store j b e w h =
    let g = all_taken have s c l store b e w (ap (λ (q : ℕ × Outcome (List ℕ)). q.1) h) in
    open_card b (grown c (new_items store l)) (ap content_at (sym g.writes) ∙ read_back (grown c (new_items store l)) g.canon)

-- the bytes don't depend on the card, and the index of what is taken is 0
pub all_bytes : (have : ℕ) (k : Card) (s : List ℕ) (l : List NewDevice) (store : List ℕ) (i : ℕ) (b : List ℕ) (j : Card) → add_all_card have k s l store ≡ (i, taken (b, j)) → (i ≡ 0) × ((add_all have s l store).1 ≡ taken b)
unfolding add_all_card
all_bytes have k s l store i b j h =
    let (c, _, q) = further_taken (0, content_at s) (λ c. further (add_all have s l store) (λ b. (0, carded k c (grown c (new_items store l)) b))) h in
    let (d, e, t) = further_taken (add_all have s l store) (λ b. (0, carded k c (grown c (new_items store l)) b)) q in
    (sym (ap (λ (q : ℕ × Outcome (List ℕ × Card)). q.0) t), e ∙ ap taken (carded-bytes k c (grown c (new_items store l)) d b j (ap (λ (q : ℕ × Outcome (List ℕ × Card)). q.1) t)))

-- Beside a true card 28 never comes.
pub all_no_card : (have : ℕ) (s : List ℕ) (c : Content) (l : List NewDevice) (store : List ℕ) → content_at s ≡ taken c → WideNews l → Refuses (λ n. n ≢ CARD) (add_all_card have (card_of c) s l store).1
all_no_card have s c l store e w =
    rw (all_true have s c l store e w) (go (add_all have s l store) (all_refuses (λ n. n ≢ CARD) fault_no_card (λ q. omega arith) (λ q. omega arith) (λ q. omega arith) (λ q. omega arith) have s l store))
  where
    go : (p : ℕ × Outcome (List ℕ)) → Refuses (λ n. n ≢ CARD) p.1 → Refuses (λ n. n ≢ CARD) {A = List ℕ × Card} (further p (λ b. (0, taken (b, card_of (grown c (new_items store l)))))).1
    go (i, taken b) h = tt
    go (i, refused n p) h = h

-- ---- the card of the whole, by the numbers that the pass ends with

-- the payloads together grow by what the entries say
pub grown_payloads : (c : Content) (l : List NewDevice) (store : List ℕ) → Inside store l → weigh payload_size (grown c (new_items store l)).devices ≡ weigh payload_size c.devices + weigh (λ x. x.length) l
grown_payloads c l store h =
    let e : List (List ℕ) = device_entries (new_items store l) in
    omega (
      arith,
      perm_weigh payload_size (sort_perm devices.key (e ++ c.devices)),
      weigh-append payload_size e c.devices,
      ap (weigh payload_size) (news-devices store l) ∙ lengths l h,
    )
  where
    lengths : (l : List NewDevice) → Inside store l → weigh payload_size (map (new_entry store) l) ≡ weigh (λ x. x.length) l
    lengths [] h = refl
    lengths (x ∷ l) h = omega (arith, lengths l h.1, part_length store x h.0, length-framed x.id x.version x.flags (take x.length (drop x.place store)))

pub pass_card : (store : List ℕ) (c : Content) (l : List NewDevice) (j : ℕ) (k : Tally) → PassGives store c l j k
    → card_of (grown c (new_items store l)) ≡ record { length = k.size; sections = k.sections; devices = k.count; payloads = (card_of c).payloads + weigh (λ x. x.length) l }
pass_card store c l j k g =
    let z = g.size_is in
    let n = g.sections_are in
    let d = g.count_is in
    let p = grown_payloads c l store g.inside in
    λ i. record { length = sym z i; sections = sym n i; devices = sym d i; payloads = p i }
