-- Beside a true card an edit answers as without one, so that 28 never comes, and the card that comes back is true again. The bytes never depend on the card.
-- Assumes nothing.
use mathlib.Core.Path.{◌≡◌, refl, sym, ◌∙◌, ap}
use mathlib.Core.Logic.{◌≢◌}
use mathlib.Core.Bool.{true, not}
use mathlib.Core.List.{List, [], ◌∷◌}
use Prim.Native.Nat.{ℕ, ◌+◌, ◌≤◌}
use native.Mathlib.Omega.{arith}
use lib.ListN.{length, length-append}
use lib.Dec.{eqb}
use borrow.Author.Tests.{le-leb}
use Rattle.answer.specs.Numbers.{CARD, faults, is_fault}
use Rattle.answer.specs.Outcome.{Outcome, taken, refused, Pass, after}
use Rattle.answer.proofs.Checks.{pass-checked, checked-pass}
use Rattle.answer.proofs.Outcomes.{taken_is, after_taken}
use Rattle.answer.proofs.Table.{among_all}
use Rattle.order.specs.Keyed.{weigh}
use Rattle.entries.specs.Kinds.{devices}
use Rattle.lists.specs.Lists.{list_bytes}
use Rattle.lists.proofs.Written.{length_list}
use Rattle.aerosnap.specs.File.{file_most, sections_most, devices_most}
use Rattle.aerosnap.specs.Content.{Content, content_at}
use Rattle.aerosnap.specs.Edits.{Edit, WideEdit, apply, edit_to, edit_file}
use Rattle.aerosnap.proofs.Canon.{Canon, length-render}
use Rattle.aerosnap.proofs.Back.{read_back}
use Rattle.aerosnap.proofs.Canonical.{content_is}
use Rattle.aerosnap.proofs.Passing.{edit_exactly_to}
use Rattle.aerosnap.proofs.Edited.{canon_apply}
use Rattle.aerosnap.proofs.Refusals.{Refuses, after_refuses}
use Rattle.aerosnap.proofs.Named.{edit_refuses}
use Rattle.cards.specs.declared.Card.{Card}
use Rattle.cards.specs.Cards.{payload_size, card_of, open_file, stays, goes, card_checks, moved_card, carded, edit_card_to, edit_card}

-- ---- a true card

-- each number of a card is within its bounds
pub record InBounds (k : Card) : Type 0 where
  pub shortest : 16 ≤ k.length
  pub length_in : k.length ≤ file_most
  pub sections-in : k.sections ≤ sections_most
  pub devices_in : k.devices ≤ devices.most
  pub payloads_in : k.payloads ≤ devices_most

payloads_less : (l : List (List ℕ)) → weigh payload_size l ≤ weigh length l
payloads_less [] = omega arith
payloads_less (e ∷ l) = omega (arith, payloads_less l)

pub card_bounds : (c : Content) → Canon c → InBounds (card_of c)
card_bounds c h = record {
  shortest = omega (arith, length-render c);
  length_in = h.fits.long;
  sections-in = h.fits.many;
  devices_in = h.fits.many-devices;
  payloads_in = omega (arith, h.fits.long_devices, length-append (list_bytes c.devices) c.device_tail, length_list c.devices, payloads_less c.devices);
}

-- opening a file makes the true card of what it holds
pub open_card : (s : List ℕ) (c : Content) → content_at s ≡ taken c → open_file s ≡ taken (card_of c)
unfolding open_file
open_card s c r = ap (λ (o : Outcome Content). after o (λ c. taken (card_of c))) r

pub card_open : (s : List ℕ) (k : Card) → open_file s ≡ taken k → (c : Content) × (content_at s ≡ taken c) × (card_of c ≡ k)
unfolding open_file
card_open s k h = let (c, r, e) = after_taken (content_at s) (λ c. taken (card_of c)) h in (c, r, taken_is e)

-- ---- how it moves

stays_true : (lo hi a b : ℕ) → lo ≤ b → b ≤ hi → stays lo hi a b a ≡ true
stays_true lo hi a b h k =
    let f : lo + a ≤ a + b = omega arith in
    let g : a + b ≤ hi + a = omega arith in
    rw (le-leb (lo + a) (a + b) f, le-leb (a + b) (hi + a) g)

pub card_passes : (a b : Card) → InBounds b → Pass (card_checks a a b)
card_passes a b w = (
  stays_true 16 file_most a.length b.length w.shortest w.length_in,
  (
    stays_true 0 sections_most a.sections b.sections (omega arith) w.sections-in,
    (
      stays_true 0 devices.most a.devices b.devices (omega arith) w.devices_in,
      (stays_true 0 devices_most a.payloads b.payloads (omega arith) w.payloads_in, tt),
    ),
  ),
)

goes_true : (a b : ℕ) → goes a b a ≡ b
goes_true a b = omega arith

pub card_moves : (a b : Card) → moved_card a a b ≡ b
card_moves a b =
    let s = goes_true a.length b.length in
    let n = goes_true a.sections b.sections in
    let d = goes_true a.devices b.devices in
    let p = goes_true a.payloads b.payloads in
    λ i. record { length = s i; sections = n i; devices = d i; payloads = p i }

pub carded_true : (c u : Content) (b : List ℕ) → Canon u → carded (card_of c) c u b ≡ taken (b, card_of u)
carded_true c u b h = pass-checked (card_checks (card_of c) (card_of c) (card_of u)) _ (card_passes (card_of c) (card_of u) (card_bounds u h)) ∙ ap (λ (k : Card). taken (b, k)) (card_moves (card_of c) (card_of u))

-- whatever the card is, the bytes stay
pub carded-bytes : (k : Card) (c u : Content) (d b : List ℕ) (j : Card) → carded k c u d ≡ taken (b, j) → d ≡ b
carded-bytes k c u d b j t =
    let (_, z) = checked-pass (card_checks k (card_of c) (card_of u)) (taken (d, moved_card k (card_of c) (card_of u))) (b, j) t in
    ap (λ (x : List ℕ × Card). x.0) (taken_is z)

-- ---- an edit beside a true card

pub after_same : {A B : Type 0} (o : Outcome A) (f g : A → Outcome B) → ((a : A) → o ≡ taken a → f a ≡ g a) → after o f ≡ after o g
after_same (taken a) f g h = h a refl
after_same (refused n p) f g h = refl

-- It answers as without one; taken, it hands back the true card of what it wrote.
pub card_true : (have : ℕ) (s : List ℕ) (c : Content) (e : Edit) → content_at s ≡ taken c → WideEdit e
    → edit_card have (card_of c) s e ≡ after (edit_file have s e) (λ b. taken (b, card_of (apply e c)))
unfolding edit_card edit_card_to edit_file
card_true have s c e r w =
    rw r (after_same (edit_to have c e) (carded (card_of c) c (apply e c)) (λ b. taken (b, card_of (apply e c)))
    (λ b q. carded_true c (apply e c) b (canon_apply e c (content_is s c r).0 w ((edit_exactly_to have c e b).0 q).0.rows)))

-- that card is the one that opening the new file makes
pub card_again : (have : ℕ) (s : List ℕ) (c : Content) (e : Edit) (b : List ℕ) → content_at s ≡ taken c → WideEdit e → edit_file have s e ≡ taken b → open_file b ≡ taken (card_of (apply e c))
unfolding edit_file
card_again have s c e b r w q =
    let k : edit_to have c e ≡ taken b = rw r at q in
    let (p, i) = (edit_exactly_to have c e b).0 k in
    open_card b (apply e c) (ap content_at (sym i) ∙ read_back (apply e c) (canon_apply e c (content_is s c r).0 w p.rows))

-- the bytes that an edit writes don't depend on the card
pub card_bytes : (have : ℕ) (k j : Card) (s : List ℕ) (e : Edit) (b : List ℕ) → edit_card have k s e ≡ taken (b, j) → edit_file have s e ≡ taken b
unfolding edit_card edit_card_to edit_file
card_bytes have k j s e b h =
    let (c, r, q) = after_taken (content_at s) (λ c. edit_card_to have k c e) h in
    let (d, i, t) = after_taken (edit_to have c e) (carded k c (apply e c)) q in
    rw r (i ∙ ap taken (carded-bytes k c (apply e c) d b j t))

-- no fault is 28
pub fault_no_card : (n : ℕ) → is_fault n ≡ true → n ≢ CARD
fault_no_card n h e = go (among_all (λ m. not (eqb m CARD)) faults n refl h)
  where
    go : not (eqb n CARD) ≡ true → ⊥
    go k = let z : ◌≡◌ {A = ℕ} 0 1 = cc in omega arith

-- Beside a true card 28 never comes.
pub no_card : (have : ℕ) (s : List ℕ) (c : Content) (e : Edit) → content_at s ≡ taken c → WideEdit e → Refuses (λ n. n ≢ CARD) (edit_card have (card_of c) s e)
no_card have s c e r w =
    rw (card_true have s c e r w) (
    after_refuses (λ n. n ≢ CARD) (edit_file have s e) (λ b. taken (b, card_of (apply e c)))
    (edit_refuses (λ n. n ≢ CARD) fault_no_card (λ q. omega arith) (λ q. omega arith) (λ q. omega arith) have s e) (λ _. tt))
