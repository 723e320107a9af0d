-- Request 4: tails are taken, kept and part of the content; edits keep them; longer CPU states.
-- Assumes nothing.
use mathlib.Core.Path.{◌≡◌, refl, sym, ◌∙◌, ap}
use mathlib.Core.Logic.{◌≢◌}
use mathlib.Core.Bool.{Bool, true, false, ◌&&◌, ◌||◌, false≢true}
use mathlib.Core.List.{List, [], ◌∷◌, ◌++◌, append_assoc}
use Prim.Native.Nat.{ℕ, ◌+◌, ◌<◌}
use native.Mathlib.Omega.{arith}
use lib.ListN.{length, take, length-append}
use lib.Seq.{drop-append-le, drop_at, take-append_seam}
use lib.Dec.{leb, eqb}
use borrow.Author.Tests.{le-leb, lt-leb, ne_eqb, eqb-true}
use Rattle.answer.specs.Numbers.{SHAPE, VALUE}
use Rattle.answer.specs.Outcome.{Outcome, taken, refused, checked, after, moved, done}
use Rattle.answer.proofs.Checks.{and_true, checked-pass}
use Rattle.answer.proofs.Outcomes.{taken_is, taken_refused}
use Rattle.wire.specs.Numbers.{le, le_at}
use Rattle.wire.proofs.Numbers.{le_at-append}
use Rattle.format.specs.Format.{Format, sized, any, Is, read, values}
use Rattle.format.proofs.Meaning.{complete}
use Rattle.entries.specs.declared.Kind.{Kind}
use Rattle.entries.specs.declared.Kind.TheVariants.{Controllers}
use Rattle.entries.specs.Code.{describe}
use Rattle.entries.specs.States.{cpu_length, extends, cpu_sized, cpu_length_checks, cpu_state, cpu_whole, held_checks, held_state, registers, switches}
use Rattle.entries.proofs.Lawful.{lawful}
use Rattle.lists.specs.Lists.{entries, tail_of, list_bytes, IsList}
use Rattle.lists.proofs.Taken.{list_entries, list_tail, list_sound, closed_tail}
use Rattle.aerosnap.specs.declared.Side.{Side}
use Rattle.aerosnap.specs.declared.Side.TheVariants.{OfDevices, OfDisks}
use Rattle.aerosnap.specs.Known.{META}
use Rattle.aerosnap.specs.Payloads.{meta_form, meta, payload, body_of}
use Rattle.aerosnap.specs.File.{id_of, version_of}
use Rattle.aerosnap.specs.Content.{framed, listed, tidied, tidy, Content, kind_at, id_at, entries_at, tail_at, with_list, content_at}
use Rattle.aerosnap.specs.Adding.{Item, Name, side_of, grown}
use Rattle.aerosnap.specs.Edits.{key_of, stands, remove, target, apply}
use Rattle.order.specs.Keyed.{Every, without}
use Rattle.order.specs.Entries.{join}
use Rattle.aerosnap.proofs.Canonical.{content_is, same_content}
use Rattle.aerosnap.proofs.Ranked.{with_entries, with_tail}
use Rattle.aerosnap.proofs.Edited.{left}
use Rattle.demands.specs.Tails as stated

-- ---- taken

more_is : (k : Kind) → (describe k).closed ≡ false → (s t : List ℕ) → IsList (describe k) s → IsList (describe k) (s ++ t)
more_is k o s t h =
    let n : le_at 4 (s ++ t) 0 ≡ le_at 4 s 0 = le_at-append 4 s t 0 (omega (arith, h.count)) in
    record {
      count = omega (arith, h.count, length-append s t);
      few = rw n h.few;
      items = h.items;
      tail = h.tail ++ t;
      number = n ∙ h.number;
      cut = drop-append-le 4 s t h.count ∙ ap (λ (b : List ℕ). b ++ t) h.cut ∙ append_assoc (join h.items) h.tail t;
      are = h.are;
      apart = h.apart;
      ended = λ c. absurd (false≢true (sym o ∙ c));
    }

list_more : (k : Kind) → (describe k).closed ≡ false → (s t : List ℕ) → IsList (describe k) s
    → IsList (describe k) (s ++ t) × (entries (describe k) (s ++ t) ≡ entries (describe k) s) × (tail_of (describe k) (s ++ t) ≡ tail_of (describe k) s ++ t)
unfolding more_is
list_more k o s t h =
    let m = more_is k o s t h in
    (m, list_entries (describe k) (s ++ t) m ∙ sym (list_entries (describe k) s h), list_tail (describe k) (s ++ t) m ∙ ap (λ (b : List ℕ). b ++ t) (sym (list_tail (describe k) s h)))

meta_more : (x t : List ℕ) → Is meta_form x → payload meta (x ++ t) ≡ taken tt
unfolding payload
meta_more x t h = ap done (complete meta_form x t h)

-- ---- kept

pub meta_stays : (e : List ℕ) → id_of e ≡ META → tidy e ≡ e ∷ []
meta_stays e h = ap (λ (i : ℕ). tidied (body_of i (version_of e)) e) h

tail_written : (id v : ℕ) (l : List (List ℕ)) (b : ℕ) (t : List ℕ) → listed id v l (b ∷ t) ≡ framed id v 0 (list_bytes l ++ (b ∷ t)) ∷ []
tail_written id v [] b t = refl
tail_written id v (e ∷ l) b t = refl

-- ---- edits

edit_stays : (j : Side) (n : List (List ℕ)) (c : Content) (i : Side) → tail_at i (with_list j n c) ≡ tail_at i c
edit_stays OfDevices n c OfDevices = refl
edit_stays OfDevices n c OfDisks = refl
edit_stays OfDisks n c OfDevices = refl
edit_stays OfDisks n c OfDisks = refl

grown-stays : (c : Content) (l : List Item) (i : Side) → tail_at i (grown c l) ≡ tail_at i c
grown-stays c l OfDevices = refl
grown-stays c l OfDisks = refl

none_left : (l : List (List ℕ)) → length l ≡ 0 → l ≡ []
none_left [] q = refl
none_left (y ∷ l) q = absurd (omega arith)

last_kept : (s : List ℕ) (n : Name) (c : Content) → content_at s ≡ taken c → stands n c ≡ true → length (entries_at (side_of n) c) ≡ 1 → (b : ℕ) (t : List ℕ) → tail_at (side_of n) c ≡ b ∷ t
    → listed (id_at (side_of n)) 1 (entries_at (side_of n) (apply (remove n) c)) (tail_at (side_of n) (apply (remove n) c)) ≡ framed (id_at (side_of n)) 1 0 (list_bytes [] ++ (b ∷ t)) ∷ []
last_kept f n c q s one b t w =
    let h = (content_is f c q).0 in
    let m : List (List ℕ) = without (kind_at (side_of n)).key (key_of n) (entries_at (side_of n) c) in
    let z : entries_at (side_of n) (apply (remove n) c) ≡ [] = with_entries (side_of n) m c ∙ none_left m (omega (arith, (left n c h s).count)) in
    let y : tail_at (side_of n) (apply (remove n) c) ≡ b ∷ t = with_tail (side_of n) m c ∙ w in
    ap (λ (l : List (List ℕ)). listed (id_at (side_of n)) 1 l (tail_at (side_of n) (apply (remove n) c))) z ∙ ap (listed (id_at (side_of n)) 1 []) y

-- ---- longer states

extends_is : (e : List ℕ) → 1191 < length e → extends e ≡ eqb (length e) (1187 + le_at 4 e 1183)
extends_is e h = ap (λ (b : Bool). b || eqb (length e) (1187 + le_at 4 e 1183)) (lt-leb (length e) 1191 h)

right_says : (e : List ℕ) → 1191 < length e → cpu_whole 2 e ≡ taken tt → length e ≡ 1187 + le_at 4 e 1183
right_says e h q =
    let p = checked-pass ((cpu_sized 2 e, SHAPE, 0) ∷ []) (cpu_state 2 e) tt q in
    eqb-true (length e) (1187 + le_at 4 e 1183) (sym (extends_is e h) ∙ (and_true (cpu_length 2 (length e)) (extends e) p.0.0).1)

sized_false : (e : List ℕ) → 1191 < length e → length e ≢ 1187 + le_at 4 e 1183 → extends e ≡ false
sized_false e h n = extends_is e h ∙ ne_eqb (length e) (1187 + le_at 4 e 1183) n

and_last : (a : Bool) → (a && false) ≡ false
and_last true = refl
and_last false = refl

wrong_length : (e : List ℕ) → 1191 < length e → length e ≢ 1187 + le_at 4 e 1183 → cpu_whole 2 e ≡ refused SHAPE 0
wrong_length e h n = ap (λ (b : Bool). checked ((cpu_length 2 (length e) && b, SHAPE, 0) ∷ []) (cpu_state 2 e)) (sized_false e h n) ∙ ap (λ (b : Bool). checked ((b, SHAPE, 0) ∷ []) (cpu_state 2 e)) (and_last (cpu_length 2 (length e)))

held_wrong : (x e rest : List ℕ) → length x ≡ 4 → le x ≡ length e → 1191 < length e → length e ≢ 1187 + le_at 4 e 1183 → read (held_state 2) (x ++ (e ++ rest)) ≡ refused SHAPE 0
unfolding read
held_wrong x e rest i j h n =
    let f : Format = sized 4 (cpu_length_checks 2) any in
    let b : List ℕ = x ++ e in
    let right : cpu_length 2 (length e) ≡ true = or_right (eqb (length e) 1183) (le-leb 1191 (length e) (omega arith)) in
    let whole : read f (b ++ rest) ≡ taken (length b) = complete f b rest (x, e, refl, i, j, (right, tt), refl) in
    let part : take (length b) (b ++ rest) ≡ b = take-append_seam b rest in
    let none : held_checks 2 b ≡ refused SHAPE 0 = ap (λ (y : List ℕ). checked ((extends y, SHAPE, 0) ∷ []) (moved 4 (cpu_state 2 y))) (drop_at x e 4 i) ∙ ap (λ (t : Bool). checked ((t, SHAPE, 0) ∷ []) (moved 4 (cpu_state 2 e))) (sized_false e h n) in
    ap (read (held_state 2)) (sym (append_assoc x e rest))
    ∙ ap (λ (o : Outcome ℕ). after o (λ k. after (held_checks 2 (take k (b ++ rest))) (λ _. taken k))) whole
    ∙ ap (λ (y : List ℕ). after (held_checks 2 y) (λ _. taken (length b))) part
    ∙ ap (λ (o : Outcome (Unit {0})). after o (λ _. taken (length b))) none
  where
    or_right : (a : Bool) {c : Bool} → c ≡ true → (a || c) ≡ true
    or_right true q = refl
    or_right false q = q

-- a listed number that is refused stands at its row's place
Elsewhere : List (ℕ × ℕ × ℕ × ℕ) → Type 0
Elsewhere l = Every (λ r. r.0 ≡ 1183 → ⊥) l

elsewhere : (l : List (ℕ × ℕ × ℕ × ℕ)) (e : List ℕ) (m : ℕ) → Elsewhere l → values l e ≡ refused m 1183 → ⊥
unfolding values Elsewhere
elsewhere [] e m a q = taken_refused q
elsewhere (r ∷ l) e m a q = go (leb r.2 (le_at r.1 e r.0) && leb (le_at r.1 e r.0) r.3) q (elsewhere l e m a.1)
  where
    go : (t : Bool) → checked ((t, VALUE, r.0) ∷ []) (values l e) ≡ refused m 1183 → (values l e ≡ refused m 1183 → ⊥) → ⊥
    go true k next = next k
    go false k next = let z : r.0 ≡ 1183 = cc in a.0 z

value_only : (v : ℕ) (e : List ℕ) (m : ℕ) → cpu_state v e ≡ refused m 1183 → length e ≡ 1191
unfolding Elsewhere
value_only v e m q = go (eqb v 1) (leb 1191 (length e)) (eqb (length e) 1191) refl q
  where
    go : (a b c : Bool) → eqb (length e) 1191 ≡ c
        → values (elim a as (λ _. List (ℕ × ℕ × ℕ × ℕ)) [ true ↦ [] | false ↦ elim b as (λ _. List (ℕ × ℕ × ℕ × ℕ)) [ true ↦ registers ++ (elim c as (λ _. List (ℕ × ℕ × ℕ × ℕ)) [ true ↦ (1183, 4, 4, 4) ∷ switches | false ↦ switches ]) | false ↦ registers ] ]) e ≡ refused m 1183
        → length e ≡ 1191
    go a b true h k = eqb-true (length e) 1191 h
    go true b false h k = absurd (elsewhere [] e m tt k)
    go false true false h k = absurd (elsewhere (registers ++ switches) e m ((λ z. omega arith), ((λ z. omega arith), ((λ z. omega arith), ((λ z. omega arith), ((λ z. omega arith), ((λ z. omega arith), tt)))))) k)
    go false false false h k = absurd (elsewhere registers e m ((λ z. omega arith), ((λ z. omega arith), ((λ z. omega arith), tt))) k)

pub tails : stated.Tails
tails = record {
  taking = record { list = list_more; meta_tail = meta_more; closed = λ s l h. closed_tail (describe Controllers) s refl (list_sound (lawful Controllers) s h) };
  keeping = record {
    meta_kept = meta_stays;
    written = tail_written;
    absent = λ id v. refl;
    part = λ have s t b c d i p q e f. ap (tail_at i) (taken_is (sym e ∙ same_content have s t b p q ∙ f));
  };
  editing = record { stays = λ e c i. edit_stays (side_of (target e)) _ c i; adds = grown-stays; last = last_kept };
  longer = record { says = right_says; wrong = wrong_length; held_wrong = held_wrong; value = value_only };
}
