-- Any sequence of edits beside a true card answers as the plain map does.
-- Assumes nothing.
use mathlib.Core.Path.{◌≡◌, refl, sym, ◌∙◌, ap, subst}
use mathlib.Core.Bool.{Bool, false, cond}
use mathlib.Core.List.{List, [], ◌∷◌}
use Prim.Native.Nat.{ℕ, ◌≤◌}
use native.Mathlib.Omega.{arith}
use lib.ListN.{length, take, drop}
use lib.Seq.{take-append_seam}
use lib.Dec.{eqb}
use borrow.Author.Tests.{ne_eqb}
use Rattle.answer.specs.Outcome.{Outcome, taken, refused, after}
use Rattle.answer.specs.Calls.{memory}
use Rattle.answer.proofs.Outcomes.{taken_is}
use Rattle.wire.specs.Numbers.{Bytes}
use Rattle.order.specs.Keyed.{weigh}
use Rattle.order.proofs.Perms.{perm_weigh}
use Rattle.order.proofs.Sorts.{sort_perm}
use Rattle.entries.specs.Kinds.{devices}
use Rattle.aerosnap.specs.Content.{content_at, IsCanonical}
use Rattle.aerosnap.specs.Adding.{device, disk, device_entries}
use Rattle.aerosnap.specs.Edits.{Edit, WideEdit, apply}
use Rattle.aerosnap.specs.Maps.{Map, AllElse, payload_length, map_after, map_size, map_edit, map_content, map_file}
use Rattle.aerosnap.proofs.Framed.{length-framed}
use Rattle.aerosnap.proofs.Back.{read_back}
use Rattle.aerosnap.proofs.Named.{Named, edit_named}
use Rattle.aerosnap.proofs.Mapped.{State, map-counts, apply-map, edit_map, map_taken, state_after}
use Rattle.aerosnap.proofs.Pairs.{file_map}
use Rattle.cards.specs.declared.Card.{Card}
use Rattle.cards.specs.declared.Edited.{Edited}
use Rattle.cards.specs.Cards.{payload_size, card_of, open_file, edit_card, bytes_beside, answer_beside, WritesBeside}
use Rattle.cards.specs.Shifts.{CallMade, file_then, CallsMade, map_card, map_then, map_number, map_place, LongEnough, AnswersAs, AsMap}
use Rattle.cards.proofs.Carded.{open_card, after_same, card_true}

-- ---- the card of a map

payload-count : (m : Map) → weigh payload_size (device_entries m) ≡ weigh payload_length m
payload-count [] = refl
payload-count (device b w g p ∷ m) = omega (arith, payload-count m, length-framed b w g p)
payload-count (disk b x y ∷ m) = omega (arith, payload-count m)

pub card_map : (a : AllElse) (m : Map) → card_of (map_content a m) ≡ map_card a m
card_map a m =
    let c = map-counts a m in
    let l = c.size_is in
    let s = c.sections_are in
    let d = c.devices_are in
    let p = perm_weigh payload_size (sort_perm devices.key (device_entries m)) ∙ payload-count m in
    λ i. record { length = l i; sections = s i; devices = d i; payloads = p i }

-- ---- one call

after-after_taken : {A B C : Type 0} (o : Outcome A) (f : A → B) (g : B → C) → after (after o (λ a. taken (f a))) (λ b. taken (g b)) ≡ after o (λ a. taken (g (f a)))
after-after_taken (taken a) f g = refl
after-after_taken (refused n p) f g = refl

-- what the call answers, by the map
pub edit_card_map : (a : AllElse) (m : Map) (have : ℕ) (e : Edit) → State a m → WideEdit e → ((u : Map) → map_edit a m e ≡ taken u → map_size a u ≤ have)
    → edit_card have (map_card a m) (map_file a m) e ≡ after (map_edit a m e) (λ u. taken (map_file a u, map_card a u))
edit_card_map a m have e s w n =
    let r : content_at (map_file a m) ≡ taken (map_content a m) = read_back (map_content a m) s.canon in
    let t : card_of (apply e (map_content a m)) ≡ map_card a (map_after e m) = ap card_of (apply-map e a m w s.wide) ∙ card_map a (map_after e m) in
    ap (λ (k : Card). edit_card have k (map_file a m) e) (sym (card_map a m))
    ∙ card_true have (map_file a m) (map_content a m) e r w
    ∙ ap (λ (o : Outcome (List ℕ)). after o (λ b. taken (b, card_of (apply e (map_content a m))))) (edit_map a m have e s w n)
    ∙ after-after_taken (map_edit a m e) (map_file a) (λ b. (b, card_of (apply e (map_content a m))))
    ∙ after_same (map_edit a m e) (λ u. taken (map_file a u, card_of (apply e (map_content a m)))) (λ u. taken (map_file a u, map_card a u))
    (λ u h. ap (λ (k : Card). taken (map_file a u, k)) (t ∙ ap (map_card a) (map_taken a m e u h).1))

-- a refusal's number is not 0
map_named : (a : AllElse) (m : Map) (have : ℕ) (e : Edit) → State a m → WideEdit e → ((u : Map) → map_edit a m e ≡ taken u → map_size a u ≤ have) → Named (after (map_edit a m e) (λ u. taken (map_file a u)))
map_named a m have e s w n = subst (λ (o : Outcome (List ℕ)). Named o) (edit_map a m have e s w n) (edit_named have (map_file a m) e)

pub call_map : (a : AllElse) (m : Map) (q : CallMade) → State a m → WideEdit q.edit → ((u : Map) → map_edit a m q.edit ≡ taken u → map_size a u ≤ length q.lent)
    → WritesBeside (map_card a m) (0, edit_card (length q.lent) (map_card a m) (map_file a m) q.edit) q.lent q.answer q.left → AnswersAs a m (map_file a m) q
call_map a m q s w n b =
    let e = edit_card_map a m (length q.lent) q.edit s w n in
    let x : q.answer ≡ answer_beside (map_card a m) 0 (made (map_edit a m q.edit)) = b.answers ∙ ap (answer_beside (map_card a m) 0) e in
    let y : q.left ≡ memory (bytes_beside (made (map_edit a m q.edit))) q.lent = b.leaves ∙ ap (λ (o : Outcome (List ℕ × Card)). memory (bytes_beside o) q.lent) e in
    let g = go (map_edit a m q.edit) (map_named a m (length q.lent) q.edit s w n) x y in
    record { number = g.0; place = g.1; index = g.2; file = g.3; card = g.4 }
  where
    made : Outcome Map → Outcome (List ℕ × Card)
    made o = after o (λ u. taken (map_file a u, map_card a u))

    go : (o : Outcome Map) → Named (after o (λ u. taken (map_file a u))) → q.answer ≡ answer_beside (map_card a m) 0 (made o) → q.left ≡ memory (bytes_beside (made o)) q.lent
        → (q.answer.number ≡ map_number o) × (q.answer.place ≡ map_place a o) × (q.answer.index ≡ 0) × (file_then (map_file a m) q ≡ map_file a (map_then m o)) × (q.answer.card ≡ map_card a (map_then m o))
    go (taken u) h x y =
        let i = ap (λ (r : Edited). r.number) x in
        let j = ap (λ (r : Edited). r.place) x in
        let f : file_then (map_file a m) q ≡ map_file a u =
        ap (λ (k : ℕ). cond (eqb k 0) (take q.answer.place q.left) (map_file a m)) i ∙ ap (λ (k : ℕ). take k q.left) j ∙ ap (take (length (map_file a u))) y ∙ take-append_seam (map_file a u) (drop (length (map_file a u)) q.lent) in
        (i, j ∙ (map-counts a u).size_is, ap (λ (r : Edited). r.index) x, f, ap (λ (r : Edited). r.card) x)
    go (refused k p) h x y =
        let i = ap (λ (r : Edited). r.number) x in
        let z : eqb q.answer.number 0 ≡ false = ne_eqb q.answer.number 0 (λ c. omega arith) in
        (i, ap (λ (r : Edited). r.place) x, ap (λ (r : Edited). r.index) x, ap (λ (b : Bool). cond b (take q.answer.place q.left) (map_file a m)) z, ap (λ (r : Edited). r.card) x)

-- ---- all of them

-- the state after a call
state_then : (a : AllElse) (m : Map) (e : Edit) → State a m → WideEdit e → State a (map_then m (map_edit a m e))
state_then a m e s w = go (map_edit a m e) refl
  where
    go : (o : Outcome Map) → map_edit a m e ≡ o → State a (map_then m o)
    go (taken u) h = state_after a m e u s w h
    go (refused n p) h = s

pub shift_as : (a : AllElse) (l : List CallMade) (m : Map) → State a m → CallsMade (map_file a m) (map_card a m) l → LongEnough a m l → AsMap a m (map_file a m) l
shift_as a [] m s c n = tt
shift_as a (q ∷ l) m s (w, b, c) (n, f) =
    let g = call_map a m q s w n b in
    let u : Map = map_then m (map_edit a m q.edit) in
    let c1 : CallsMade (map_file a u) (map_card a u) l = rw (← g.file, ← g.card) c in
    (g, rw g.file (shift_as a l u (state_then a m q.edit s w) c1 f))

-- A canonical file of bytes is the file of a map and all else; and any shift from it beside its true card answers as that map does.
pub record ShiftOf (s : List ℕ) (k : Card) : Type 0 where
  pub all_else : AllElse
  pub pairs : Map
  pub state : State all_else pairs
  pub file : map_file all_else pairs ≡ s
  pub card : map_card all_else pairs ≡ k
  pub answers : (l : List CallMade) → CallsMade s k l → LongEnough all_else pairs l → AsMap all_else pairs s l

pub shift-map : (s : List ℕ) (k : Card) → Bytes s → IsCanonical s → open_file s ≡ taken k → ShiftOf s k
shift-map s k b o h =
    let (a, m, t, e) = file_map s b o in
    let r : content_at s ≡ taken (map_content a m) = ap content_at (sym e) ∙ read_back (map_content a m) t.canon in
    let i : map_card a m ≡ k = sym (card_map a m) ∙ taken_is (sym (open_card s (map_content a m) r) ∙ h) in
    record {
      all_else = a;
      pairs = m;
      state = t;
      file = e;
      card = i;
      answers = subst (λ (s : List ℕ). (l : List CallMade) → CallsMade s k l → LongEnough a m l → AsMap a m s l) e
          (subst (λ (k : Card). (l : List CallMade) → CallsMade (map_file a m) k l → LongEnough a m l → AsMap a m (map_file a m) l) i (λ l c n. shift_as a l m t c n));
    }
