-- The section with an id in a file that is taken: the loop that looks for it, its payload as a part of the file, and that it is alone.
-- Assumes nothing.
use mathlib.Core.Path.{◌≡◌, refl, sym, ◌∙◌, ap, subst}
use mathlib.Core.List.{List, [], ◌∷◌, ◌++◌, append-nil}
use mathlib.Core.Bool.{Bool, true, false, cond}
use mathlib.Core.Logic.{◌≢◌}
use Prim.Native.Nat.{ℕ, ◌+◌, ◌≤◌, ◌<◌, min}
use native.Mathlib.Omega.{arith}
use lib.ListN.{length, take, drop, length-take, length-drop}
use lib.Seq.{drop-drop, drop-append-le, take_at}
use lib.Dec.{eqb}
use borrow.Author.Tests.{eq-eqb, ne_eqb, eqb-true}
use Rattle.std.proofs.Common.{Ok, Err}
use Rattle.answer.specs.declared.Fault.{Fault}
use Rattle.answer.specs.Outcome.{Outcome, taken, refused, after}
use Rattle.answer.proofs.Outcomes.{taken_is, made_stop, made_taken, made_same}
use Rattle.wire.specs.Numbers.{le_at}
use Rattle.wire.proofs.Numbers.{le_at_here, le_at-append}
use Rattle.order.specs.Keyed.{flat, keep}
use Rattle.order.specs.Entries.{join}
use Rattle.order.proofs.Folds.{every_imp}
use Rattle.order.proofs.Keeps.{keep-none}
use Rattle.entries.specs.Kinds.{Description}
use Rattle.entries.proofs.Lawful.{Lawful}
use Rattle.lists.specs.Lists.{IsList}
use Rattle.aerosnap.specs.Known.{known, slot}
use Rattle.aerosnap.specs.Payloads.{Body, list, body_of}
use Rattle.aerosnap.specs.File.{id_of, version_of, length_of, file_of}
use Rattle.aerosnap.specs.Rules.{IsBody, IsSection}
use Rattle.aerosnap.specs.Content.{is_id}
use Rattle.aerosnap.specs.Tables.{placed}
use Rattle.aerosnap.proofs.Bodies.{Lawfully, lawful_body}
use Rattle.aerosnap.proofs.Slots.{Once, first_once, rest_once}
use Rattle.aerosnap.proofs.Taken.{file_sound}
use Rattle.aerosnap.proofs.Standing.{Stand, stand_start, stand_next, ends_at, end_at, Turn, turn, goes, finished}
use Rattle.sections.specs.Walks.{sections_in, Read, place_of}
use Rattle.sections.specs.Index.{starts_of, first_of, count_in, spot_in, Scanned, Spotted}
use Rattle.sections.proofs.Kept.{starts-count, entries_front, starts_bound, first_most}

-- the sections of a file that is taken
pub taken_read : (s : List ℕ) {l : List (List ℕ)} → file_of s ≡ taken l → Read s
taken_read s {l} h = h ∙ ap taken (sym (ap (λ (o : Outcome (List (List ℕ))). elim o as (λ _. List (List ℕ)) [ taken l ↦ l | refused n p ↦ [] ]) h))

pub made_read : {B : Type 0} (s : List ℕ) (f : List (List ℕ) → B) {b : B} → taken b ≡ after (file_of s) (λ l. taken (f l)) → Read s
made_read s f h = taken_read s (made_taken (file_of s) f h).1

-- ---- the loop

-- what the loop keeps: it lies not before the place, and n starts stand before the section there
pub record Seeking (i : ℕ) (s : List ℕ) (l : List (List ℕ)) (at n : ℕ) : Type 0 where
  pub left : List (List ℕ)
  pub stand : Stand s at left
  pub same : place_of i 16 l ≡ place_of i at left
  pub first : first_of i l ≡ n + first_of i left
  pub few : first_of i l ≤ 4864

pub seeking_start : (i : ℕ) (s : List ℕ) (l : List (List ℕ)) → file_of s ≡ taken l → Seeking i s l 16 0
seeking_start i s l h = record { left = l; stand = stand_start s h; same = refl; first = omega arith; few = omega (arith, first_most i l, starts_bound s h) }

module _ {i : ℕ} {s : List ℕ} {l : List (List ℕ)} {at n : ℕ} (v : Seeking i s l at n) where
  pub seeking_goes : at < length s → (at < end_at s at) × (end_at s at ≤ length s) × (length s ≤ 1073741824)
  seeking_goes = goes v.left v.stand

  pub seeking_none : length s ≤ at → (at ≡ place_of i 16 l) × (n ≡ first_of i l)
  unfolding place_of
  seeking_none h =
      let e : v.left ≡ [] = finished v.left v.stand h in
      let p : at ≡ place_of i 16 l = sym (v.same ∙ ap (place_of i at) e) in
      let q : n ≡ first_of i l = omega (arith, v.first, ap (first_of i) e) in
      (p, q)

  module _ (h : at < length s) {id : ℕ} (q : id ≡ le_at 4 s at) where
    seeking_turn : Turn s at v.left
    seeking_turn = turn v.left v.stand h

    its_id : id_of seeking_turn.e ≡ id
    its_id = sym seeking_turn.here.id_is ∙ le_at_here 4 s at ∙ sym q

    -- the place and the number by the section there
    by_turn : {b : Bool} → eqb id i ≡ b → place_of i 16 l ≡ cond b at (place_of i (at + length seeking_turn.e) seeking_turn.more)
    unfolding place_of
    by_turn t = v.same ∙ ap (place_of i at) seeking_turn.split ∙ ap (λ (x : Bool). cond x at (place_of i (at + length seeking_turn.e) seeking_turn.more)) (ap (λ (n : ℕ). eqb n i) its_id ∙ t)

    first_turn : {b : Bool} → eqb id i ≡ b → first_of i l ≡ n + cond b 0 (length (starts_of seeking_turn.e) + first_of i seeking_turn.more)
    first_turn t =
        v.first
        ∙ ap (λ (m : List (List ℕ)). n + first_of i m) seeking_turn.split
        ∙ ap (λ (x : Bool). n + cond x 0 (length (starts_of seeking_turn.e) + first_of i seeking_turn.more)) (ap (λ (n : ℕ). eqb n i) its_id ∙ t)

    pub seeking_found : id ≡ i → (at ≡ place_of i 16 l) × (n ≡ first_of i l)
    seeking_found e =
        let p : at ≡ place_of i 16 l = sym (by_turn (eq-eqb id i e)) in
        let q : n ≡ first_of i l = omega (arith, first_turn (eq-eqb id i e)) in
        (p, q)

    -- how many entries the section there has
    seeking_many : {k : ℕ} → k ≡ count_in (drop at s) → k ≡ length (starts_of seeking_turn.e)
    seeking_many z = let x = seeking_turn in z ∙ ap count_in (v.stand.cut ∙ ap join x.split) ∙ entries_front x.e x.is (join x.more) ∙ sym (starts-count x.e x.is)

    module _ (e : id ≢ i) {k : ℕ} (z : k ≡ count_in (drop at s)) where
      seeking_first : first_of i l ≡ n + k + first_of i seeking_turn.more
      seeking_first = omega (arith, first_turn (ne_eqb id i e), seeking_many z)

      pub seeking_few : n + k ≤ 4864
      seeking_few = omega (arith, seeking_first, v.few)

      pub seeking_next : Seeking i s l (end_at s at) (n + k)
      seeking_next = record {
        left = seeking_turn.more;
        stand = seeking_turn.next;
        same = by_turn (ne_eqb id i e) ∙ ap (λ (j : ℕ). place_of i j seeking_turn.more) (sym seeking_turn.ends);
        first = seeking_first;
        few = v.few;
      }

-- where it was found

abbrev spot : ℕ → List (List ℕ) → ℕ × ℕ
spot i l = (place_of i 16 l, first_of i l)

pub found_stop : (i : ℕ) (s : List ℕ) {f : Fault} {old new : List ℕ} → Scanned (file_of s) old (Err f) new → Spotted i (file_of s) old (Err f) new
found_stop i s k = record { answers = made_same (file_of s) length (spot i) k.answers; leaves = k.leaves }

pub found_at : (i : ℕ) (s : List ℕ) {n : ℕ} (r : ℕ × ℕ) {old new : List ℕ} → Scanned (file_of s) old (Ok n) new → (r.0 ≡ place_of i 16 (sections_in s)) × (r.1 ≡ first_of i (sections_in s)) → Spotted i (file_of s) old (Ok r) new
found_at i s r k q = record { answers = ap (λ (x : ℕ). taken (x, r.1)) q.0 ∙ ap (λ (x : ℕ). taken (place_of i 16 (sections_in s), x)) q.1 ∙ sym (ap (spot_in i) (made_read s length k.answers)); leaves = k.leaves }

-- what the call that looks for it says of a file: its fault, or that it is taken, where the section starts and how many starts stand before its own
pub spot_stop : (i : ℕ) (s : List ℕ) {a b : ℕ} → refused a b ≡ spot_in i (file_of s) → file_of s ≡ refused a b
spot_stop i s h = made_stop (file_of s) (spot i) h

pub record Sited (i : ℕ) (s : List ℕ) (p n : ℕ) : Type 0 where
  pub read : Read s
  pub place : p ≡ place_of i 16 (sections_in s)
  pub first : n ≡ first_of i (sections_in s)

pub spot_taken : (i : ℕ) (s : List ℕ) {p n : ℕ} → ◌≡◌ {A = Outcome (ℕ × ℕ)} (taken (p, n)) (spot_in i (file_of s)) → Sited i s p n
spot_taken i s {p} {n} h =
    let r : Read s = made_read s (spot i) h in
    let t : ◌≡◌ {A = ℕ × ℕ} (p, n) (spot i (sections_in s)) = taken_is (h ∙ ap (spot_in i) r) in
    record { read = r; place = ap (λ (x : ℕ × ℕ). x.0) t; first = ap (λ (x : ℕ × ℕ). x.1) t }

-- ---- the section with an id

-- sections that stand from a place of s on, and the one with the id at p: its payload is a part of s, and no other has the id
pub record Here (i : ℕ) (s : List ℕ) (l : List (List ℕ)) (p : ℕ) : Type 0 where
  pub sec : List ℕ
  pub is : IsSection sec
  pub id : id_of sec ≡ i
  pub version : le_at 2 s (p + 4) ≡ version_of sec
  pub alone : keep (is_id i) l ≡ sec ∷ []
  pub part : take (le_at 8 s (p + 8)) (drop (p + 16) s) ≡ drop 16 sec
  pub fits : end_at s p ≤ length s

module _ (i : ℕ) (s : List ℕ) where
  -- none has the id
  none_from : (at : ℕ) (l : List (List ℕ)) → Stand s at l → length s ≤ place_of i at l → keep (is_id i) l ≡ []
  unfolding place_of
  none_from at [] v h = refl
  none_from at (e ∷ l) v h = go (is_id i e) h (none_from (at + length e) l (stand_next e l v))
    where
      go : (b : Bool) → length s ≤ cond b at (place_of i (at + length e) l) → (length s ≤ place_of i (at + length e) l → keep (is_id i) l ≡ []) → cond b (e ∷ keep (is_id i) l) (keep (is_id i) l) ≡ []
      go true h r = absurd (omega (arith, (stand_next e l v).inside, v.are.0.whole))
      go false h r = r h

  module _ (k : known i ≡ true) where
    -- it is the first of them
    first : (at : ℕ) (e : List ℕ) (l : List (List ℕ)) → Stand s at (e ∷ l) → Once (e ∷ l) → id_of e ≡ i → Here i s (e ∷ l) at
    first at e l v d q =
        let w : length e ≡ 16 + length_of e = v.are.0.whole in
        let n : end_at s at ≡ at + length e = ends_at e l v in
        let f : at + length e ≤ length s = (stand_next e l v).inside in
        let j : length (drop 16 e) ≡ le_at 8 s (at + 8) = length-drop 16 e ∙ omega arith in
        let c : drop (at + 16) s ≡ drop 16 e ++ join l = sym (drop-drop 16 at s) ∙ ap (drop 16) v.cut ∙ drop-append-le 16 e (join l) (omega arith) in
        let o : keep (is_id i) l ≡ [] = keep-none (is_id i) l (every_imp (λ y z. ne_eqb (id_of y) i (λ u. z (ap slot (q ∙ sym u)))) l (first_once e l d (ap known q ∙ k))) in
        record {
          sec = e;
          is = v.are.0;
          id = q;
          version = sym (le_at_here 2 s (at + 4)) ∙ ap (λ (b : List ℕ). le_at 2 b 0) (sym (drop-drop 4 at s) ∙ ap (drop 4) v.cut) ∙ le_at_here 2 (e ++ join l) 4 ∙ le_at-append 2 e (join l) 4 (omega arith);
          alone = rw (eq-eqb (id_of e) i q) (ap (λ (m : List (List ℕ)). e ∷ m) o);
          part = ap (take (le_at 8 s (at + 8))) c ∙ take_at (drop 16 e) (join l) (le_at 8 s (at + 8)) j;
          fits = omega arith;
        }

    there_from : (at : ℕ) (l : List (List ℕ)) → Stand s at l → Once l → place_of i at l < length s → Here i s l (place_of i at l)
    unfolding place_of
    there_from at [] v d h = absurd (omega (arith, length-drop at s, ap length v.cut))
    there_from at (e ∷ l) v d h = go (is_id i e) refl h (there_from (at + length e) l (stand_next e l v) (rest_once e l d))
      where
        go : (b : Bool) → is_id i e ≡ b → cond b at (place_of i (at + length e) l) < length s → (place_of i (at + length e) l < length s → Here i s l (place_of i (at + length e) l))
            → Here i s (e ∷ l) (cond b at (place_of i (at + length e) l))
        go true q h r = first at e l v d (eqb-true (id_of e) i q)
        go false q h r = let x = r h in record { sec = x.sec; is = x.is; id = x.id; version = x.version; alone = rw q x.alone; part = x.part; fits = x.fits }

  -- a file that is taken, and where the section with the id was found in it
  module _ {l : List (List ℕ)} (c : file_of s ≡ taken l) {p : ℕ} (q : p ≡ place_of i 16 l) where
    pub none-there : length s ≤ p → keep (is_id i) l ≡ []
    none-there h = none_from 16 l (stand_start s c) (rw q at h)

    pub there : known i ≡ true → p < length s → Here i s l p
    there k h = rw q (there_from k 16 l (stand_start s c) (file_sound s c).1.once (rw q at h))

-- its payload is a list, where sections with the id are
pub here_list : (i : ℕ) (s : List ℕ) {l : List (List ℕ)} → file_of s ≡ taken l → (d : Description) → ((v : ℕ) → body_of i v ≡ list d) → known i ≡ true → {p : ℕ} (x : Here i s l p)
    → Lawful d × IsList d (drop 16 x.sec) × (length (drop 16 x.sec) ≤ 1073741824)
here_list i s c d m k {p} x =
    let b : List ℕ = drop 16 x.sec in
    let v : ℕ = version_of x.sec in
    let y : IsBody (body_of i v) b = subst (λ (j : ℕ). IsBody (body_of j v) b) x.id (x.is.rules (ap known x.id ∙ k)).body in
    let n : length b ≡ min (le_at 8 s (p + 8)) (length (drop (p + 16) s)) = ap length (sym x.part) ∙ length-take (le_at 8 s (p + 8)) (drop (p + 16) s) in
    (subst Lawfully (m v) (lawful_body i v), subst (λ (u : Body). IsBody u b) (m v) y, omega (arith, n, x.fits, length-drop (p + 16) s, (stand_start s c).short))

-- ---- what is made of the section with an id and its place

module _ (i : ℕ) (g : ℕ × List ℕ → List ℕ) where
  abbrev made : ℕ × List ℕ → List ℕ
  made q = cond (is_id i q.1) (g q) []

  pub made_none : (at : ℕ) (l : List (List ℕ)) → keep (is_id i) l ≡ [] → flat made (placed at l) ≡ []
  unfolding placed
  made_none at [] h = refl
  made_none at (e ∷ l) h = go (is_id i e) h (made_none (at + length e) l)
    where
      go : (b : Bool) → cond b (e ∷ keep (is_id i) l) (keep (is_id i) l) ≡ [] → (keep (is_id i) l ≡ [] → flat made (placed (at + length e) l) ≡ []) → cond b (g (at, e)) [] ++ flat made (placed (at + length e) l) ≡ []
      go true h r = let z : ◌≡◌ {A = ℕ} 0 1 = cc in absurd (omega arith)
      go false h r = r h

  pub made_one : (at : ℕ) (l : List (List ℕ)) {e : List ℕ} → keep (is_id i) l ≡ e ∷ [] → flat made (placed at l) ≡ g (place_of i at l, e)
  unfolding placed place_of
  made_one at [] h = let z : ◌≡◌ {A = ℕ} 0 1 = cc in absurd (omega arith)
  made_one at (x ∷ l) {e} h = go (is_id i x) h (made_one (at + length x) l)
    where
      go : (b : Bool) → cond b (x ∷ keep (is_id i) l) (keep (is_id i) l) ≡ e ∷ [] → (keep (is_id i) l ≡ e ∷ [] → flat made (placed (at + length x) l) ≡ g (place_of i (at + length x) l, e))
          → cond b (g (at, x)) [] ++ flat made (placed (at + length x) l) ≡ g (cond b at (place_of i (at + length x) l), e)
      go true h r =
          let y : x ≡ e = cc in
          let z : keep (is_id i) l ≡ [] = cc in
          ap (λ (m : List ℕ). g (at, x) ++ m) (made_none (at + length x) l z) ∙ append-nil (g (at, x)) ∙ ap (λ (b : List ℕ). g (at, b)) y
      go false h r = r h
