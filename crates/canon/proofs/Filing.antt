-- What the directory of an index says of the sections that are kept: where the section of each known id stands.
-- Assumes nothing.
use mathlib.Core.Path.{◌≡◌, refl, sym, ◌∙◌, ap, subst}
use mathlib.Core.Logic.{◌≢◌}
use mathlib.Core.List.{List, [], ◌∷◌, ◌++◌, map, append-nil, append_assoc}
use mathlib.Core.Bool.{Bool, true, false, cond}
use Prim.Native.Nat.{ℕ, ◌+◌, ◌-◌, ◌≤◌}
use native.Mathlib.Omega.{arith}
use lib.ListN.{length, take, drop, get_or, length-append, length-drop}
use lib.Seq.{take-append_seam, drop-append_seam, drop-drop}
use lib.Dec.{eqb}
use borrow.Author.Tests.{leb-true, le-leb, eq-eqb, ne_eqb, eqb-true, eqb-false}
use Rattle.order.specs.Keyed.{Every, Fresh, flat, keep}
use Rattle.order.specs.Entries.{join}
use Rattle.order.proofs.Folds.{flat_append, every_imp}
use Rattle.order.proofs.Keeps.{keep_append, keep-none}
use Rattle.lists.specs.Lists.{whole}
use Rattle.aerosnap.specs.Known.{known, slot}
use Rattle.aerosnap.specs.File.{file_most, id_of, slot_of}
use Rattle.aerosnap.specs.Rules.{IsSection, IsFile, is_known_section}
use Rattle.aerosnap.specs.Content.{is_id}
use Rattle.aerosnap.specs.Salvage.{Part, keeps, loses, bytes_in, kept_by, parts_of, all_kept}
use Rattle.aerosnap.proofs.Judged.{span, part_stands}
use Rattle.aerosnap.proofs.Rescued.{kept_valid}
use Rattle.aerosnap.proofs.Slots.{Once, rest_once, first_once}
use Rattle.sections.specs.Index.{starts_of, kept}
use Rattle.sections.specs.Directory.{directory_places, Seat, seats, seat_of}
use Rattle.sections.proofs.Kept.{kept_all, starts_most}
use Rattle.sections.proofs.Reading.{Held}
use Rattle.sections.specs.Steps.{held, HasDirectory}
use Rattle.canon.specs.Steps.{bytes_for, mine, ranked, WholeSection}
use Rattle.canon.proofs.Order.{mine_here, mine_not}

-- ---- the section of a known id

module _ (i : ℕ) (a : 1 ≤ i) (b : i ≤ 8) where
  i_known : known i ≡ true
  i_known = rw (le-leb 1 i a, le-leb i 8 b)

  -- what is written of it, by the sections that have the id
  by_id : (l : List (List ℕ)) → ranked i l ≡ flat bytes_for (keep (is_id i) l)
  by_id [] = refl
  by_id (e ∷ l) = go (eqb (id_of e) i) refl (by_id l)
    where
      other : id_of e ≢ i → (t : Bool) → cond t (id_of e) 9 ≢ i
      other q true z = q z
      other q false z = omega arith

      go : (t : Bool) → eqb (id_of e) i ≡ t → ranked i l ≡ flat bytes_for (keep (is_id i) l) → mine i e ++ ranked i l ≡ flat bytes_for (cond t (e ∷ keep (is_id i) l) (keep (is_id i) l))
      go true t r = cc (mine_here i e refl refl (ap {B = ℕ} (λ (n : ℕ). cond (known n) n 9) (eqb-true (id_of e) i t) ∙ ap (λ (b : Bool). cond b i 9) i_known), r)
      go false t r = cc (mine_not i e refl refl (other (eqb-false (id_of e) i t) (known (id_of e))), r)

  fresh_none : (l : List (List ℕ)) → Fresh slot_of (slot i) l → keep (is_id i) l ≡ []
  fresh_none l h = keep-none (is_id i) l (every_imp (λ y z. ne_eqb (id_of y) i (λ q. z (ap slot (sym q)))) l h)

  -- no part keeps a section with the id, or one does, and none before it
  pub data Seated (at n have : ℕ) (l : List Part) : Type 0 where
    vacant : keep (is_id i) (all_kept l) ≡ [] → ((f : Seat → ℕ) → seat_of f i (seats at n have l) ≡ 0) → Seated at n have l
    sits : (done : List Part) (e : List ℕ) (more : List Part) → l ≡ done ++ (keeps e ∷ more) → id_of e ≡ i → keep (is_id i) (all_kept done) ≡ []
        → seat_of (λ x. x.place) i (seats at n have l) ≡ at + span done → seat_of (λ x. x.first) i (seats at n have l) ≡ n + length (kept have (all_kept done)) → Seated at n have l

  pub seated : (l : List Part) (at n have : ℕ) → Seated at n have l
  seated [] at n have = vacant refl (λ f. refl)
  seated (keeps e ∷ l) at n have = go (eqb (id_of e) i) refl (seated l (at + length e) (n + length (whole have (starts_of e))) (have - length (whole have (starts_of e))))
    where
      w : ℕ
      w = length (whole have (starts_of e))

      go : (t : Bool) → eqb (id_of e) i ≡ t → Seated (at + length e) (n + w) (have - w) l → Seated at n have (keeps e ∷ l)
      go true t s =
          let z : at ≡ at + 0 = omega arith in
          let y : n ≡ n + 0 = omega arith in
          sits [] e l refl (eqb-true (id_of e) i t) refl (rw t z) (rw t y)
      go false t (vacant r f) = vacant (rw t r) (λ g. rw t (f g))
      go false t (sits done x more q k r p o) =
          let z = length-append e (join (map bytes_in done)) in
          let y = length-append (whole have (starts_of e)) (kept (have - w) (all_kept done)) in
          sits (keeps e ∷ done) x more (ap (λ (m : List Part). keeps e ∷ m) q) k (rw t r) (rw t (p ∙ omega (arith, z))) (rw t (o ∙ omega (arith, y)))
  seated (loses m e ∷ l) at n have = go (seated l (at + length e) n have)
    where
      go : Seated (at + length e) n have l → Seated at n have (loses m e ∷ l)
      go (vacant r f) = vacant r f
      go (sits done x more q k r p o) =
          let z = length-append e (join (map bytes_in done)) in
          sits (loses m e ∷ done) x more (ap (λ (t : List Part). loses m e ∷ t) q) k r (p ∙ omega (arith, z)) o

  -- a known section is the only one of its id
  behind_once : (x : List (List ℕ)) (e : List ℕ) (m : List (List ℕ)) → Once (x ++ (e ∷ m)) → is_known_section e ≡ true → Fresh slot_of (slot_of e) m
  behind_once [] e m o k = first_once e m o k
  behind_once (y ∷ x) e m o k = behind_once x e m (rest_once y (x ++ (e ∷ m)) o) k

  every_here : (P : List ℕ → Type 0) (x : List (List ℕ)) (e : List ℕ) (m : List (List ℕ)) → Every P (x ++ (e ∷ m)) → P e
  every_here P [] e m h = h.0
  every_here P (y ∷ x) e m h = every_here P x e m h.1

  kept-split : (done : List Part) (e : List ℕ) (more : List Part) → all_kept (done ++ (keeps e ∷ more)) ≡ all_kept done ++ (e ∷ all_kept more)
  kept-split done e more = flat_append kept_by done (keeps e ∷ more)

  -- where the section of the id stands, if it is kept
  pub record SectionHere (s index : List ℕ) : Type 0 where
    pub sec : List ℕ
    pub whole : WholeSection sec
    pub id : id_of sec ≡ i
    pub alone : keep (is_id i) (held s) ≡ sec ∷ []
    pub bytes_are : ranked i (held s) ≡ bytes_for sec
    pub far : 16 ≤ get_or index i 0
    pub near : get_or index i 0 + length sec ≤ length s
    pub short : length s ≤ file_most
    pub stands : take (length sec) (drop (get_or index i 0) s) ≡ sec
    pub starts : Held index (get_or index (i + 8) 0) sec
    pub few : get_or index (i + 8) 0 ≤ 4883

  module _ {s index : List ℕ} (v : HasDirectory s index) where
    abbrev have : ℕ
    have = length v.old - directory_places

    seat : Seated 16 directory_places have (parts_of s)
    seat = seated (parts_of s) 16 directory_places have

    place_is : get_or index i 0 ≡ seat_of (λ x. x.place) i (seats 16 directory_places have (parts_of s))
    place_is = v.directory.places i a b

    pub filed_absent : get_or index i 0 ≡ 0 → keep (is_id i) (held s) ≡ []
    filed_absent z = go seat
      where
        go : Seated 16 directory_places have (parts_of s) → keep (is_id i) (held s) ≡ []
        go (vacant r f) = r
        go (sits done e more q k r p o) = absurd (omega (arith, place_is, p))

    pub filed_none : get_or index i 0 ≡ 0 → ranked i (held s) ≡ []
    filed_none z = by_id (held s) ∙ ap (flat bytes_for) (filed_absent z)

    pub filed_some : get_or index i 0 ≢ 0 → SectionHere s index
    filed_some z = go seat
      where
        valid : IsFile (held s)
        valid = kept_valid s v.passes

        bound : (16 ≤ length s) × (length s ≤ file_most)
        bound = (leb-true 16 (length s) v.passes.1.0, leb-true (length s) file_most v.passes.0)

        go : Seated 16 directory_places have (parts_of s) → SectionHere s index
        go (vacant r f) = absurd (z (place_is ∙ f (λ x. x.place)))
        go (sits done e more q k r p o) =
            let l : held s ≡ all_kept done ++ (e ∷ all_kept more) = ap all_kept q ∙ kept-split done e more in
            let once : Once (all_kept done ++ (e ∷ all_kept more)) = subst Once l valid.once in
            let is : IsSection e = every_here IsSection (all_kept done) e (all_kept more) (subst (Every IsSection) l valid.are) in
            let at : get_or index i 0 ≡ 16 + span done = place_is ∙ p in
            let st = part_stands s bound.1 bound.0 done (keeps e) more q in
            let none-behind : keep (is_id i) (all_kept more) ≡ [] = fresh_none (all_kept more) (subst (λ (j : ℕ). Fresh slot_of j (all_kept more)) (ap slot k) (behind_once (all_kept done) e (all_kept more) once (ap known k ∙ i_known))) in
            let only : keep (is_id i) (held s) ≡ e ∷ [] =
            ap (keep (is_id i)) l
            ∙ keep_append (is_id i) (all_kept done) (e ∷ all_kept more)
            ∙ cc (r, ap (λ (t : Bool). cond t (e ∷ keep (is_id i) (all_kept more)) (keep (is_id i) (all_kept more))) (eq-eqb (id_of e) i k), none-behind)
            in
            let all : kept have (held s) ≡ flat starts_of (held s) = kept_all have (held s) v.room.starts in
            let fl : flat starts_of (held s) ≡ flat starts_of (all_kept done) ++ (starts_of e ++ flat starts_of (all_kept more)) = ap (flat starts_of) l ∙ flat_append starts_of (all_kept done) (e ∷ all_kept more) in
            let n-done = length-append (flat starts_of (all_kept done)) (starts_of e ++ flat starts_of (all_kept more)) in
            let kd : kept have (all_kept done) ≡ flat starts_of (all_kept done) = kept_all have (all_kept done) (omega (arith, v.room.starts, ap length fl, n-done)) in
            let first : get_or index (i + 8) 0 ≡ directory_places + length (flat starts_of (all_kept done)) = v.directory.firsts i a b ∙ o ∙ ap (λ (m : List ℕ). directory_places + length m) kd in
            let rest : List ℕ = drop (length (kept have (held s))) (drop directory_places v.old) in
            let d : drop directory_places index ≡ flat starts_of (all_kept done) ++ (starts_of e ++ (flat starts_of (all_kept more) ++ rest)) =
            v.directory.starts
            ∙ ap (λ (m : List ℕ). m ++ rest) (all ∙ fl)
            ∙ append_assoc (flat starts_of (all_kept done)) (starts_of e ++ flat starts_of (all_kept more)) rest
            ∙ ap (λ (m : List ℕ). flat starts_of (all_kept done) ++ m) (append_assoc (starts_of e) (flat starts_of (all_kept more)) rest)
            in
            record {
              sec = e;
              whole = record { is = is; small = omega (arith, st.1, bound.1) };
              id = k;
              alone = only;
              bytes_are = by_id (held s) ∙ ap (flat bytes_for) only ∙ append-nil (bytes_for e);
              far = omega (arith, at);
              near = omega (arith, at, st.1);
              short = bound.1;
              stands = ap (λ (n : ℕ). take (length e) (drop n s)) at ∙ st.0;
              starts = held_at (flat starts_of (all_kept done)) (flat starts_of (all_kept more) ++ rest) (get_or index (i + 8) 0) first d;
              few = omega (arith, first, starts_most (held s) valid.are valid.once, ap length fl, n-done);
            }
          where
            held_at : (x y : List ℕ) (n : ℕ) → n ≡ directory_places + length x → drop directory_places index ≡ x ++ (starts_of e ++ y) → Held index n e
            held_at x y n h d =
                let g : drop n index ≡ starts_of e ++ y = ap (λ (m : ℕ). drop m index) h ∙ sym (drop-drop (length x) directory_places index) ∙ ap (drop (length x)) d ∙ drop-append_seam x (starts_of e ++ y) in
                let c : n + length (starts_of e) - n ≡ length (starts_of e) = omega arith in
                record {
                  inside = omega (arith, h, ap length d, length-append x (starts_of e ++ y), length-append (starts_of e) y, length-drop directory_places index);
                  same = ap (λ (m : ℕ). take m (drop n index)) c ∙ ap (take (length (starts_of e))) g ∙ take-append_seam (starts_of e) y;
                }
