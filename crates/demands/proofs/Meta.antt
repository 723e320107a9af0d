-- META of a file, as it is answered: its fields are those of the payload, and the label's place and length name its bytes.
-- Assumes nothing.
use mathlib.Core.Path.{◌≡◌, refl, sym, ◌∙◌, ap, subst}
use mathlib.Core.Logic.{◌⊎◌, inl, inr}
use mathlib.Core.Bool.{Bool, true, false, cond}
use mathlib.Core.List.{List, [], ◌∷◌, ◌++◌, append_assoc}
use Prim.Native.Nat.{ℕ, ◌+◌, ◌<◌}
use native.Mathlib.Omega.{arith}
use lib.ListN.{length, take, drop, length-append, take-append-drop}
use lib.Seq.{drop-drop, take_at, drop_at}
use lib.Dec.{leb, eqb}
use borrow.Author.Tests.{leb-true, leb-false, eqb-true, eqb-false, ne_eqb}
use Rattle.answer.specs.Outcome.{Outcome, taken, refused, after}
use Rattle.answer.proofs.Outcomes.{taken_is, taken_refused}
use Rattle.wire.specs.Numbers.{le, le_at}
use Rattle.wire.proofs.Numbers.{le_at_here, le_at_front, le_at-head}
use Rattle.format.specs.Format.{Is, option, bytes, text}
use Rattle.order.specs.Keyed.{flat, keep}
use Rattle.order.proofs.Keeps.{of_key}
use Rattle.aerosnap.specs.Known.{META}
use Rattle.aerosnap.specs.Payloads.{meta_form}
use Rattle.aerosnap.specs.File.{id_of, file_of}
use Rattle.aerosnap.specs.Rules.{IsFile, IsSection}
use Rattle.aerosnap.specs.Content.{is_id, rank, tidy, Content, content_of, content_at, written_sections}
use Rattle.aerosnap.proofs.Taken.{file_sound}
use Rattle.aerosnap.proofs.Ranks.{rank_id, Only, absent as not_there, found, only_one}
use Rattle.aerosnap.proofs.Ranked.{ranked}
use Rattle.sections.specs.Walks.{place_of}
use Rattle.sections.proofs.Found.{Here, none-there, there}
use Rattle.snapshot.specs.declared.MetaFields.{MetaFields}
use Rattle.snapshot.specs.MetaSection.{silent, absent, time_in, label_in, meta_at, meta_in, as_meta}
use Rattle.snapshot.proofs.MetaSection.{none_said, one_said}
use Rattle.demands.specs.Meta.{MetaAnswer, HasMeta, MayNumber, MayLabel, SaysMeta, unplaced, Meta}
use Rattle.demands.proofs.Text.{texts}
use Rattle.demands.proofs.Tails.{meta_stays}

-- ---- numbers behind other bytes

number_behind : (n : ℕ) (w x y : List ℕ) {at : ℕ} → length w ≡ at → length x ≡ n → le_at n (w ++ (x ++ y)) at ≡ le x
number_behind n w x y {at} h k = sym (le_at_here n (w ++ (x ++ y)) at) ∙ ap (λ (b : List ℕ). le_at n b 0) (drop_at w (x ++ y) at h) ∙ le_at_front n x y k

byte_behind : (w : List ℕ) (b : ℕ) (y : List ℕ) {at : ℕ} → length w ≡ at → le_at 1 (w ++ (b ∷ y)) at ≡ b
byte_behind w b y {at} h = sym (le_at_here 1 (w ++ (b ∷ y)) at) ∙ ap (λ (c : List ℕ). le_at 1 c 0) (drop_at w (b ∷ y) at h) ∙ le_at-head b y

-- bytes that stand in a part of a file
named : (s p more w x y : List ℕ) (at k : ℕ) → drop at s ≡ p ++ more → p ≡ w ++ (x ++ y) → length w ≡ k → take (length x) (drop (at + k) s) ≡ x
named s p more w x y at k d e h =
    let part : drop at s ≡ w ++ (x ++ (y ++ more)) = d ∙ ap (λ (b : List ℕ). b ++ more) e ∙ append_assoc w (x ++ y) more ∙ ap (λ (b : List ℕ). w ++ b) (append_assoc x y more) in
    ap (take (length x)) (sym (drop-drop k at s) ∙ ap (drop k) part ∙ drop_at w (x ++ (y ++ more)) k h) ∙ take_at x (y ++ more) (length x) refl

-- ---- the payload by its parts

module _ (p id parent time label tail : List ℕ) (q : p ≡ id ++ (parent ++ (time ++ (label ++ tail)))) (i : length id ≡ 8) (t : length time ≡ 8) where
  parent_byte : (b : ℕ) (x : List ℕ) → parent ≡ b ∷ x → le_at 1 p 8 ≡ b
  parent_byte b x e = ap (λ (s : List ℕ). le_at 1 s 8) (q ∙ ap (λ (y : List ℕ). id ++ (y ++ (time ++ (label ++ tail)))) e) ∙ byte_behind id b (x ++ (time ++ (label ++ tail))) i

  -- the time stands behind the parent
  parent_said : Is (option (bytes 8)) parent → (time_in p ≡ 8 + length parent) × MayNumber parent (cond (absent p 8) 0 1) (cond (absent p 8) 0 (le_at 8 p 9))
  parent_said (inl e) =
      let z : absent p 8 ≡ true = ap (λ (b : ℕ). eqb b 0) (parent_byte 0 [] e) in
      let k : time_in p ≡ 9 = ap (λ (b : Bool). cond b 9 17) z in
      (omega (arith, k, ap length e), inl (e, ap (λ (b : Bool). cond b 0 1) z, ap (λ (b : Bool). cond b 0 (le_at 8 p 9)) z))
  parent_said (inr (x, e, (n, _))) =
      let z : absent p 8 ≡ false = ap (λ (b : ℕ). eqb b 0) (parent_byte 1 x e) in
      let w : p ≡ (id ++ (1 ∷ [])) ++ (x ++ (time ++ (label ++ tail))) = q ∙ ap (λ (y : List ℕ). id ++ (y ++ (time ++ (label ++ tail)))) e ∙ sym (append_assoc id (1 ∷ []) (x ++ (time ++ (label ++ tail)))) in
      let k : time_in p ≡ 17 = ap (λ (b : Bool). cond b 9 17) z in
      let m : le_at 8 p 9 ≡ le x = ap (λ (s : List ℕ). le_at 8 s 9) w ∙ number_behind 8 (id ++ (1 ∷ [])) x (time ++ (label ++ tail)) (length-append id (1 ∷ []) ∙ omega arith) n in
      (omega (arith, k, n, ap length e), inr (x, e, n, ap (λ (b : Bool). cond b 0 1) z, ap (λ (b : Bool). cond b 0 (le_at 8 p 9)) z ∙ m))

  module _ (k : time_in p ≡ 8 + length parent) where
    time_said : le_at 8 p (time_in p) ≡ le time
    time_said =
        ap (λ (s : List ℕ). le_at 8 s (time_in p)) (q ∙ sym (append_assoc id parent (time ++ (label ++ tail))))
        ∙ number_behind 8 (id ++ parent) time (label ++ tail) (length-append id parent ∙ omega arith) t

    -- what stands before the label
    abbrev before : List ℕ
    before = id ++ (parent ++ time)

    before-length : length before ≡ label_in p
    before-length = omega (arith, length-append id (parent ++ time), length-append parent time)

    label_split : p ≡ before ++ (label ++ tail)
    label_split = q ∙ ap (λ (b : List ℕ). id ++ b) (sym (append_assoc parent time (label ++ tail))) ∙ sym (append_assoc id (parent ++ time) (label ++ tail))

    label_byte : (b : ℕ) (x : List ℕ) → label ≡ b ∷ x → le_at 1 p (label_in p) ≡ b
    label_byte b x e = ap (λ (s : List ℕ). le_at 1 s (label_in p)) (label_split ∙ ap (λ (y : List ℕ). before ++ (y ++ tail)) e) ∙ byte_behind before b (x ++ tail) before-length

    -- the payload stands at a place of the file s
    label_said : (s more : List ℕ) (at : ℕ) → drop at s ≡ p ++ more → Is (option (text 4096)) label
        → MayLabel s label (cond (absent p (label_in p)) 0 1) (cond (absent p (label_in p)) 0 (at + (label_in p + 5))) (cond (absent p (label_in p)) 0 (le_at 4 p (label_in p + 1)))
    label_said s more at d (inl e) =
        let z : absent p (label_in p) ≡ true = ap (λ (b : ℕ). eqb b 0) (label_byte 0 [] e) in
        inl (e, ap (λ (b : Bool). cond b 0 1) z, ap (λ (b : Bool). cond b 0 (at + (label_in p + 5))) z, ap (λ (b : Bool). cond b 0 (le_at 4 p (label_in p + 1))) z)
    label_said s more at d (inr (y, e, (n, x, u, l, m, few, ask))) =
        let f : label ≡ 1 ∷ (n ++ x) = e ∙ ap (λ (b : List ℕ). 1 ∷ b) u in
        let z : absent p (label_in p) ≡ false = ap (λ (b : ℕ). eqb b 0) (label_byte 1 y e) in
        let v : p ≡ before ++ (1 ∷ (n ++ (x ++ tail))) = label_split ∙ ap (λ (b : List ℕ). before ++ (b ++ tail)) f ∙ ap (λ (b : List ℕ). before ++ (1 ∷ b)) (append_assoc n x tail) in
        let w : p ≡ (before ++ (1 ∷ [])) ++ (n ++ (x ++ tail)) = v ∙ sym (append_assoc before (1 ∷ []) (n ++ (x ++ tail))) in
        let j : le_at 4 p (label_in p + 1) ≡ length x = ap (λ (b : List ℕ). le_at 4 b (label_in p + 1)) w ∙ number_behind 4 (before ++ (1 ∷ [])) n (x ++ tail) (length-append before (1 ∷ []) ∙ omega (arith, before-length)) l ∙ m in
        let long : cond (absent p (label_in p)) 0 (le_at 4 p (label_in p + 1)) ≡ length x = ap (λ (b : Bool). cond b 0 (le_at 4 p (label_in p + 1))) z ∙ j in
        let place : cond (absent p (label_in p)) 0 (at + (label_in p + 5)) ≡ at + (label_in p + 5) = ap (λ (b : Bool). cond b 0 (at + (label_in p + 5))) z in
        let c : p ≡ (before ++ (1 ∷ n)) ++ (x ++ tail) = v ∙ sym (append_assoc before (1 ∷ n) (x ++ tail)) in
        let g : length (before ++ (1 ∷ n)) ≡ label_in p + 5 = length-append before (1 ∷ n) ∙ omega (arith, before-length, l) in
        inr (n, x, f, l, m, leb-true (length x) 4096 few.0, (texts.fields x).0 ask, ap (λ (b : Bool). cond b 0 1) z, long, rw (long, place) (named s p more (before ++ (1 ∷ n)) x tail at (label_in p + 5) d c g))

-- ---- the section

body_is : (e : List ℕ) → IsSection e → id_of e ≡ META → (x : List ℕ) × (tail : List ℕ) × (drop 16 e ≡ x ++ tail) × Is meta_form x
body_is e h i = rw i at (h.rules (rw i refl)).body

module _ (s e : List ℕ) (at : ℕ) (more : List ℕ) (d : drop at s ≡ drop 16 e ++ more) where
  pub section_said : IsSection e → id_of e ≡ META → SaysMeta s e (meta_at at (drop 16 e))
  section_said h i = go (body_is e h i)
    where
      go : (x : List ℕ) × (tail : List ℕ) × (drop 16 e ≡ x ++ tail) × Is meta_form x → SaysMeta s e (meta_at at (drop 16 e))
      go (x, tail, c, (id, y, cy, (li, _), (parent, z, cz, o, (time, label, cl, (lt, _), j)))) =
          let q : drop 16 e ≡ id ++ (parent ++ (time ++ (label ++ tail))) =
          c ∙ ap (λ (b : List ℕ). b ++ tail) (cy ∙ ap (λ (b : List ℕ). id ++ b) (cz ∙ ap (λ (b : List ℕ). parent ++ b) cl))
          ∙ append_assoc id (parent ++ (time ++ label)) tail ∙ ap (λ (b : List ℕ). id ++ b) (append_assoc parent (time ++ label) tail ∙ ap (λ (b : List ℕ). parent ++ b) (append_assoc time label tail)) in
          let u = parent_said (drop 16 e) id parent time label tail q li lt o in
          record {
            there = (refl, refl, refl);
            id = id;
            parent = parent;
            time = time;
            label = label;
            tail = tail;
            bytes = q;
            id_is = (li, ap (λ (b : List ℕ). le_at 8 b 0) q ∙ le_at_front 8 id (parent ++ (time ++ (label ++ tail))) li);
            parent_is = u.1;
            time_is = (lt, time_said (drop 16 e) id parent time label tail q li lt u.0);
            label_is = label_said (drop 16 e) id parent time label tail q li lt u.0 s more at d j;
          }

-- ---- a file that is taken

module _ (s : List ℕ) {l : List (List ℕ)} (c : file_of s ≡ taken l) where
  answered : (r : MetaFields) → MetaAnswer s r → r ≡ meta_in 16 l
  answered r a = a ∙ ap (λ (o : Outcome (List (List ℕ))). as_meta (after o (λ l. taken (meta_in 16 l)))) c

  one_or_none : (keep (is_id META) l ≡ []) ⊎ ((e : List ℕ) × (keep (is_id META) l ≡ e ∷ []))
  one_or_none = go (only_one META refl l v.are v.once) refl
    where
      v : IsFile l
      v = (file_sound s c).1

      go : {m : List (List ℕ)} → Only META m → keep (is_id META) l ≡ m → (keep (is_id META) l ≡ []) ⊎ ((e : List ℕ) × (keep (is_id META) l ≡ e ∷ []))
      go not_there q = inl q
      go (found {e} h i) q = inr (e, q)

  -- where META starts, in a file that has it
  meta_start : {e : List ℕ} → keep (is_id META) l ≡ e ∷ [] → place_of META 16 l < length s
  meta_start {e} k = go (leb (length s) (place_of META 16 l)) refl
    where
      go : (b : Bool) → leb (length s) (place_of META 16 l) ≡ b → place_of META 16 l < length s
      go true h = let z = none-there META s c refl (leb-true _ _ h) in let y : ◌≡◌ {A = ℕ} 0 1 = cc in absurd (omega arith)
      go false h = leb-false _ _ h

  meta_said : {e : List ℕ} (r : MetaFields) → MetaAnswer s r → keep (is_id META) l ≡ e ∷ [] → SaysMeta s e r
  meta_said {e} r a k =
      let p : ℕ = place_of META 16 l in
      let h : Here META s l p = there META s c refl refl (meta_start k) in
      let n : ℕ = le_at 8 s (p + 8) in
      let same : h.sec ≡ e = let y = sym h.alone ∙ k in cc in
      let d : drop (p + 16) s ≡ drop 16 h.sec ++ drop n (drop (p + 16) s) = sym (take-append-drop n (drop (p + 16) s)) ∙ ap (λ (b : List ℕ). b ++ drop n (drop (p + 16) s)) h.part in
      let u : SaysMeta s h.sec (meta_at (p + 16) (drop 16 h.sec)) = section_said s h.sec (p + 16) (drop n (drop (p + 16) s)) d h.is h.id in
      let w : r ≡ meta_at (p + 16) (drop 16 h.sec) = answered r a ∙ one_said 16 l h.alone in
      subst (λ (b : List ℕ). SaysMeta s b r) same (rw w u)

  meta_none : (r : MetaFields) → MetaAnswer s r → keep (is_id META) l ≡ [] → r ≡ silent 0 0
  meta_none r a k = answered r a ∙ none_said 16 l k

  -- whether it is there
  has_meta : (r : MetaFields) → MetaAnswer s r → ((e : List ℕ) × HasMeta s e × (r.present ≡ 1)) ⊎ (r ≡ silent 0 0)
  has_meta r a = go one_or_none
    where
      go : (keep (is_id META) l ≡ []) ⊎ ((e : List ℕ) × (keep (is_id META) l ≡ e ∷ [])) → ((e : List ℕ) × HasMeta s e × (r.present ≡ 1)) ⊎ (r ≡ silent 0 0)
      go (inl k) = inr (meta_none r a k)
      go (inr (e, k)) = inl (e, (l, c, k), (meta_said r a k).there.2)

refused_said : (s : List ℕ) {n p : ℕ} (r : MetaFields) → file_of s ≡ refused n p → MetaAnswer s r → r ≡ silent n p
refused_said s r c a = a ∙ ap (λ (o : Outcome (List (List ℕ))). as_meta (after o (λ l. taken (meta_in 16 l)))) c

present_said : (s : List ℕ) (r : MetaFields) → MetaAnswer s r → ((e : List ℕ) × HasMeta s e × (r.present ≡ 1)) ⊎ (r.present ≡ 0)
present_said s r a = go (file_of s) refl
  where
    go : (o : Outcome (List (List ℕ))) → file_of s ≡ o → ((e : List ℕ) × HasMeta s e × (r.present ≡ 1)) ⊎ (r.present ≡ 0)
    go (taken l) c = by (has_meta s c r a)
      where
        by : ((e : List ℕ) × HasMeta s e × (r.present ≡ 1)) ⊎ (r ≡ silent 0 0) → ((e : List ℕ) × HasMeta s e × (r.present ≡ 1)) ⊎ (r.present ≡ 0)
        by (inl h) = inl h
        by (inr h) = inr (ap (λ (m : MetaFields). m.present) h)
    go (refused n p) c = inr (ap (λ (m : MetaFields). m.present) (refused_said s r c a))

-- ---- files with the same content

keep_same : {E : Type 0} (p q : E → Bool) → ((x : E) → p x ≡ q x) → (l : List E) → keep p l ≡ keep q l
keep_same p q h [] = refl
keep_same {E} p q h (x ∷ l) = ap (λ (b : Bool). cond b (x ∷ keep p l) (keep p l)) (h x) ∙ ap (λ (m : List E). cond (q x) (x ∷ m) m) (keep_same p q h l)

-- META alone has its rank
meta_rank : (e : List ℕ) → eqb (rank e) META ≡ is_id META e
meta_rank e = go (is_id META e) refl
  where
    go : (b : Bool) → is_id META e ≡ b → eqb (rank e) META ≡ b
    go true h = let i : id_of e ≡ META = eqb-true (id_of e) META h in rw i refl
    go false h = ne_eqb (rank e) META (λ k. eqb-false (id_of e) META h (rank_id e META (omega arith) k))

-- it is written as it is
meta_written : (l : List (List ℕ)) → IsFile l → of_key rank META (written_sections (content_of l)) ≡ keep (is_id META) l
meta_written l v = ranked l v META ∙ ap (flat tidy) (keep_same (λ e. eqb (rank e) META) (is_id META) meta_rank l) ∙ go (only_one META refl l v.are v.once)
  where
    go : {m : List (List ℕ)} → Only META m → flat tidy m ≡ m
    go not_there = refl
    go (found {e} h i) = ap (λ (k : List (List ℕ)). k ++ []) (meta_stays e i)

-- the content by what was read
content_by : (s : List ℕ) {o : Outcome (List (List ℕ))} → file_of s ≡ o → content_at s ≡ after o (λ l. taken (content_of l))
content_by s c = ap (λ (o : Outcome (List (List ℕ))). after o (λ l. taken (content_of l))) c

module _ (s t : List ℕ) (h : content_at s ≡ content_at t) where
  -- one file is taken where the other is, and both have the same META
  content_meta : {l m : List (List ℕ)} → file_of s ≡ taken l → file_of t ≡ taken m → keep (is_id META) l ≡ keep (is_id META) m
  content_meta {l} {m} c d =
      let k : content_of l ≡ content_of m = taken_is (sym (content_by s c) ∙ h ∙ content_by t d) in
      sym (meta_written l (file_sound s c).1) ∙ ap (λ (c : Content). of_key rank META (written_sections c)) k ∙ meta_written m (file_sound t d).1

  both : {l : List (List ℕ)} → file_of s ≡ taken l → (m : List (List ℕ)) × (file_of t ≡ taken m)
  both {l} c = go (file_of t) refl
    where
      go : (o : Outcome (List (List ℕ))) → file_of t ≡ o → (m : List (List ℕ)) × (file_of t ≡ taken m)
      go (taken m) d = (m, d)
      go (refused n p) d = absurd (taken_refused (sym (content_by s c) ∙ h ∙ content_by t d))

  meta_kept : (e : List ℕ) → HasMeta s e → HasMeta t e
  meta_kept e (l, c, k) = let (m, d) = both c in (m, d, sym (content_meta c d) ∙ k)

-- where META stands is not seen but in the label's place
unplaced_in : (at n : ℕ) (l m : List (List ℕ)) → keep (is_id META) l ≡ keep (is_id META) m → ((keep (is_id META) l ≡ []) ⊎ ((e : List ℕ) × (keep (is_id META) l ≡ e ∷ []))) → unplaced (meta_in at l) ≡ unplaced (meta_in n m)
unplaced_in at n l m k (inl h) = ap unplaced (none_said at l h ∙ sym (none_said n m (sym k ∙ h)))
unplaced_in at n l m k (inr (e, h)) = ap unplaced (one_said at l h) ∙ ap unplaced (sym (one_said n m (sym k ∙ h)))

meta_same : (s t : List ℕ) (r q : MetaFields) → content_at s ≡ content_at t → MetaAnswer s r → MetaAnswer t q → unplaced r ≡ unplaced q
meta_same s t r q h a b = go (file_of s) refl (file_of t) refl
  where
    go : (o : Outcome (List (List ℕ))) → file_of s ≡ o → (u : Outcome (List (List ℕ))) → file_of t ≡ u → unplaced r ≡ unplaced q
    go (taken l) c (taken m) d = ap unplaced (answered s c r a) ∙ unplaced_in 16 16 l m (content_meta s t h c d) (one_or_none s c) ∙ sym (ap unplaced (answered t d q b))
    go (taken l) c (refused n p) d = absurd (taken_refused (sym (content_by s c) ∙ h ∙ content_by t d))
    go (refused n p) c (taken m) d = absurd (taken_refused (sym (content_by t d) ∙ sym h ∙ content_by s c))
    go (refused n p) c (refused i j) d =
        let k : ◌≡◌ {A = Outcome Content} (refused n p) (refused i j) = sym (content_by s c) ∙ h ∙ content_by t d in
        let x : n ≡ i = cc in
        let y : p ≡ j = cc in
        let z : silent n p ≡ silent i j = cc in
        ap unplaced (refused_said s r c a ∙ z ∙ sym (refused_said t q d b))

pub meta : Meta
meta = record {
  present = λ s r a. ((λ h. by s r a h (present_said s r a)), λ (e, (l, c, k)). (meta_said s c r a k).there.2);
  yes_or_no = λ s r a. either s r a (present_said s r a);
  says = λ s e r a (l, c, k). meta_said s c r a k;
  one_or_none = λ s l c. one_or_none s c;
  none = λ s l r a c k. meta_none s c r a k;
  kept = λ s t e h. meta_kept s t h e;
  same = meta_same;
}
  where
    by : (s : List ℕ) (r : MetaFields) → MetaAnswer s r → r.present ≡ 1 → ((e : List ℕ) × HasMeta s e × (r.present ≡ 1)) ⊎ (r.present ≡ 0) → (e : List ℕ) × HasMeta s e
    by s r a h (inl (e, m, _)) = (e, m)
    by s r a h (inr z) = absurd (omega arith)

    either : (s : List ℕ) (r : MetaFields) → MetaAnswer s r → ((e : List ℕ) × HasMeta s e × (r.present ≡ 1)) ⊎ (r.present ≡ 0) → (r.present ≡ 0) ⊎ (r.present ≡ 1)
    either s r a (inl (e, m, h)) = inr h
    either s r a (inr z) = inl z
