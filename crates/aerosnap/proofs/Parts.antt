-- The parts of a file: they cover it in order, those that are kept follow the rules, and where no section is broken all are kept.
-- Assumes nothing.
use mathlib.Core.Path.{◌≡◌, refl, sym, ◌∙◌, ap, subst}
use mathlib.Core.List.{List, [], ◌∷◌, ◌++◌, map, append-nil, append_assoc}
use mathlib.Core.Bool.{Bool, true, false, cond}
use Prim.Native.Nat.{ℕ, zero, suc, ◌+◌, ◌-◌, ◌≤◌, ◌<◌}
use native.Mathlib.Omega.{arith}
use lib.ListN.{length, take, drop, length-append, length-drop, take-append-drop, drop_of_length-le}
use lib.Seq.{length-take-le, take-append_seam, drop-append_seam, take_all, drop-drop}
use lib.Dec.{leb}
use borrow.Author.Tests.{leb-true}
use Rattle.answer.specs.Numbers.{CUT}
use Rattle.answer.specs.Outcome.{Outcome, taken, refused, checked, after}
use Rattle.answer.proofs.Checks.{checked-pass, and_true}
use Rattle.answer.proofs.Outcomes.{taken_is, after_taken}
use Rattle.order.specs.Keyed.{Every}
use Rattle.order.specs.Entries.{join}
use Rattle.order.proofs.Folds.{every_append}
use Rattle.aerosnap.specs.File.{sections_most, id_of, version_of, flags_of, length_of, payload_of, fits_in, frame_checks, ruled, section_of}
use Rattle.aerosnap.specs.Rules.{IsSection}
use Rattle.aerosnap.specs.Salvage.{Part, keeps, loses, bytes_in, kept_by, length_of_part, read_part, part_by, part_of, parts_from, all_kept}
use Rattle.aerosnap.proofs.Sections.{Took, section_sound, section_complete}
use Rattle.aerosnap.proofs.Slots.{Once, once_last, once_middle}

-- ---- the first part

-- a section that is taken fits
pub section_fits : (before : List (List ℕ)) (at : ℕ) (b : List ℕ) {w : ℕ} → section_of before at b ≡ taken w → (fits_in b ≡ true) × (16 + length_of b ≡ w)
unfolding section_of
section_fits before at b {w} h =
    let r : Outcome (Unit {0}) = ruled before at (id_of b) (version_of b) (flags_of b) (payload_of b) in
    let c = checked-pass (frame_checks before at b) (after r (λ _. taken (16 + length_of b))) w h in
    (rw (c.0.0, c.0.1.1.0), taken_is (after_taken r (λ _. taken (16 + length_of b)) c.1).2)

-- a part is not empty, and ends within
pub part_inside : (b : List ℕ) → 0 < length b → (0 < length_of_part b) × (length_of_part b ≤ length b)
part_inside b i = go (fits_in b) refl
  where
    go : (t : Bool) → fits_in b ≡ t → (0 < cond t (16 + length_of b) (length b)) × (cond t (16 + length_of b) (length b) ≤ length b)
    go true h = let k = and_true (leb 16 (length b)) (leb (length_of b) (length b - 16)) h in (omega arith, omega (arith, leb-true 16 (length b) k.0, leb-true (length_of b) (length b - 16) k.1))
    go false h = (i, omega arith)

module _ (before : List (List ℕ)) (at : ℕ) (b : List ℕ) where
  pub part_bytes : bytes_in (part_of before at b) ≡ take (length_of_part b) b
  unfolding part_of
  part_bytes = go (read_part before at b)
    where
      go : (o : Outcome ℕ) → bytes_in (part_by o (take (length_of_part b) b)) ≡ take (length_of_part b) b
      go (taken w) = refl
      go (refused n p) = refl

  pub part_length : 0 < length b → length (bytes_in (part_of before at b)) ≡ length_of_part b
  part_length i = ap length part_bytes ∙ length-take-le (length_of_part b) b (part_inside b i).1

  -- what is taken is kept
  pub part_taken : {w : ℕ} → section_of before at b ≡ taken w → part_of before at b ≡ keeps (take w b)
  unfolding part_of
  part_taken {w} h = let f = section_fits before at b h in rw (f.0, h) (ap (λ (k : ℕ). keeps (take k b)) f.1)

  -- what does not fit is lost to the end
  pub part_stop : fits_in b ≡ false → part_of before at b ≡ loses CUT b
  unfolding part_of
  part_stop h = rw h (ap (loses CUT) (take_all (length b) b (omega arith)))

  -- a section that fits and is refused is lost with the reader's number
  pub part_lost : fits_in b ≡ true → {n p : ℕ} → section_of before at b ≡ refused n p → part_of before at b ≡ loses n (take (16 + length_of b) b)
  unfolding part_of
  part_lost f h = rw (f, h) refl

  -- what is kept was taken
  pub data Kept : Part → Type 0 where
    gone : {n : ℕ} {e : List ℕ} → Kept (loses n e)
    took : {e : List ℕ} → section_of before at b ≡ taken (length e) → Took before at b (length e) → e ≡ take (length e) b → Kept (keeps e)

  pub part_kept : 0 < length b → Kept (part_of before at b)
  unfolding part_of
  part_kept i = go (fits_in b) refl (section_of before at b) refl
    where
      go : (t : Bool) → fits_in b ≡ t → (o : Outcome ℕ) → section_of before at b ≡ o → Kept (part_by (checked ((t, CUT, at) ∷ []) o) (take (cond t (16 + length_of b) (length b)) b))
      go false f o h = gone
      go true f (refused n p) h = gone
      go true f (taken w) h =
          let q = (section_fits before at b h).1 in
          let l : length (take (16 + length_of b) b) ≡ w = length-take-le (16 + length_of b) b (omega (arith, ap (λ (t : Bool). cond t (16 + length_of b) (length b)) f, (part_inside b i).1)) ∙ q in
          took (h ∙ ap taken (sym l)) (section_sound before at b (h ∙ ap taken (sym l))) (ap (λ (k : ℕ). take k b) (q ∙ sym l))

-- ---- all of them cover the bytes, in order

pub parts_cover : (n : ℕ) (before : List (List ℕ)) (at : ℕ) (b : List ℕ) → length b ≤ n → join (map bytes_in (parts_from n before at b)) ≡ b
unfolding parts_from
parts_cover zero before at [] i = refl
parts_cover zero before at (c ∷ b) i = absurd (omega arith)
parts_cover (suc n) before at [] i = refl
parts_cover (suc n) before at (c ∷ b) i =
    let x : Part = part_of before at (c ∷ b) in
    let e : List ℕ = bytes_in x in
    let l : length e ≡ length_of_part (c ∷ b) = part_length before at (c ∷ b) (omega arith) in
    let q : e ≡ take (length e) (c ∷ b) = part_bytes before at (c ∷ b) ∙ ap (λ (k : ℕ). take k (c ∷ b)) (sym l) in
    let m = part_inside (c ∷ b) (omega arith) in
    let r = parts_cover n (before ++ kept_by x) (at + length e) (drop (length e) (c ∷ b)) (omega (arith, length-drop (length e) (c ∷ b))) in
    ap (λ (y : List ℕ). e ++ y) r ∙ ap (λ (y : List ℕ). y ++ drop (length e) (c ∷ b)) q ∙ take-append-drop (length e) (c ∷ b)

-- ---- those that are kept follow the rules

-- sections that may stand in a file
pub record Sound (l : List (List ℕ)) : Type 0 where
  pub few : length l ≤ sections_most
  pub are : Every IsSection l
  pub once : Once l

pub part_sound : (before : List (List ℕ)) (at : ℕ) (b : List ℕ) → 0 < length b → Sound before → Sound (before ++ kept_by (part_of before at b))
part_sound before at b i v = go (part_kept before at b i)
  where
    go : {x : Part} → Kept before at b x → Sound (before ++ kept_by x)
    go gone = subst Sound (sym (append-nil before)) v
    go (took {e} h t q) =
        let z : e ≡ t.e = q ∙ rw (t.ends, t.cut) (take-append_seam t.e t.more) in
        rw z (record {
          few = omega (arith, t.room, length-append before (t.e ∷ []));
          are = every_append IsSection before (t.e ∷ []) v.are (t.is, tt);
          once = once_last t.e before t.new v.once;
        })

pub parts_sound : (n : ℕ) (before : List (List ℕ)) (at : ℕ) (b : List ℕ) → Sound before → Sound (before ++ all_kept (parts_from n before at b))
unfolding parts_from
parts_sound zero before at b v = subst Sound (sym (append-nil before)) v
parts_sound (suc n) before at [] v = subst Sound (sym (append-nil before)) v
parts_sound (suc n) before at (c ∷ b) v =
    let x : Part = part_of before at (c ∷ b) in
    let g : List (List ℕ) = before ++ kept_by x in
    let r = parts_sound n g (at + length (bytes_in x)) (drop (length (bytes_in x)) (c ∷ b)) (part_sound before at (c ∷ b) (omega arith) v) in
    subst Sound (append_assoc before (kept_by x) (all_kept (parts_from n g (at + length (bytes_in x)) (drop (length (bytes_in x)) (c ∷ b))))) r

-- ---- where no section is broken

pub parts_all : (l : List (List ℕ)) (n : ℕ) (before : List (List ℕ)) (at : ℕ) → length (join l) ≤ n → length before + length l ≤ sections_most → Every IsSection l → Once (before ++ l)
    → parts_from n before at (join l) ≡ map keeps l
unfolding parts_from
parts_all [] zero before at i j a d = refl
parts_all [] (suc n) before at i j a d = refl
parts_all ([] ∷ l) n before at i j a d = absurd (omega (arith, a.0.whole))
parts_all ((c ∷ e) ∷ l) zero before at i j a d = absurd (omega arith)
parts_all ((c ∷ e) ∷ l) (suc n) before at i j a d =
    let x : List (List ℕ) = before ++ ((c ∷ e) ∷ []) in
    let s = section_complete before at (c ∷ e) (join l) (omega arith) a.0 (once_middle (c ∷ e) before l d) in
    let p : part_of before at (c ∷ (e ++ join l)) ≡ keeps (c ∷ e) = part_taken before at (c ∷ (e ++ join l)) s ∙ ap keeps (take-append_seam (c ∷ e) (join l)) in
    rw (p, drop-append_seam (c ∷ e) (join l))
    (ap (λ (m : List Part). keeps (c ∷ e) ∷ m) (parts_all l n x (at + length (c ∷ e)) (omega (arith, length-append (c ∷ e) (join l))) (omega (arith, length-append before ((c ∷ e) ∷ []))) a.1 (subst Once (sym (append_assoc before ((c ∷ e) ∷ []) l)) d)))

-- ---- the parts from a place on

-- fuel that is enough does not matter
parts_fuel : (n m : ℕ) (before : List (List ℕ)) (at : ℕ) (b : List ℕ) → length b ≤ n → length b ≤ m → parts_from n before at b ≡ parts_from m before at b
unfolding parts_from
parts_fuel zero zero before at b i j = refl
parts_fuel zero (suc m) before at [] i j = refl
parts_fuel (suc n) zero before at [] i j = refl
parts_fuel (suc n) (suc m) before at [] i j = refl
parts_fuel zero (suc m) before at (c ∷ b) i j = absurd (omega arith)
parts_fuel (suc n) zero before at (c ∷ b) i j = absurd (omega arith)
parts_fuel (suc n) (suc m) before at (c ∷ b) i j =
    let x : Part = part_of before at (c ∷ b) in
    let k : ℕ = length (bytes_in x) in
    let l : k ≡ length_of_part (c ∷ b) = part_length before at (c ∷ b) (omega arith) in
    let p = part_inside (c ∷ b) (omega arith) in
    let d = length-drop k (c ∷ b) in
    ap (λ (t : List Part). x ∷ t) (parts_fuel n m (before ++ kept_by x) (at + k) (drop k (c ∷ b)) (omega arith) (omega arith))

abbrev pub parts_at : List (List ℕ) → List ℕ → ℕ → List Part
parts_at before s at = parts_from (length s) before at (drop at s)

module _ (before : List (List ℕ)) (s : List ℕ) (at : ℕ) where
  pub parts_end : length s ≤ at → parts_at before s at ≡ []
  unfolding parts_from
  parts_end h = ap (parts_from (length s) before at) (drop_of_length-le s h) ∙ go (length s)
    where
      go : (n : ℕ) → parts_from n before at [] ≡ []
      go zero = refl
      go (suc n) = refl

  module _ (h : at < length s) where
    abbrev b : List ℕ
    b = drop at s

    left : 0 < length b
    left = rw length-drop (omega arith)

    parts_next : parts_at before s at ≡ part_of before at b ∷ parts_at (before ++ kept_by (part_of before at b)) s (at + length_of_part b)
    unfolding parts_from
    parts_next = go (length s) b left (omega (arith, length-drop at s)) ∙ cc (part_length before at b left, again)
      where
        go : (n : ℕ) (b : List ℕ) → 0 < length b → length b ≤ n → parts_from n before at b ≡ part_of before at b ∷ parts_from n (before ++ kept_by (part_of before at b)) (at + length (bytes_in (part_of before at b))) (drop (length (bytes_in (part_of before at b))) b)
        go n [] i j = absurd (omega arith)
        go zero (c ∷ b) i j = absurd (omega arith)
        go (suc n) (c ∷ b) i j =
            let x : Part = part_of before at (c ∷ b) in
            let k : ℕ = length (bytes_in x) in
            let l : k ≡ length_of_part (c ∷ b) = part_length before at (c ∷ b) i in
            let p = part_inside (c ∷ b) i in
            let d = length-drop k (c ∷ b) in
            ap (λ (t : List Part). x ∷ t) (parts_fuel n (suc n) (before ++ kept_by x) (at + k) (drop k (c ∷ b)) (omega arith) (omega arith))

        again : drop (length_of_part b) b ≡ drop (at + length_of_part b) s
        again = drop-drop (length_of_part b) at s

    -- a part that is lost
    pub parts_lost : {n p : ℕ} → read_part before at b ≡ refused n p → parts_at before s at ≡ loses n (take (length_of_part b) b) ∷ parts_at before s (at + length_of_part b)
    unfolding part_of
    parts_lost {n} e =
        let x : part_of before at b ≡ loses n (take (length_of_part b) b) = ap (λ (o : Outcome ℕ). part_by o (take (length_of_part b) b)) e in
        parts_next ∙ rw (x, append-nil) refl

    -- a section that is kept
    pub parts_kept : {w : ℕ} → read_part before at b ≡ taken w → parts_at before s at ≡ keeps (take (length_of_part b) b) ∷ parts_at (before ++ (take (length_of_part b) b ∷ [])) s (at + length_of_part b)
    unfolding part_of
    parts_kept e =
        let x : part_of before at b ≡ keeps (take (length_of_part b) b) = ap (λ (o : Outcome ℕ). part_by o (take (length_of_part b) b)) e in
        parts_next ∙ rw x refl
