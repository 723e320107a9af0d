-- The section at fault: those before it follow the rules, and it is the first that does not.
-- Assumes nothing.
use mathlib.Core.Path.{◌≡◌, refl, sym, ◌∙◌, ap, subst}
use mathlib.Core.List.{List, [], ◌∷◌, ◌++◌, append-nil, append_assoc}
use Prim.Native.Nat.{ℕ, zero, suc, ◌+◌, ◌≤◌}
use native.Mathlib.Nat.{add-zero}
use native.Mathlib.Omega.{arith}
use lib.ListN.{length, take, drop, length-append}
use lib.Seq.{drop-append_seam, take-append_seam}
use Rattle.answer.specs.Outcome.{Outcome, taken, refused, after}
use Rattle.answer.proofs.Outcomes.{taken_refused}
use Rattle.order.specs.Keyed.{Every}
use Rattle.order.specs.Entries.{join}
use Rattle.aerosnap.specs.File.{sections_most, section_of, sections}
use Rattle.aerosnap.specs.Rules.{IsSection}
use Rattle.aerosnap.proofs.Slots.{Once, once_last, once_middle}
use Rattle.aerosnap.proofs.Sections.{Took, section_sound, section_complete}

-- b, which starts at a place behind some sections, begins with sections that follow the rules, and then comes one at fault
pub record Stops (before : List (List ℕ)) (at : ℕ) (b : List ℕ) (n p : ℕ) : Type 0 where
  pub fine : List (List ℕ)
  pub rest : List ℕ
  pub cut : b ≡ join fine ++ rest
  pub more : 1 ≤ length rest
  pub few : length before + length fine ≤ sections_most
  pub are : Every IsSection fine
  pub once : Once (before ++ fine)
  pub fault : section_of (before ++ fine) (at + length (join fine)) rest ≡ refused n p

-- it is the first one
stops_here : (before : List (List ℕ)) (at : ℕ) (b : List ℕ) {n p : ℕ} → 1 ≤ length b → length before ≤ sections_most → Once before → section_of before at b ≡ refused n p → Stops before at b n p
stops_here before at b i j d h = record {
  fine = [];
  rest = b;
  cut = refl;
  more = i;
  few = omega arith;
  are = tt;
  once = subst Once (sym (append-nil before)) d;
  fault = rw (append-nil before, add-zero at) h;
}

-- it comes behind one that is taken
stops_later : (before : List (List ℕ)) (at : ℕ) (b : List ℕ) {w n p : ℕ} (t : Took before at b w) → Stops (before ++ (t.e ∷ [])) (at + w) t.more n p → Stops before at b n p
stops_later before at b {w} t v =
    let q : (before ++ (t.e ∷ [])) ++ v.fine ≡ before ++ (t.e ∷ v.fine) = append_assoc before (t.e ∷ []) v.fine in
    let z : at + w + length (join v.fine) ≡ at + length (t.e ++ join v.fine) = omega (arith, t.ends, length-append t.e (join v.fine)) in
    record {
      fine = t.e ∷ v.fine;
      rest = v.rest;
      cut = t.cut ∙ ap (λ (m : List ℕ). t.e ++ m) v.cut ∙ sym (append_assoc t.e (join v.fine) v.rest);
      more = v.more;
      few = omega (arith, v.few, length-append before (t.e ∷ []));
      are = (t.is, v.are);
      once = subst Once q v.once;
      fault = rw (← q, ← z) v.fault;
    }

pub sections_stop : (k : ℕ) (before : List (List ℕ)) (at : ℕ) (b : List ℕ) {n p : ℕ} → length before + k ≡ sections_most → Once before → sections k before at b ≡ refused n p → Stops before at b n p
unfolding sections
sections_stop zero before at [] i d h = absurd (taken_refused h)
sections_stop (suc k) before at [] i d h = absurd (taken_refused h)
sections_stop zero before at (c ∷ b) {n} {p} i d h = stops_here before at (c ∷ b) (omega arith) (omega arith) d (go (section_of before at (c ∷ b)) h)
  where
    go : (o : Outcome ℕ) → after o (λ _. taken before) ≡ refused n p → o ≡ refused n p
    go (taken w) h = absurd (taken_refused h)
    go (refused m q) h = cc
sections_stop (suc k) before at (c ∷ b) {n} {p} i d h = go (section_of before at (c ∷ b)) refl h (λ x j m. sections_stop k x j m)
  where
    later : {w : ℕ} → Took before at (c ∷ b) w → sections k (before ++ (take w (c ∷ b) ∷ [])) (at + w) (drop w (c ∷ b)) ≡ refused n p
        → ((x : List (List ℕ)) (j : ℕ) (m : List ℕ) → length x + k ≡ sections_most → Once x → sections k x j m ≡ refused n p → Stops x j m n p)
        → Stops before at (c ∷ b) n p
    later {w} t h ih =
        let x : take w (c ∷ b) ≡ t.e = rw (t.ends, t.cut) (take-append_seam t.e t.more) in
        let y : drop w (c ∷ b) ≡ t.more = rw (t.ends, t.cut) (drop-append_seam t.e t.more) in
        let g : List (List ℕ) = before ++ (t.e ∷ []) in
        stops_later before at (c ∷ b) t (ih g (at + w) t.more (omega (arith, length-append before (t.e ∷ []))) (once_last t.e before t.new d) (rw (x, y) at h))

    go : (o : Outcome ℕ) → section_of before at (c ∷ b) ≡ o → after o (λ w. sections k (before ++ (take w (c ∷ b) ∷ [])) (at + w) (drop w (c ∷ b))) ≡ refused n p
        → ((x : List (List ℕ)) (j : ℕ) (m : List ℕ) → length x + k ≡ sections_most → Once x → sections k x j m ≡ refused n p → Stops x j m n p)
        → Stops before at (c ∷ b) n p
    go (refused m q) e h ih = stops_here before at (c ∷ b) (omega arith) (omega arith) d (e ∙ cc)
    go (taken w) e h ih = later (section_sound before at (c ∷ b) e) h ih

pub stop_sections : (l : List (List ℕ)) (k : ℕ) (before : List (List ℕ)) (at : ℕ) (rest : List ℕ) {n p : ℕ} → 1 ≤ length rest → length l ≤ k → length before + length l ≤ sections_most
    → Every IsSection l → Once (before ++ l) → section_of (before ++ l) (at + length (join l)) rest ≡ refused n p → sections k before at (join l ++ rest) ≡ refused n p
unfolding sections
stop_sections l k before at [] m i j a d h = absurd (omega arith)
stop_sections [] zero before at (c ∷ rest) m i j a d h = rw (rw (append-nil before, add-zero at) at h)
stop_sections [] (suc k) before at (c ∷ rest) m i j a d h = rw (rw (append-nil before, add-zero at) at h)
stop_sections (e ∷ l) zero before at (c ∷ rest) m i j a d h = absurd (omega arith)
stop_sections ([] ∷ l) (suc k) before at (c ∷ rest) m i j a d h = absurd (omega (arith, a.0.whole))
stop_sections ((x ∷ e) ∷ l) (suc k) before at (c ∷ rest) {n} {p} m i j a d h =
    let g : List (List ℕ) = before ++ ((x ∷ e) ∷ []) in
    let q : g ++ l ≡ before ++ ((x ∷ e) ∷ l) = append_assoc before ((x ∷ e) ∷ []) l in
    let z : at + length (x ∷ e) + length (join l) ≡ at + length ((x ∷ e) ++ join l) = omega (arith, length-append (x ∷ e) (join l)) in
    let f : section_of (g ++ l) (at + length (x ∷ e) + length (join l)) (c ∷ rest) ≡ refused n p = rw (q, z) h in
    rw (
      append_assoc (x ∷ e) (join l) (c ∷ rest),
      section_complete before at (x ∷ e) (join l ++ (c ∷ rest)) (omega arith) a.0 (once_middle (x ∷ e) before l d),
      drop-append_seam (x ∷ e) (join l ++ (c ∷ rest)),
      take-append_seam (x ∷ e) (join l ++ (c ∷ rest)),
    ) (stop_sections l k g (at + length (x ∷ e)) (c ∷ rest) m (omega arith) (omega (arith, length-append before ((x ∷ e) ∷ []))) a.1 (subst Once (sym q) d) f)
