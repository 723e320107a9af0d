-- META of a file, by where it was found.
-- Assumes nothing.
use mathlib.Core.Path.{◌≡◌, refl, sym, ◌∙◌, ap}
use mathlib.Core.List.{List, [], ◌∷◌}
use mathlib.Core.Bool.{Bool, true, false, cond}
use Prim.Native.Nat.{ℕ, ◌+◌, ◌-◌, ◌≤◌, ◌<◌}
use native.Mathlib.Omega.{arith}
use lib.Dec.{eqb}
use lib.ListN.{length, take, drop}
use Rattle.answer.specs.Outcome.{Outcome, taken, refused, after}
use Rattle.wire.specs.Numbers.{le_at}
use Rattle.order.specs.Keyed.{keep}
use Rattle.aerosnap.specs.Known.{META}
use Rattle.aerosnap.specs.File.{file_of}
use Rattle.aerosnap.specs.Content.{is_id}
use Rattle.aerosnap.proofs.Standing.{stand_start, end_at}
use Rattle.sections.specs.Walks.{sections_in, place_of}
use Rattle.sections.specs.Index.{spot_in}
use Rattle.sections.proofs.Found.{spot_stop, spot_taken, Sited, Here, none-there, there}
use Rattle.snapshot.specs.declared.MetaFields.{MetaFields}
use Rattle.snapshot.specs.MetaSection.{silent, absent, time_in, label_in, meta_at, meta_in, meta_call, as_meta}

pub none_said : (at : ℕ) (l : List (List ℕ)) → keep (is_id META) l ≡ [] → meta_in at l ≡ silent 0 0
unfolding meta_in
none_said at [] h = refl
none_said at (e ∷ l) h = go (is_id META e) h (none_said (at + length e) l)
  where
    go : (b : Bool) → cond b (e ∷ keep (is_id META) l) (keep (is_id META) l) ≡ [] → (keep (is_id META) l ≡ [] → meta_in (at + length e) l ≡ silent 0 0)
        → cond b (meta_at (at + 16) (drop 16 e)) (meta_in (at + length e) l) ≡ silent 0 0
    go true h r = let z : ◌≡◌ {A = ℕ} 0 1 = cc in absurd (omega arith)
    go false h r = r h

pub one_said : (at : ℕ) (l : List (List ℕ)) {e : List ℕ} → keep (is_id META) l ≡ e ∷ [] → meta_in at l ≡ meta_at (place_of META at l + 16) (drop 16 e)
unfolding meta_in place_of
one_said at [] h = let z : ◌≡◌ {A = ℕ} 0 1 = cc in absurd (omega arith)
one_said at (x ∷ l) {e} h = go (is_id META x) h (one_said (at + length x) l)
  where
    go : (b : Bool) → cond b (x ∷ keep (is_id META) l) (keep (is_id META) l) ≡ e ∷ [] → (keep (is_id META) l ≡ e ∷ [] → meta_in (at + length x) l ≡ meta_at (place_of META (at + length x) l + 16) (drop 16 e))
        → cond b (meta_at (at + 16) (drop 16 x)) (meta_in (at + length x) l) ≡ meta_at (cond b at (place_of META (at + length x) l) + 16) (drop 16 e)
    go true h r = let y : x ≡ e = cc in ap (λ (b : List ℕ). meta_at (at + 16) (drop 16 b)) y
    go false h r = r h

module _ (s : List ℕ) where
  pub meta_stop : {n p : ℕ} → refused n p ≡ spot_in META (file_of s) → silent n p ≡ as_meta (meta_call s)
  meta_stop h = ap (λ (o : Outcome (List (List ℕ))). as_meta (after o (λ l. taken (meta_in 16 l)))) (sym (spot_stop META s h))

  module _ {p n : ℕ} (h : ◌≡◌ {A = Outcome (ℕ × ℕ)} (taken (p, n)) (spot_in META (file_of s))) where
    site : Sited META s p n
    site = spot_taken META s h

    call : meta_in 16 (sections_in s) ≡ as_meta (meta_call s)
    call = ap (λ (o : Outcome (List (List ℕ))). as_meta (after o (λ l. taken (meta_in 16 l)))) (sym site.read)

    pub meta_none : length s ≤ p → silent 0 0 ≡ as_meta (meta_call s)
    meta_none g = sym (none_said 16 (sections_in s) (none-there META s site.read site.place g)) ∙ call

    module _ (g : p < length s) where
      here : Here META s (sections_in s) p
      here = there META s site.read site.place refl g

      pub meta_fits : (end_at s p ≤ length s) × (length s ≤ 1073741824)
      meta_fits = (here.fits, (stand_start s site.read).short)

      pub meta_there : {e : ℕ} → e ≡ end_at s p → meta_at (p + 16) (take (e - (p + 16)) (drop (p + 16) s)) ≡ as_meta (meta_call s)
      meta_there {e} k =
          let z : e - (p + 16) ≡ le_at 8 s (p + 8) = omega arith in
          ap (meta_at (p + 16)) (ap (λ (j : ℕ). take j (drop (p + 16) s)) z ∙ here.part)
          ∙ ap (λ (j : ℕ). meta_at (j + 16) (drop 16 here.sec)) site.place
          ∙ sym (one_said 16 (sections_in s) here.alone)
          ∙ call

-- the fields of a payload, one after another as they are read
pub meta_said : (at : ℕ) (b : List ℕ) {old t named id time before parent place size long hp hl : ℕ} → old ≡ le_at 1 b 8 → t ≡ cond (eqb old 0) 9 17 → named ≡ le_at 1 b (t + 8) → id ≡ le_at 8 b 0 → time ≡ le_at 8 b t
    → before ≡ le_at 8 b 9 → parent ≡ cond (eqb old 0) 0 before → place ≡ cond (eqb named 0) 0 (at + (t + 8 + 5)) → size ≡ le_at 4 b (t + 8 + 1) → long ≡ cond (eqb named 0) 0 size
    → hp ≡ cond (eqb old 0) 0 1 → hl ≡ cond (eqb named 0) 0 1
    → ◌≡◌ {A = MetaFields} (record { number = 0; present = 1; place = 0; id = id; has_parent = hp; has_label = hl; parent = parent; time = time; label_place = place; label_length = long }) (meta_at at b)
meta_said at b {old} {t} {named} {id} {time} {before} {parent} {place} {size} {long} {hp} {hl} eo et en ei em eb ep el es eg eh ek =
    let k : t ≡ time_in b = et ∙ ap (λ (x : ℕ). cond (eqb x 0) 9 17) eo in
    let n : named ≡ le_at 1 b (label_in b) = en ∙ ap (λ (x : ℕ). le_at 1 b (x + 8)) k in
    let m : time ≡ le_at 8 b (time_in b) = em ∙ ap (le_at 8 b) k in
    let p : parent ≡ cond (absent b 8) 0 (le_at 8 b 9) = ep ∙ ap (λ (x : ℕ). cond (eqb x 0) 0 before) eo ∙ ap (λ (x : ℕ). cond (absent b 8) 0 x) eb in
    let l : place ≡ cond (absent b (label_in b)) 0 (at + (label_in b + 5)) = el ∙ ap (λ (x : ℕ). cond (eqb x 0) 0 (at + (t + 8 + 5))) n ∙ ap (λ (x : ℕ). cond (absent b (label_in b)) 0 (at + (x + 8 + 5))) k in
    let z : size ≡ le_at 4 b (label_in b + 1) = es ∙ ap (λ (x : ℕ). le_at 4 b (x + 8 + 1)) k in
    let g : long ≡ cond (absent b (label_in b)) 0 (le_at 4 b (label_in b + 1)) = eg ∙ ap (λ (x : ℕ). cond (eqb x 0) 0 size) n ∙ ap (λ (x : ℕ). cond (absent b (label_in b)) 0 x) z in
    let h : hp ≡ cond (absent b 8) 0 1 = eh ∙ ap (λ (x : ℕ). cond (eqb x 0) 0 1) eo in
    let j : hl ≡ cond (absent b (label_in b)) 0 1 = ek ∙ ap (λ (x : ℕ). cond (eqb x 0) 0 1) n in
    cc
