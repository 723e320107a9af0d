-- Sections are taken exactly if they follow the rules, whatever follows them: one section after those before it, and all of them in turn.
-- Assumes nothing.
use mathlib.Core.Path.{◌≡◌, refl, sym, ◌∙◌, ap, subst}
use mathlib.Core.List.{List, [], ◌∷◌, ◌++◌, append-nil, append_assoc}
use mathlib.Core.Bool.{Bool, true, false, not, ◌||◌}
use Prim.Native.Nat.{ℕ, zero, suc, ◌+◌, ◌-◌, ◌≤◌}
use native.Mathlib.Omega.{arith}
use lib.ListN.{length, take, drop, length-append, length-drop, take-append-drop}
use lib.Seq.{length-take-le, drop-append_seam, take-append_seam, take-append-le, drop-append-le, take_all}
use lib.Dec.{leb, eqb}
use borrow.Author.Tests.{leb-true, le-leb, ltb-true, lt-ltb, eqb-true, eq-eqb, not-true}
use Rattle.answer.specs.Outcome.{Outcome, taken, checked, after, moved}
use Rattle.answer.proofs.Checks.{checked-pass, pass-checked}
use Rattle.answer.proofs.Outcomes.{taken_is, after_taken, moved_taken}
use Rattle.wire.proofs.Numbers.{le_at-append}
use Rattle.order.specs.Keyed.{Every, Fresh}
use Rattle.order.specs.Entries.{join}
use Rattle.order.proofs.Keys.{has_fresh, fresh_has}
use Rattle.aerosnap.specs.Known.{DEVICES, known, slot}
use Rattle.aerosnap.specs.Payloads.{body_of, payload}
use Rattle.aerosnap.specs.File.{devices_most, sections_most, id_of, version_of, flags_of, length_of, payload_of, slot_of, frame_checks, known_checks, ruled, section_of, sections}
use Rattle.aerosnap.specs.Rules.{IsKnown, IsSection, is_known_section}
use Rattle.aerosnap.proofs.Bodies.{lawful_body, payload_sound, payload_complete}
use Rattle.aerosnap.proofs.Slots.{Once, once_last, once_middle}

-- the numbers of a section are in its first 16 bytes, and its payload is what is left of it
module _ (e more : List ℕ) (h : length e ≡ 16 + length_of e) where
  pub id_front : id_of (e ++ more) ≡ id_of e
  id_front = le_at-append 4 e more 0 (omega arith)

  pub length_front : length_of (e ++ more) ≡ length_of e
  length_front = le_at-append 8 e more 8 (omega arith)

  payload_front : payload_of (e ++ more) ≡ drop 16 e
  payload_front =
      let l : length (drop 16 e) ≡ length_of e = length-drop 16 e ∙ (omega arith) in
      rw (length_front, drop-append-le 16 e more (omega arith), take-append-le (length_of e) (drop 16 e) more (omega arith)) (take_all (length_of e) (drop 16 e) (omega arith))

  pub ruled_front : (before : List (List ℕ)) (at : ℕ) → ruled before at (id_of (e ++ more)) (version_of (e ++ more)) (flags_of (e ++ more)) (payload_of (e ++ more)) ≡ ruled before at (id_of e) (version_of e) (flags_of e) (drop 16 e)
  ruled_front before at = cc (id_front, le_at-append 2 e more 4 (omega arith), le_at-append 2 e more 6 (omega arith), payload_front)

-- ---- one section, given those before it

module _ (before : List (List ℕ)) (at : ℕ) where
  ruled_sound : (id v f : ℕ) (p : List ℕ) → ruled before at id v f p ≡ taken tt → known id ≡ true → IsKnown id v f p × Fresh slot_of (slot id) before
  unfolding ruled
  ruled_sound id v f p h k =
      let c = checked-pass (known_checks before at id v f p) (moved (at + 16) (payload (body_of id v) p)) tt (rw (k, ruled) at h) in (
        record {
          version = c.0.0;
          flags = eqb-true _ _ c.0.1.0;
          small = λ e. leb-true _ _ (rw e at c.0.1.1.1.0);
          body = payload_sound (body_of id v) (lawful_body id v) p (moved_taken (at + 16) _ c.1);
        },
        has_fresh slot_of (slot id) before (not-true _ c.0.1.1.0),
      )

  ruled_complete : (id v f : ℕ) (p : List ℕ) → (known id ≡ true → IsKnown id v f p × Fresh slot_of (slot id) before) → ruled before at id v f p ≡ taken tt
  unfolding ruled
  ruled_complete id v f p h = go (known id) refl
    where
      bound : (b : Bool) → eqb id DEVICES ≡ b → (id ≡ DEVICES → length p ≤ devices_most) → (not b || leb (length p) devices_most) ≡ true
      bound true e h = le-leb _ _ (h (eqb-true _ _ e))
      bound false e h = refl

      go : (b : Bool) → known id ≡ b → elim b as (λ _. Outcome (Unit {0})) [ true ↦ checked (known_checks before at id v f p) (moved (at + 16) (payload (body_of id v) p)) | false ↦ taken tt ] ≡ taken tt
      go true k =
          let u = (h k).0 in
          pass-checked (known_checks before at id v f p) (moved (at + 16) (payload (body_of id v) p))
          (u.version, (eq-eqb _ _ u.flags, (ap not (fresh_has slot_of (slot id) before (h k).1), (bound (eqb id DEVICES) refl u.small, tt))))
          ∙ ap (moved (at + 16)) (payload_complete (body_of id v) (lawful_body id v) p u.body)
      go false k = refl

  pub section_complete : (e more : List ℕ) → suc (length before) ≤ sections_most → IsSection e → (is_known_section e ≡ true → Fresh slot_of (slot_of e) before) → section_of before at (e ++ more) ≡ taken (length e)
  unfolding section_of
  section_complete e more i s f =
      let b : List ℕ = e ++ more in
      let l : length b ≡ 16 + length_of e + length more = length-append e more ∙ ap (λ (x : ℕ). x + length more) s.whole in
      let r = ruled_front e more s.whole before at ∙ ruled_complete (id_of e) (version_of e) (flags_of e) (drop 16 e) (λ k. (s.rules k, f k)) in
      pass-checked (frame_checks before at b) (after (ruled before at (id_of b) (version_of b) (flags_of b) (payload_of b)) (λ _. taken (16 + length_of b)))
      (le-leb 16 (length b) (omega arith), (lt-ltb (length before) sections_most i, (le-leb (length_of b) (length b - 16) (omega (arith, length_front e more s.whole)), tt)))
      ∙ rw (r, length_front e more s.whole, s.whole)

  -- a section that is taken
  pub record Took (b : List ℕ) (w : ℕ) : Type 0 where
    pub e : List ℕ
    pub more : List ℕ
    pub cut : b ≡ e ++ more
    pub ends : w ≡ length e
    pub room : suc (length before) ≤ sections_most
    pub is : IsSection e
    pub new : is_known_section e ≡ true → Fresh slot_of (slot_of e) before

  pub section_sound : (b : List ℕ) {w : ℕ} → section_of before at b ≡ taken w → Took b w
  unfolding section_of
  section_sound b {w} h =
      let r : Outcome (Unit {0}) = ruled before at (id_of b) (version_of b) (flags_of b) (payload_of b) in
      let c = checked-pass (frame_checks before at b) (after r (λ _. taken (16 + length_of b))) w h in
      let q = after_taken r (λ _. taken (16 + length_of b)) c.1 in
      go (leb-true 16 (length b) c.0.0) (ltb-true (length before) sections_most c.0.1.0) (leb-true (length_of b) (length b - 16) c.0.1.1.0) q.1 (taken_is q.2)
    where
      go : 16 ≤ length b → suc (length before) ≤ sections_most → length_of b ≤ length b - 16 → ruled before at (id_of b) (version_of b) (flags_of b) (payload_of b) ≡ taken tt
          → 16 + length_of b ≡ w → Took b w
      go i j k r q =
          let e : List ℕ = take (16 + length_of b) b in
          let m : List ℕ = drop (16 + length_of b) b in
          let s : b ≡ e ++ m = sym (take-append-drop (16 + length_of b) b) in
          let l : length e ≡ 16 + length_of b = length-take-le (16 + length_of b) b (omega arith) in
          let n : length_of b ≡ length_of e = ap length_of s ∙ le_at-append 8 e m 8 (omega arith) in
          let w' : length e ≡ 16 + length_of e = l ∙ ap (λ (x : ℕ). 16 + x) n in
          let t = ruled_sound (id_of e) (version_of e) (flags_of e) (drop 16 e) (sym (ruled_front e m w' before at) ∙ rw s at r) in
          record { e = e; more = m; cut = s; ends = sym q ∙ sym l; room = j; is = record { whole = w'; rules = λ y. (t y).0 }; new = λ y. (t y).1 }

-- ---- all of them

pub sections_complete : (l : List (List ℕ)) (n : ℕ) (before : List (List ℕ)) (at : ℕ) → length l ≤ n → length before + length l ≤ sections_most → Every IsSection l → Once (before ++ l)
    → sections n before at (join l) ≡ taken (before ++ l)
unfolding sections
sections_complete [] zero before at i j a d = ap taken (sym (append-nil before))
sections_complete [] (suc n) before at i j a d = ap taken (sym (append-nil before))
sections_complete (e ∷ l) zero before at i j a d = absurd (omega arith)
sections_complete ([] ∷ l) (suc n) before at i j a d = absurd (omega (arith, a.0.whole))
sections_complete ((c ∷ e) ∷ l) (suc n) before at i j a d =
    let x : List (List ℕ) = before ++ ((c ∷ e) ∷ []) in
    let q : x ++ l ≡ before ++ ((c ∷ e) ∷ l) = append_assoc before ((c ∷ e) ∷ []) l in
    rw (
      section_complete before at (c ∷ e) (join l) (omega arith) a.0 (once_middle (c ∷ e) before l d),
      drop-append_seam (c ∷ e) (join l),
      take-append_seam (c ∷ e) (join l),
    ) (sections_complete l n x (at + length (c ∷ e)) (omega arith) (omega (arith, length-append before ((c ∷ e) ∷ []))) a.1 (subst Once (sym q) d) ∙ ap taken q)

-- what a walk that is taken found
pub record Found (n : ℕ) (before : List (List ℕ)) (b : List ℕ) (r : List (List ℕ)) : Type 0 where
  pub found : List (List ℕ)
  pub all : r ≡ before ++ found
  pub cut : b ≡ join found
  pub few : length found ≤ n
  pub are : Every IsSection found
  pub once : Once (before ++ found)

nothing_more : (n : ℕ) (before : List (List ℕ)) {r : List (List ℕ)} → Once before → before ≡ r → Found n before [] r
nothing_more n before d h = record { found = []; all = sym h ∙ sym (append-nil before); cut = refl; few = omega arith; are = tt; once = subst Once (sym (append-nil before)) d }

pub sections_sound : (n : ℕ) (before : List (List ℕ)) (at : ℕ) (b : List ℕ) {r : List (List ℕ)} → sections_most ≤ length before + n → Once before → sections n before at b ≡ taken r → Found n before b r
unfolding sections
sections_sound zero before at [] i d h = nothing_more 0 before d (taken_is h)
sections_sound (suc n) before at [] i d h = nothing_more (suc n) before d (taken_is h)
sections_sound zero before at (c ∷ b) i d h =
    absurd (omega (arith, (section_sound before at (c ∷ b) (after_taken (section_of before at (c ∷ b)) (λ _. taken before) h).1).room))
sections_sound (suc n) before at (c ∷ b) {r} i d h =
    let p = after_taken (section_of before at (c ∷ b)) (λ w. sections n (before ++ (take w (c ∷ b) ∷ [])) (at + w) (drop w (c ∷ b))) h in
    go p.0 (section_sound before at (c ∷ b) p.1) p.2 (λ x k m. sections_sound n x k m)
  where
    go : (w : ℕ) → Took before at (c ∷ b) w → sections n (before ++ (take w (c ∷ b) ∷ [])) (at + w) (drop w (c ∷ b)) ≡ taken r
        → ((x : List (List ℕ)) (k : ℕ) (m : List ℕ) → sections_most ≤ length x + n → Once x → sections n x k m ≡ taken r → Found n x m r)
        → Found (suc n) before (c ∷ b) r
    go w t s ih =
        let x : take w (c ∷ b) ≡ t.e = rw (t.ends, t.cut) (take-append_seam t.e t.more) in
        let y : drop w (c ∷ b) ≡ t.more = rw (t.ends, t.cut) (drop-append_seam t.e t.more) in
        let g : List (List ℕ) = before ++ (t.e ∷ []) in
        let v = ih g (at + w) t.more (omega (arith, length-append before (t.e ∷ []))) (once_last t.e before t.new d) (rw (x, y) at s) in
        let q : g ++ v.found ≡ before ++ (t.e ∷ v.found) = append_assoc before (t.e ∷ []) v.found in
        record {
          found = t.e ∷ v.found;
          all = v.all ∙ q;
          cut = t.cut ∙ ap (λ (m : List ℕ). t.e ++ m) v.cut;
          few = omega (arith, v.few);
          are = (t.is, v.are);
          once = subst Once q v.once;
        }
