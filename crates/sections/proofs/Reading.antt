-- The index of a file: where it holds the starts of a section's list, and what they are.
-- Assumes nothing.
use mathlib.Core.Path.{◌≡◌, refl, sym, ◌∙◌, ap, subst}
use mathlib.Core.List.{List, [], ◌∷◌, ◌++◌, append_assoc}
use mathlib.Core.Bool.{Bool, true, false, cond}
use Prim.Native.Nat.{ℕ, ◌+◌, ◌-◌, ◌≤◌}
use native.Mathlib.Omega.{arith}
use lib.ListN.{length, take, drop, length-append, length-drop, take-append-drop}
use lib.Seq.{drop-drop, take-append_seam, drop-append_seam}
use Rattle.answer.specs.Outcome.{Outcome, taken, refused}
use Rattle.wire.specs.Numbers.{le_at}
use Rattle.wire.proofs.Numbers.{le_at_here, le_at-append}
use Rattle.order.specs.Keyed.{flat, keep}
use Rattle.entries.specs.Kinds.{Description}
use Rattle.lists.specs.Lists.{list_at, IsList}
use Rattle.lists.proofs.Taken.{list_complete}
use Rattle.aerosnap.specs.Payloads.{Body, list, body_of}
use Rattle.aerosnap.specs.File.{id_of, version_of, payload_of}
use Rattle.aerosnap.specs.Content.{is_id}
use Rattle.aerosnap.specs.Rules.{IsBody, IsSection}
use Rattle.aerosnap.proofs.Bodies.{Lawfully, lawful_body}
use Rattle.payloads.specs.Starts.{starts}
use Rattle.aerosnap.specs.Known.{known}
use Rattle.aerosnap.proofs.Copies.{is_list_body}
use Rattle.lists.specs.Promises.{lent_after}
use Rattle.aerosnap.specs.File.{file_of}
use Rattle.std.proofs.Common.{Result, Ok}
use Rattle.answer.specs.declared.Fault.{Fault}
use Rattle.answer.specs.Calls.{outcome_of}
use Rattle.sections.specs.Walks.{sections_in, Read}
use Rattle.sections.specs.Index.{kept, kept_in, starts_of, Reading, first_of, Spotted}
use Rattle.sections.specs.Steps.{HoldsStarts}
use Rattle.sections.proofs.Found.{Sited, spot_taken, Here}
use Rattle.sections.proofs.Kept.{kept_all, its_payload, its_body, listed_id, starts-count}

-- ---- the starts of one section

module _ (e : List ℕ) (w : IsSection e) {d : Description} (q : body_of (id_of e) (version_of e) ≡ list d) where
  pub body_list : IsList d (drop 16 e)
  body_list = subst (λ (u : Body). IsBody u (drop 16 e)) q (its_body e w (known (id_of e)) refl)

  pub starts_list : list_at d (drop 16 e) ≡ taken (starts_of e)
  starts_list =
      let h = list_complete (subst Lawfully q (lawful_body (id_of e) (version_of e))) (drop 16 e) body_list in
      let g : starts_of e ≡ starts (list d) (drop 16 e) = ap (λ (b : Body). starts b (payload_of e)) q ∙ ap (starts (list d)) (its_payload e w) in
      h ∙ ap taken (sym (g ∙ ap (λ (o : Outcome (List ℕ)). elim o as (λ _. List ℕ) [ taken l ↦ l | refused n p ↦ [] ]) h))

  pub starts_long : length (starts_of e) ≡ le_at 4 e 16
  starts_long = starts-count e w ∙ ap (λ (b : Bool). cond b (le_at 4 e 16) 0) (sym (listed_id (id_of e) (version_of e)) ∙ ap is_list_body q)

-- ---- an index that holds all starts of a file

-- as the calls leave it that read a file
pub index_reading : (s old : List ℕ) {new : List ℕ} → Read s → HoldsStarts s (length old) → new ≡ lent_after (kept_in (length old) (file_of s)) old → Reading (sections_in s) new 0
index_reading s old {new} h r e =
    let l : List (List ℕ) = sections_in s in
    let k : kept (length old) l ≡ flat starts_of l = kept_all (length old) l (r l h) in
    let n : new ≡ flat starts_of l ++ drop (length (flat starts_of l)) old =
    e ∙ ap (λ (o : Outcome (List (List ℕ))). lent_after (kept_in (length old) o) old) h ∙ ap (λ (m : List ℕ). m ++ drop (length m) old) k in
    record { rest = drop (length (flat starts_of l)) old; inside = omega arith; same = n }

-- the section with an id was looked for: the file is taken, where the section stands, and the starts of all lists in the index
pub record Opened (i : ℕ) (s index : List ℕ) (p n : ℕ) : Type 0 where
  pub site : Sited i s p n
  pub starts : Reading (sections_in s) index 0

pub spot_opened : (i : ℕ) (s old : List ℕ) → HoldsStarts s (length old) → {r : Result (ℕ × ℕ) Fault} {new : List ℕ} → Spotted i (file_of s) old r new → {p n : ℕ} → r ≡ Ok (p, n) → Opened i s new p n
spot_opened i s old room w q =
    let y = spot_taken i s (sym (ap outcome_of q) ∙ w.answers) in
    record { site = y; starts = index_reading s old y.read room w.leaves }

-- ---- the starts of sections one after another

module _ (e : List ℕ) (l : List (List ℕ)) (index : List ℕ) {used : ℕ} (v : Reading (e ∷ l) index used) where
  abbrev more : List ℕ
  more = flat starts_of l ++ v.rest

  here : drop used index ≡ starts_of e ++ more
  here = v.same ∙ append_assoc (starts_of e) (flat starts_of l) v.rest

  pub reading_inside : used + length (starts_of e) ≤ length index
  reading_inside = omega (arith, ap length here, length-append (starts_of e) more, length-drop used index, v.inside)

  -- the starts of the first section
  pub reading-first : take (used + length (starts_of e) - used) (drop used index) ≡ starts_of e
  reading-first =
      let n : used + length (starts_of e) - used ≡ length (starts_of e) = omega arith in
      ap (λ (i : ℕ). take i (drop used index)) n ∙ ap (take (length (starts_of e))) here ∙ take-append_seam (starts_of e) more

  pub reading_next : Reading l index (used + length (starts_of e))
  reading_next = record {
    rest = v.rest;
    inside = reading_inside;
    same = sym (drop-drop (length (starts_of e)) used index) ∙ ap (drop (length (starts_of e))) here ∙ drop-append_seam (starts_of e) more;
  }

-- ---- the starts of the section with an id

-- where the starts of one section stand in the index
pub record Held (index : List ℕ) (at : ℕ) (e : List ℕ) : Type 0 where
  pub inside : at + length (starts_of e) ≤ length index
  pub same : take (at + length (starts_of e) - at) (drop at index) ≡ starts_of e

pub reading_found : (i : ℕ) (l : List (List ℕ)) (index : List ℕ) {used : ℕ} → Reading l index used → {e : List ℕ} → keep (is_id i) l ≡ e ∷ [] → Held index (used + first_of i l) e
reading_found i [] index v k = let z : ◌≡◌ {A = ℕ} 0 1 = cc in absurd (omega arith)
reading_found i (x ∷ l) index {used} v {e} k = go (is_id i x) k (λ q. reading_found i l index (reading_next x l index v) q)
  where
    go : (b : Bool) → cond b (x ∷ keep (is_id i) l) (keep (is_id i) l) ≡ e ∷ [] → (keep (is_id i) l ≡ e ∷ [] → Held index (used + length (starts_of x) + first_of i l) e)
        → Held index (used + cond b 0 (length (starts_of x) + first_of i l)) e
    go true k r =
        let y : x ≡ e = cc in
        let z : used ≡ used + 0 = omega arith in
        subst (λ (n : ℕ). Held index n e) z (subst (Held index used) y (record { inside = reading_inside x l index v; same = reading-first x l index v }))
    go false k r = let z : used + length (starts_of x) + first_of i l ≡ used + (length (starts_of x) + first_of i l) = omega arith in subst (λ (n : ℕ). Held index n e) z (r k)

-- the section with an id, found at a place of the file: how many starts its list has, and where its entries start
module _ {i : ℕ} {s : List ℕ} {l : List (List ℕ)} {p : ℕ} (x : Here i s l p) {d : Description} (q : body_of (id_of x.sec) (version_of x.sec) ≡ list d) where
  found_count : le_at 4 s (p + 16) ≡ length (starts_of x.sec)
  found_count =
      let b : List ℕ = drop 16 x.sec in
      let w : ℕ = le_at 8 s (p + 8) in
      let c : drop (p + 16) s ≡ b ++ drop w (drop (p + 16) s) = sym (take-append-drop w (drop (p + 16) s)) ∙ ap (λ (t : List ℕ). t ++ drop w (drop (p + 16) s)) x.part in
      sym (le_at_here 4 s (p + 16))
      ∙ ap (λ (t : List ℕ). le_at 4 t 0) c
      ∙ le_at-append 4 b (drop w (drop (p + 16) s)) 0 (body_list x.sec x.is q).count
      ∙ le_at_here 4 x.sec 16
      ∙ sym (starts_long x.sec x.is q)

  -- in an index of the file
  module _ {index : List ℕ} (v : Reading l index 0) {first n : ℕ} (f : first ≡ first_of i l) (c : n ≡ le_at 4 s (p + 16)) where
    held : Held index first x.sec
    held = let z : 0 + first_of i l ≡ first = omega (arith, f) in subst (λ (k : ℕ). Held index k x.sec) z (reading_found i l index v x.alone)

    pub found_inside : first + n ≤ length index
    found_inside = omega (arith, held.inside, found_count)

    pub found_starts : take (first + n - first) (drop first index) ≡ starts_of x.sec
    found_starts = ap (λ (k : ℕ). take (first + k - first) (drop first index)) (c ∙ found_count) ∙ held.same
