-- The payloads by the exits of the code that reads them.
-- Assumes nothing.
use mathlib.Core.Path.{◌≡◌, refl, sym, ◌∙◌, ap, subst}
use mathlib.Core.Logic.{◌≢◌}
use mathlib.Core.Bool.{Bool}
use mathlib.Core.List.{List, [], ◌∷◌}
use Prim.Native.Nat.{ℕ, ◌≤◌, ◌<◌}
use native.Mathlib.Omega.{arith}
use lib.ListN.{length}
use borrow.Author.Tests.{le-leb, eq-eqb, ne_eqb}
use Rattle.std.proofs.Common.{Result}
use Rattle.answer.specs.declared.Fault.{Fault}
use Rattle.answer.specs.Numbers.{SHAPE, SIZE}
use Rattle.answer.specs.Outcome.{Outcome, taken, refused, checked, after, done}
use Rattle.answer.specs.Calls.{outcome_of}
use Rattle.format.specs.Places.{read_at}
use Rattle.format.proofs.Placed.{at_zero}
use Rattle.entries.specs.States.{mmu_length}
use Rattle.entries.specs.Kinds.{Description}
use Rattle.lists.specs.Lists.{list_at, part_checks, whole, index_of}
use Rattle.lists.specs.Promises.{Indexed}
use Rattle.lists.proofs.Exits.{part_long, part_fine}
use Rattle.aerosnap.specs.Payloads.{meta_form, Body, meta, mmu, list, opaque, body_of, payload}
use Rattle.payloads.specs.Starts.{starts, kept_of}

-- ---- META

module _ (p : List ℕ) where
  by_fields : {r : Outcome ℕ} → r ≡ read_at meta_form p 0 → done r ≡ payload meta p
  unfolding payload
  by_fields h = ap done (h ∙ at_zero meta_form p)

  pub meta_stop : {a b : ℕ} → refused a b ≡ read_at meta_form p 0 → refused a b ≡ payload meta p
  meta_stop h = by_fields h

  pub meta_done : {e : ℕ} → taken e ≡ read_at meta_form p 0 → taken tt ≡ payload meta p
  meta_done h = by_fields h

-- ---- MMU

module _ (v : ℕ) (p : List ℕ) where
  pub mmu_done : length p ≡ mmu_length v → taken tt ≡ payload (mmu v) p
  unfolding payload
  mmu_done h = sym (ap (λ (b : Bool). checked ((b, SHAPE, 0) ∷ []) (taken tt)) (eq-eqb (length p) (mmu_length v) h))

  pub mmu_bad : length p ≢ mmu_length v → refused SHAPE 0 ≡ payload (mmu v) p
  unfolding payload
  mmu_bad h = sym (ap (λ (b : Bool). checked ((b, SHAPE, 0) ∷ []) (taken tt)) (ne_eqb (length p) (mmu_length v) h))

-- ---- what is kept of a payload

abbrev kept_by : ℕ → Body → List ℕ → Outcome (List ℕ)
kept_by have k p = checked (part_checks p) (after (payload k p) (λ _. taken (whole have (starts k p))))

module _ {old new : List ℕ} {r : Result ℕ Fault} where
  -- one whose body is told by its id
  module _ (v : ℕ) (p : List ℕ) {id n : ℕ} (e : id ≡ n) where
    pub kept_list : (d : Description) → body_of n v ≡ list d → Indexed (index_of d (length old) p) old r new → Indexed (kept_of (length old) id v p) old r new
    unfolding payload
    kept_list d b i = subst (λ (o : Outcome (List ℕ)). Indexed o old r new) (ap (checked (part_checks p)) (go (list_at d p)) ∙ ap (λ (k : Body). kept_by (length old) k p) (sym (ap (λ (j : ℕ). body_of j v) e ∙ b))) i
      where
        go : (o : Outcome (List ℕ)) → after o (λ l. taken (whole (length old) l)) ≡ after (done o) (λ _. taken (whole (length old) (elim o as (λ _. List ℕ) [ taken l ↦ l | refused n q ↦ [] ])))
        go (taken l) = refl
        go (refused n q) = refl

-- what is no list leaves the places as they were
none_kept : (o : Outcome (Unit {0})) {old : List ℕ} {r : Result ℕ Fault} → outcome_of r ≡ after o (λ _. taken 0) → Indexed (after o (λ _. taken [])) old r old
none_kept (taken tt) e = record { answers = e; leaves = refl }
none_kept (refused a b) e = record { answers = e; leaves = refl }

module _ {old : List ℕ} {r : Result ℕ Fault} where
  -- a payload that is too long
  pub kept_long : (id v : ℕ) (p : List ℕ) → 1073741824 < length p → outcome_of r ≡ refused SIZE 0 → Indexed (kept_of (length old) id v p) old r old
  kept_long id v p h i =
      rw (← part_long p (after (payload (body_of id v) p) (λ _. taken (whole (length old) (starts (body_of id v) p)))) h) (none_kept (refused SIZE 0) i)

  pub kept_plain : (v : ℕ) (p : List ℕ) {id n : ℕ} → id ≡ n → (k : Body) → body_of n v ≡ k → starts k p ≡ [] → length p ≤ 1073741824
      → {o : Outcome (Unit {0})} → o ≡ payload k p → outcome_of r ≡ after o (λ _. taken 0) → Indexed (kept_of (length old) id v p) old r old
  kept_plain v p e k b s h {o} q i =
      let z : whole (length old) (starts k p) ≡ [] = rw (s, le-leb 0 (length old) (omega arith)) in
      subst (λ (o : Outcome (List ℕ)). Indexed o old r old)
      (part_fine p h (ap (λ (o : Outcome (Unit {0})). after o (λ _. taken [])) q ∙ ap (λ (l : List ℕ). after (payload k p) (λ _. taken l)) (sym z)) ∙ ap (λ (k : Body). kept_by (length old) k p) (sym (ap (λ (j : ℕ). body_of j v) e ∙ b)))
      (none_kept o i)

-- of other ids nothing is asked
pub other_id : (id v : ℕ) → id ≢ 1 → id ≢ 2 → id ≢ 3 → id ≢ 4 → id ≢ 5 → id ≢ 7 → id ≢ 8 → body_of id v ≡ opaque
other_id id v a b c d e f g = rw (ne_eqb id 1 a, ne_eqb id 2 b, ne_eqb id 3 c, ne_eqb id 4 d, ne_eqb id 5 e, ne_eqb id 7 f, ne_eqb id 8 g)
