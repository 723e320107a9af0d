-- Reading and setting a field: the code's answers against the definitions.
-- Assumes nothing.
use mathlib.Core.Path.{◌≡◌, refl, sym, ap, ◌∙◌}
use mathlib.Core.Logic.{◌⊎◌, inl, inr}
use mathlib.Core.Bool.{Bool, true, false, ◌&&◌, ◌||◌}
use mathlib.Core.List.{List, [], ◌∷◌}
use Prim.Native.Nat.{ℕ, ◌+◌, ◌-◌, ◌≤◌, ◌<◌}
use native.Mathlib.Omega.{arith}
use lib.Dec.{leb, ltb, eqb}
use lib.ListN.{length, take, drop}
use borrow.Author.Tests.{leb-true, leb-false, ltb-true}
use Rattle.answer.specs.Numbers.{SHAPE, VALUE}
use Rattle.answer.specs.Outcome.{Outcome, taken, refused, checked, fitting}
use Rattle.answer.specs.Calls.{asked}
use Rattle.answer.proofs.Checks.{and_true, asked_stop, asked-pass, pass-checked}
use Rattle.answer.proofs.Outcomes.{taken_is, taken_refused}
use Rattle.wire.specs.Numbers.{le_at}
use Rattle.wire.specs.Parts.{splice}
use Rattle.wire.proofs.Parts.{length-splice}
use Rattle.wire.proofs.Splices.{le_at_above, le_at_below}
use Rattle.format.specs.Format.{values}
use Rattle.entries.specs.States.{cpu_length, extends, cpu_values, cpu_whole, mmu_length}
use Rattle.fields.specs.declared.Row.{Row}
use Rattle.fields.specs.declared.Spot.{Spot}
use Rattle.fields.specs.declared.State.{State}
use Rattle.fields.specs.declared.State.TheVariants.{Cpu, Mmu}
use Rattle.fields.specs.Layout.{row_at}
use Rattle.fields.specs.Fields.{right_length, listed_numbers, range_checks, state_checks, field_place, has_in, bytes_at, field_checks, field_call, set_to, set_checks, set_call, Changes}
use Rattle.fields.specs.Steps.{field_spot}
use Rattle.fields.proofs.Table.{small_row, apart}

-- ---- what is asked of a state

values-rows : (l : List (ℕ × ℕ × ℕ × ℕ)) (s : List ℕ) → values l s ≡ asked (range_checks l s)
unfolding values
values-rows [] s = refl
values-rows (r ∷ l) s = ap (λ (o : Outcome (Unit {0})). checked ((leb r.2 (le_at r.1 s r.0) && leb (le_at r.1 s r.0) r.3, VALUE, r.0) ∷ []) o) (values-rows l s)

pub judge_cpu : (s : List ℕ) → cpu_whole 2 s ≡ asked (state_checks Cpu s)
unfolding state_checks
judge_cpu s = ap (λ (o : Outcome (Unit {0})). checked ((right_length Cpu s, SHAPE, 0) ∷ []) o) (values-rows (cpu_values 2 (length s)) s)

pub judge_mmu : (s : List ℕ) {b : Bool} → b ≡ right_length Mmu s → asked ((b, SHAPE, 0) ∷ []) ≡ asked (state_checks Mmu s)
unfolding state_checks
judge_mmu s e = ap (λ (t : Bool). asked ((t, SHAPE, 0) ∷ [])) e

-- ---- where a field stands

module _ (r : Row) (i len : ℕ) where
  spot_there : {p : Spot} → taken p ≡ field_spot r i len → (has_in r i len ≡ true) × (p.at ≡ field_place r i) × (p.width ≡ r.width)
  spot_there {p} = go (has_in r i len)
    where
      go : (b : Bool) → ◌≡◌ {A = Outcome Spot} (taken p) (checked ((b, SHAPE, 0) ∷ []) (taken (record { at = field_place r i; width = r.width }))) → (b ≡ true) × (p.at ≡ field_place r i) × (p.width ≡ r.width)
      go true e = let q = taken_is e in (refl, ap (λ (x : Spot). x.at) q, ap (λ (x : Spot). x.width) q)
      go false e = absurd (taken_refused e)

  -- that the state lacks it is the only fault
  spot_lacks : {m p : ℕ} → refused m p ≡ field_spot r i len → (has_in r i len ≡ false) × (SHAPE ≡ m) × (0 ≡ p)
  spot_lacks {m} {p} = go (has_in r i len)
    where
      go : (b : Bool) → ◌≡◌ {A = Outcome Spot} (refused m p) (checked ((b, SHAPE, 0) ∷ []) (taken (record { at = field_place r i; width = r.width }))) → (b ≡ false) × (SHAPE ≡ m) × (0 ≡ p)
      go true e = absurd (taken_refused (sym e))
      go false e = (refl, cc, cc)

-- one that is there
pub record Found (r : Row) (i len : ℕ) (p : Spot) : Type 0 where
  pub has : has_in r i len ≡ true
  pub place : p.at ≡ field_place r i
  pub width : p.width ≡ r.width
  pub ends : p.at + p.width ≤ len
  pub short : p.width ≤ 512

pub found : (k : State) (n i len : ℕ) {p : Spot} → taken p ≡ field_spot (row_at k n) i len → Found (row_at k n) i len p
found k n i len {p} e =
    let r = row_at k n in
    let q = spot_there r i len e in
    let h : field_place r i + r.width ≤ len = leb-true (field_place r i + r.width) len (and_true (ltb i r.count) (leb (field_place r i + r.width) len) q.0).1 in
    record { has = q.0; place = q.1; width = q.2; ends = rw (q.1, q.2) h; short = rw q.2 (small_row k n).width }

-- a field that is set leaves the length, and what the state says of it
pub set_right : (k : State) (n i : ℕ) (v s : List ℕ) → has_in (row_at k n) i (length s) ≡ true → length v ≡ (row_at k n).width → right_length k (set_to (row_at k n) i v s) ≡ right_length k s
set_right Mmu n i v s h w =
    let r = row_at Mmu n in
    let b = and_true (ltb i r.count) (leb (field_place r i + r.width) (length s)) h in
    ap (λ (m : ℕ). eqb m (mmu_length 2)) (length-splice (field_place r i) v s (omega (arith, w, leb-true (field_place r i + r.width) (length s) b.1)))
set_right Cpu n i v s h w =
    ap (λ (m : ℕ). cpu_length 2 m && extends (set_to r i v s)) long ∙ ap (λ (t : Bool). cpu_length 2 (length s) && t) (extends-same (leb (length s) 1191) refl)
  where
    r : Row
    r = row_at Cpu n

    fits : field_place r i + length v ≤ length s
    fits = let b = and_true (ltb i r.count) (leb (field_place r i + r.width) (length s)) h in omega (arith, w, leb-true (field_place r i + r.width) (length s) b.1)

    long : length (set_to r i v s) ≡ length s
    long = length-splice (field_place r i) v s fits

    word : 1191 < length s → le_at 4 (set_to r i v s) 1183 ≡ le_at 4 s 1183
    word g = go (apart n i (ltb-true i r.count (and_true (ltb i r.count) (leb (field_place r i + r.width) (length s)) h).0))
      where
        go : (field_place r i + r.width ≤ 1183) ⊎ (1187 ≤ field_place r i) → le_at 4 (set_to r i v s) 1183 ≡ le_at 4 s 1183
        go (inl e) = le_at_above (field_place r i) v s fits 4 1183 (omega (arith, w)) (omega arith)
        go (inr e) = le_at_below (field_place r i) v s fits 4 1183 (omega arith)

    extends-same : (b : Bool) → leb (length s) 1191 ≡ b → extends (set_to r i v s) ≡ extends s
    extends-same true e = ap (λ (m : ℕ). leb m 1191 || eqb m (1187 + le_at 4 (set_to r i v s) 1183)) long ∙ rw e
    extends-same false e = ap (λ (m : ℕ). leb m 1191 || eqb m (1187 + le_at 4 (set_to r i v s) 1183)) long ∙ ap (λ (x : ℕ). leb (length s) 1191 || eqb (length s) (1187 + x)) (word (leb-false (length s) 1191 e))

-- ---- reading

module _ {A : Type 0} (k : State) (r : Row) (i : ℕ) (s : List ℕ) (next : Outcome A) where
  field_lacks : has_in r i (length s) ≡ false → checked (field_checks k r i s) next ≡ refused SHAPE 0
  unfolding field_checks
  field_lacks e = go (right_length k s)
    where
      go : (b : Bool) → checked ((b, SHAPE, 0) ∷ (has_in r i (length s), SHAPE, 0) ∷ range_checks (listed_numbers k (length s)) s) next ≡ refused SHAPE 0
      go true = rw e
      go false = refl

  field_there : has_in r i (length s) ≡ true → checked (field_checks k r i s) next ≡ checked (state_checks k s) next
  unfolding field_checks state_checks
  field_there e = ap (λ (b : Bool). checked ((right_length k s, SHAPE, 0) ∷ (b, SHAPE, 0) ∷ range_checks (listed_numbers k (length s)) s) next) e

module _ (k : State) (s : List ℕ) (n i have : ℕ) where
  abbrev bytes : Outcome (List ℕ)
  bytes = fitting have (bytes_at (row_at k n) i s)

  pub reads_lacks : {m p : ℕ} → refused m p ≡ field_spot (row_at k n) i (length s) → field_call k have s n i ≡ refused m p
  unfolding field_call
  reads_lacks e =
      let w = spot_lacks (row_at k n) i (length s) e in
      rw (← w.1, ← w.2) (field_lacks k (row_at k n) i s bytes w.0)

  module _ {p : Spot} (e : taken p ≡ field_spot (row_at k n) i (length s)) where
    pub reads_fault : {m q : ℕ} → refused m q ≡ asked (state_checks k s) → field_call k have s n i ≡ refused m q
    unfolding field_call
    reads_fault f = field_there k (row_at k n) i s bytes (found k n i (length s) e).has ∙ asked_stop (state_checks k s) bytes f

    pub reads_fine : taken tt ≡ asked (state_checks k s) → field_call k have s n i ≡ fitting have (take (p.at + p.width - p.at) (drop p.at s))
    unfolding field_call
    reads_fine f =
        let g = found k n i (length s) e in
        let j : p.at + p.width - p.at ≡ p.width = omega arith in
        let b : bytes_at (row_at k n) i s ≡ take (p.at + p.width - p.at) (drop p.at s) = rw (j, g.place, g.width) in
        field_there k (row_at k n) i s bytes g.has ∙ pass-checked (state_checks k s) bytes (asked-pass (state_checks k s) f) ∙ ap (fitting have) b

-- ---- setting

pub changes_refused : {count n p : ℕ} {s : List ℕ} {o : Outcome (List ℕ)} → o ≡ refused n p → Changes count o s (record { number = n; place = p }) s
changes_refused e = record { answers = rw e; leaves = rw e }

pub changes_taken : {count : ℕ} {s b new : List ℕ} {o : Outcome (List ℕ)} → o ≡ taken b → new ≡ b → Changes count o s (record { number = 0; place = count }) new
changes_taken e f = record { answers = rw e; leaves = f ∙ sym (rw e) }

module _ {A : Type 0} (k : State) (r : Row) (i : ℕ) (v s : List ℕ) (next : Outcome A) where
  pub set-length : right_length k s ≡ false → checked (set_checks k r i v s) next ≡ refused SHAPE 0
  unfolding set_checks
  set-length e = rw e

  pub set_lacks : right_length k s ≡ true → has_in r i (length s) ≡ false → checked (set_checks k r i v s) next ≡ refused SHAPE 0
  unfolding set_checks
  set_lacks e f = rw (e, f)

  pub set_wide : right_length k s ≡ true → has_in r i (length s) ≡ true → eqb (length v) r.width ≡ false → checked (set_checks k r i v s) next ≡ refused VALUE (field_place r i)
  unfolding set_checks
  set_wide e f g = rw (e, f, g)

  pub set_tried : right_length k s ≡ true → has_in r i (length s) ≡ true → eqb (length v) r.width ≡ true → checked (set_checks k r i v s) next ≡ checked (state_checks k (set_to r i v s)) next
  unfolding set_checks
  set_tried e f g = rw (e, f, g)

module _ (k : State) (n i : ℕ) (v s : List ℕ) where
  abbrev changed : Outcome (List ℕ)
  changed = taken (set_to (row_at k n) i v s)

  pub sets_length : right_length k s ≡ false → set_call k s n i v ≡ refused SHAPE 0
  unfolding set_call
  sets_length e = set-length k (row_at k n) i v s changed e

  module _ (long : right_length k s ≡ true) where
    pub sets_lacks : {m p : ℕ} → refused m p ≡ field_spot (row_at k n) i (length s) → set_call k s n i v ≡ refused m p
    unfolding set_call
    sets_lacks e =
        let w = spot_lacks (row_at k n) i (length s) e in
        rw (← w.1, ← w.2) (set_lacks k (row_at k n) i v s changed long w.0)

    module _ {p : Spot} (e : taken p ≡ field_spot (row_at k n) i (length s)) where
      pub sets_wide : eqb (length v) p.width ≡ false → set_call k s n i v ≡ refused VALUE p.at
      unfolding set_call
      sets_wide g = let f = found k n i (length s) e in rw f.place (set_wide k (row_at k n) i v s changed long f.has (rw (← f.width) g))

      pub sets_tried : eqb (length v) p.width ≡ true → set_call k s n i v ≡ checked (state_checks k (splice p.at v s)) (taken (splice p.at v s))
      unfolding set_call
      sets_tried g = let f = found k n i (length s) e in rw f.place (set_tried k (row_at k n) i v s changed long f.has (rw (← f.width) g))
